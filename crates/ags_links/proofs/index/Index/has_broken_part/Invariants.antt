use Rattle.std.proofs.Common.{take}
use Rattle.ags_links.proofs.Kept.{texts}
use Rattle.ags_links.proofs.Linking.{EachNames}
use Rattle.ags_links.proofs.index.Index.has_broken_part.Given as goal

abbrev pub invariant-loop-part : goal.invariant-loop-part
invariant-loop-part l = EachNames l.self (texts (take l.part-index l.part-items))
