use Rattle.std.proofs.Common.{take}
use Rattle.ags_links.specs.Adding.{AddsRows}
use Rattle.ags_links.specs.Indexing.{IsNamedAmong}
use Rattle.ags_links.proofs.Kept.{texts}
use Rattle.ags_links.proofs.steps.add_named.Given as goal

abbrev pub invariant-loop-part : goal.invariant-loop-part
invariant-loop-part l = AddsRows l.fn.found.items l.found.items (IsNamedAmong l.index (texts (take l.part-index l.parts)))
