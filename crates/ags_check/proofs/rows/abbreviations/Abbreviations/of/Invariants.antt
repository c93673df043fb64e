use Rattle.std.proofs.Common.{take, map}
use Rattle.ags_check.specs.CodeLists.{HasPairs, pair_texts}
use Rattle.ags_check.proofs.rows.abbreviations.Abbreviations.of.Given as goal

abbrev pub invariant-loop-heading : goal.invariant-loop-heading
invariant-loop-heading l = HasPairs l.held (map pair_texts (take l.heading-index l.pairs))
