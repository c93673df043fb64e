use Rattle.std.proofs.Common.{◌≡◌, take, map}
use Rattle.ags_rows.specs.Contents.{contents_of}
use Rattle.ags_check.specs.CodeLists.{pair_texts, abbreviations}
use Rattle.ags_check.proofs.rows.code_lists.pairs.Given as goal

abbrev pub invariant-loop-group : goal.invariant-loop-group
invariant-loop-group l = map pair_texts l.pairs.items ≡ abbreviations (contents_of (take l.group-index l.groups))
