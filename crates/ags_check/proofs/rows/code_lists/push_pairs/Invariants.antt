use Rattle.std.proofs.Common.{◌≡◌, ◌++◌, take, map}
use Rattle.ags_rows.specs.Contents.{fields_of}
use Rattle.ags_check.specs.CodeLists.{pair_texts, abbreviation_in}
use Rattle.ags_check.proofs.rows.code_lists.push_pairs.Given as goal

abbrev pub invariant-loop-row : goal.invariant-loop-row
invariant-loop-row l = map pair_texts l.pairs.items ≡ map pair_texts l.fn.pairs.items ++ map (abbreviation_in l.group.headings) (map fields_of (take l.row-index l.rows))
