use Rattle.std.proofs.Common.{◌≡◌, take, false}
use Rattle.std.specs.List.{list_any}
use Rattle.ags_dict.specs.Index.{is_of_other}
use Rattle.ags_dict.proofs.headings.indexed.IndexedHeadings.elsewhere.Given as goal

abbrev pub invariant-loop-place : goal.invariant-loop-place
invariant-loop-place l = list_any (is_of_other l.self l.group) (take l.place-index l.place-items) ≡ false
