use Rattle.std.proofs.Common.{◌≡◌, ◌++◌, take, map}
use Rattle.ags_rows.specs.Contents.{under, fields_of}
use Rattle.ags_check.proofs.rows.code_lists.push_texts.Given as goal

abbrev pub invariant-loop-row : goal.invariant-loop-row
invariant-loop-row l = map (λ t. t.now) l.texts.items ≡ map (λ t. t.now) l.fn.texts.items ++ map (λ fields. under l.group.headings fields l.heading) (map fields_of (take l.row-index l.rows))
