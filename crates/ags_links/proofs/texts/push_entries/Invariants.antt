use Rattle.std.proofs.Common.{◌≡◌, ◌++◌, take, flat_map}
use Rattle.ags_rows.specs.Contents.{field_at}
use Rattle.ags_links.specs.KeyTexts.{ended_text}
use Rattle.ags_links.specs.Placing.{row_of}
use Rattle.ags_links.proofs.texts.push_entries.Given as goal

abbrev pub invariant-loop-place : goal.invariant-loop-place
invariant-loop-place l = l.out.items ≡ l.fn.out.items ++ flat_map (λ p. ended_text (field_at (row_of l.row).fields p)) (take l.place-index l.places)
