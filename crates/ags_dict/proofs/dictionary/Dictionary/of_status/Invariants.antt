use Rattle.std.proofs.Common.{◌≡◌, map, take}
use Rattle.std.specs.List.{filter}
use Rattle.ags_text.specs.Bytes.{plus_sign}
use Rattle.ags_rows.specs.Parts.{has_part}
use Rattle.ags_dict.proofs.dictionary.Dictionary.of_status.Given as goal

abbrev pub invariant-loop-entry : goal.invariant-loop-entry
invariant-loop-entry l = map (λ h. h.now) l.found.items ≡ map (λ e. e.heading) (filter (λ e. has_part plus_sign l.word e.status) (take l.entry-index (map (λ e. e.now) l.entry-items)))
