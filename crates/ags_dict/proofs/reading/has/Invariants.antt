use Rattle.std.proofs.Common.{◌≡◌, ℕ, List, take, false}
use Rattle.std.specs.List.{list_any}
use Rattle.std.specs.Str.{bytes_eq}
use Rattle.ags_dict.proofs.reading.has.Given as goal

abbrev pub invariant-loop-heading : goal.invariant-loop-heading
invariant-loop-heading l = list_any (λ (h : List ℕ). bytes_eq h l.wanted) (take l.heading-index l.headings) ≡ false
