-- What one more mark does.
use Rattle.std.proofs.Common.{◌≡◌, ℕ, zero, suc, ◌<◌, Bool, true, false, List, [], ◌∷◌, length, set, sym, subst, ◌∙◌, arith, inl, inr, ◌⊎◌, get_or-set_same, get_or-set_other}
use Rattle.std.proofs.lemmas.Bool.{cases_eq, true≢false}
use Rattle.ags_links.specs.Walks.{IsMarked}

-- a marked row is a row
pub marked_below : (marks : List Bool) (r : ℕ) → IsMarked marks r → r < length marks
marked_below [] r h = absurd (true≢false (sym h))
marked_below (m ∷ marks) zero h = omega arith
marked_below (m ∷ marks) (suc r) h = omega (arith, marked_below marks r h)

pub mark_grows : (marks : List Bool) (s r : ℕ) → IsMarked marks r → IsMarked (set marks s true) r
mark_grows marks s r h = elim (cases_eq r s) [
  | inl e ↦ subst (λ x. IsMarked (set marks s true) x) (sym e) (get_or-set_same marks s true false (subst (λ x. x < length marks) e (marked_below marks r h)))
  | inr ne ↦ (get_or-set_other marks s r true false ne ∙ h)
]

-- what is marked then was marked, or is s
pub mark_cases : (marks : List Bool) (s r : ℕ) → IsMarked (set marks s true) r → IsMarked marks r ⊎ (r ≡ s)
mark_cases marks s r h = elim (cases_eq r s) [
  | inl e ↦ inr e
  | inr ne ↦ inl (sym (get_or-set_other marks s r true false ne) ∙ h)
]

pub mark_same : (marks : List Bool) (s : ℕ) → s < length marks → IsMarked (set marks s true) s
mark_same marks s lt = get_or-set_same marks s true false lt
