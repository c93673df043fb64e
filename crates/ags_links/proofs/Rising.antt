-- Numbers that rise, each once.
use Rattle.std.proofs.Common.{◌≡◌, ℕ, ◌+◌, ◌<◌, ◌≤◌, List, [], ◌∷◌, ◌++◌, length, get_or, ap, ◌∙◌, arith, inl, inr, Contains}
use Rattle.std.specs.List.Sorted.{IsStrictlyIncreasing}
use Rattle.std.proofs.lemmas.Bool.{cases_eq, cases_lt}
use Rattle.std.proofs.lemmas.List.{length_push, get_or_append_left, get_or_default, get_or_push}
use Rattle.std.proofs.lemmas.List.Elements.{Contains-get_or}
use Rattle.std.proofs.lemmas.List.Kept.{AllPairs-from_increasing}

pub rising_nil : IsStrictlyIncreasing []
rising_nil k lt = absurd (omega arith)

-- one more number above all
pub rising_push : (xs : List ℕ) (n : ℕ) → IsStrictlyIncreasing xs → ((m : ℕ) → Contains xs m → m < n) → IsStrictlyIncreasing (xs ++ n ∷ [])
rising_push xs n rises below k lt = elim (cases_lt (k + 1) (length xs)) [
  | inl more ↦
      omega (arith, rises k more, get_or_append_left xs (n ∷ []) 0 k (omega (arith, more)), get_or_append_left xs (n ∷ []) 0 (k + 1) more)
  | inr last ↦
      let here : k < length xs = omega (arith, lt, length_push xs n) in
      let e : length xs ≡ k + 1 = omega (arith, lt, length_push xs n, last) in
      omega (arith, below (get_or xs k 0) (Contains-get_or xs k 0 here), get_or_append_left xs (n ∷ []) 0 k here, get_or_push xs n 0 (k + 1) e)
]

-- an earlier number is below a later one
pub earlier_is_below : (xs : List ℕ) (j i : ℕ) → IsStrictlyIncreasing xs → j < i → i < length xs → get_or xs j 0 < get_or xs i 0
earlier_is_below xs j i rises below lt = AllPairs-from_increasing xs rises j i 0 below lt

-- the first number is the least
pub first_is_least : (xs : List ℕ) (m : ℕ) → IsStrictlyIncreasing xs → Contains xs m → get_or xs 0 0 ≤ m
first_is_least xs m rises h = elim (cases_eq 0 h.0) [
  | inl first ↦ omega (arith, ap (λ k. get_or xs k 0) first, get_or_default xs h.0 0 m h.1 ∙ h.2)
  | inr later ↦ omega (arith, earlier_is_below xs 0 h.0 rises (omega (arith, later)) h.1, get_or_default xs h.0 0 m h.1 ∙ h.2)
]
