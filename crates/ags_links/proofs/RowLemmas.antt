-- What is where in a list.
use Rattle.std.proofs.Common.{◌≡◌, ℕ, ◌<◌, List, [], ◌∷◌, ◌++◌, length, get_or, map, refl, sym, ◌∙◌, arith, inl, inr, ◌⊎◌}
use Rattle.std.proofs.lemmas.Bool.{cases_lt}
use Rattle.std.proofs.lemmas.List.{length_push, get_or_append_left, get_or_default, get_or_push}
use Rattle.ags_rows.specs.Collecting.{At}
use Rattle.ags_rows.proofs.Lemmas.{at_map, at_same}

-- one thing is at a place
pub one_at : {X : Type 0} (xs : List X) (n : ℕ) (r s : X) → At xs n r → At xs n s → r ≡ s
one_at xs n r s h k = at_same xs n r s h k

-- what is at a place
pub read_at : {X : Type 0} (xs : List X) (n : ℕ) (d : X) → n < length xs → At xs n (get_or xs n d)
read_at xs n d lt = (lt, get_or_default xs n (get_or xs n d) d lt)

-- something is at each place
pub some_at : {X : Type 0} (xs : List X) (n : ℕ) → n < length xs → (x : X) × At xs n x
some_at [] n lt = absurd (omega arith)
some_at (x ∷ xs) n lt = (get_or (x ∷ xs) n x, read_at (x ∷ xs) n x lt)

pub at_before : {X : Type 0} (xs : List X) (x : X) (n : ℕ) (r : X) → At xs n r → At (xs ++ x ∷ []) n r
at_before xs x n r h = (omega (arith, h.0, length_push xs x), get_or_append_left xs (x ∷ []) r n h.0 ∙ h.1)

pub at_last : {X : Type 0} (xs : List X) (x : X) → At (xs ++ x ∷ []) (length xs) x
at_last xs x = (omega (arith, length_push xs x), get_or_push xs x x (length xs) refl)

-- it was there before, or is the last
pub at_cases : {X : Type 0} (xs : List X) (x : X) (n : ℕ) (r : X) → At (xs ++ x ∷ []) n r → At xs n r ⊎ ((n ≡ length xs) × (x ≡ r))
at_cases xs x n r h = elim (cases_lt n (length xs)) [
  | inl lt ↦ inl (lt, sym (get_or_append_left xs (x ∷ []) r n lt) ∙ h.1)
  | inr ge ↦ let e : length xs ≡ n = omega (arith, ge, h.0, length_push xs x) in inr (sym e, sym (get_or_push xs x r n e) ∙ h.1)
]

-- what is at a place of a list made of another was made of what is at that place of the other
pub map_at : {X Y : Type 0} (f : X → Y) (xs : List X) (n : ℕ) (x : X) (y : Y) → At xs n x → At (map f xs) n y → f x ≡ y
map_at f xs n x y h k = one_at (map f xs) n (f x) y (at_map f xs n x h) k
