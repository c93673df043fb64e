-- What a list contains, by cases on the list.
use Rattle.std.proofs.Common.{◌≡◌, ℕ, suc, ◌<◌, Bool, true, false, cond, List, [], ◌∷◌, length, get_or, map, filter, refl, sym, subst, ap, ◌∙◌, arith, inl, inr, ◌⊎◌, Contains, All, eqb}
use Rattle.std.proofs.lemmas.Bool.{cond_both, eq-eqb, eqb-true, eqb-false}
use Rattle.std.proofs.lemmas.List.{nil_from_length}
use Rattle.std.proofs.lemmas.List.Elements.{All-contains, All-contains_itself, All-filter, filter_passes, Contains-get_or, Contains-append_cases}
use Rattle.ags_rows.proofs.Lemmas.{at_map, at_mapped, at_contained, contains_at, none_is, one_is}
use Rattle.ags_links.specs.Walks.{HasStep, InRange}
use Rattle.ags_links.specs.Work.{targets}

pub contains_head : {X : Type 0} (x : X) (xs : List X) → Contains (x ∷ xs) x
contains_head x xs = (0, omega arith, refl)

pub contains_tail : {X : Type 0} (y : X) (xs : List X) (x : X) → Contains xs x → Contains (y ∷ xs) x
contains_tail y xs x h = (suc h.0, omega (arith, h.1), h.2)

pub contains_cons : {X : Type 0} (y : X) (xs : List X) (x : X) → Contains (y ∷ xs) x → (y ≡ x) ⊎ Contains xs x
contains_cons y xs x h = elim (Contains-append_cases (y ∷ []) xs x h) [ inl k ↦ inl (one_is y x k) | inr k ↦ inr k ]

-- what passes is kept
pub contains_filter : {X : Type 0} (p : X → Bool) (xs : List X) (x : X) → Contains xs x → p x ≡ true → Contains (filter p xs) x
contains_filter p [] x h pass = h
contains_filter p (y ∷ xs) x h pass = elim (contains_cons y xs x h) [
  | inl e ↦ rw (ap p e ∙ pass) (subst (Contains (y ∷ filter p xs)) e (contains_head y (filter p xs)))
  | inr more ↦ cond_both (p y) (y ∷ filter p xs) (filter p xs) (λ l. Contains l x) (λ is. contains_tail y (filter p xs) x (contains_filter p xs x more pass)) (λ is. contains_filter p xs x more pass)
]

-- what is kept was there, and passes
pub filter_contains : {X : Type 0} (p : X → Bool) (xs : List X) (x : X) → Contains (filter p xs) x → Contains xs x × (p x ≡ true)
filter_contains p xs x h = (All-contains (Contains xs) (filter p xs) x (All-filter p (Contains xs) xs (All-contains_itself xs)) h, All-contains (λ y. p y ≡ true) (filter p xs) x (filter_passes p xs) h)

pub contains_map : {X Y : Type 0} (f : X → Y) (xs : List X) (x : X) → Contains xs x → Contains (map f xs) (f x)
contains_map f xs x h = contains_at (map f xs) h.0 (f x) (at_map f xs h.0 x (at_contained xs x h))

pub map_contains : {X Y : Type 0} (f : X → Y) (xs : List X) (z : Y) → Contains (map f xs) z → (x : X) × Contains xs x × (f x ≡ z)
map_contains f xs z h = let m = at_mapped f xs h.0 z (at_contained (map f xs) z h) in (m.0, contains_at xs h.0 m.0 m.1, m.2)

-- a list that may have one item
pub contains_if : {X : Type 0} (t : Bool) (n m : X) → Contains (cond t (n ∷ []) []) m → (t ≡ true) × (n ≡ m)
contains_if true n m h = (refl, one_is n m h)
contains_if false n m h = absurd (none_is m h)

-- a list of no items
pub no_items : (xs : List ℕ) (t : Bool) → t ≡ eqb (length xs) 0 → t ≡ true → xs ≡ []
no_items xs t e is = nil_from_length xs (eqb-true (length xs) 0 (sym e ∙ is))

pub some_items : {X : Type 0} (xs : List X) (t : Bool) → t ≡ eqb (length xs) 0 → t ≡ false → 0 < length xs
some_items xs t e is = omega (arith, eqb-false (length xs) 0 (sym e ∙ is))

-- a row has its steps among its targets, and nothing else
pub target_of_step : (steps : List (ℕ × ℕ)) (r s : ℕ) → HasStep steps r s → Contains (targets steps r) s
target_of_step steps r s step = contains_map (λ (p : ℕ × ℕ). p.1) (filter (λ (p : ℕ × ℕ). eqb p.0 r) steps) (r, s) (contains_filter (λ (p : ℕ × ℕ). eqb p.0 r) steps (r, s) step (eq-eqb r r refl))

pub step_of_target : (steps : List (ℕ × ℕ)) (r s : ℕ) → Contains (targets steps r) s → HasStep steps r s
step_of_target steps r s target =
    let from = map_contains (λ (p : ℕ × ℕ). p.1) (filter (λ (p : ℕ × ℕ). eqb p.0 r) steps) s target in
    let kept = filter_contains (λ (p : ℕ × ℕ). eqb p.0 r) steps from.0 from.1 in
    let e : from.0.0 ≡ r = eqb-true from.0.0 r kept.1 in
    let same : from.0 ≡ (r, s) = ap (λ x. (x, from.0.1)) e ∙ ap (λ y. (r, y)) from.2 in
    subst (Contains steps) same kept.0

-- the targets of steps in range are rows
pub targets_below : (n : ℕ) (steps : List (ℕ × ℕ)) (r : ℕ) → InRange n steps → All (λ s. s < n) (targets steps r)
targets_below n steps r range k d lt = (All-contains (λ (p : ℕ × ℕ). (p.0 < n) × (p.1 < n)) steps (r, get_or (targets steps r) k d) range (step_of_target steps r (get_or (targets steps r) k d) (Contains-get_or (targets steps r) k d lt))).1
