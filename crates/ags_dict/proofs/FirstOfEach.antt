-- Adding the first of each new entry, a part at a time.
use Rattle.std.proofs.Common.{◌≡◌, ℕ, ◌+◌, ◌<◌, ◌≤◌, Bool, List, [], ◌∷◌, ◌++◌, length, get_or, map, take, flat_map, true, false, refl, sym, ap, ◌∙◌, arith, append_assoc, inl, inr}
use Rattle.std.specs.List.{list_any}
use Rattle.std.proofs.lemmas.Bool.{cases_Bool}
use Rattle.std.proofs.lemmas.List.{append-nil, take_all, take_more, get_or-map, length-map}
use Rattle.std.proofs.lemmas.List.Concat.{flat_map-append}
use Rattle.ags_dict.specs.Entries.{first_of_each, with_new}

pub with_new_append : {X : Type 0} (same : X → X → Bool) (old xs ys : List X) → with_new same old (xs ++ ys) ≡ with_new same (with_new same old xs) ys
with_new_append same old [] ys = rw (append-nil old) refl
with_new_append {X} same old (x ∷ xs) ys = elim (cases_Bool (list_any (same x) old)) [
  | inl e ↦ rw e (with_new_append same old xs ys)
  | inr e ↦ rw e (
      let next = old ++ x ∷ [] in
      let shift : (z : List X) → next ++ z ≡ old ++ x ∷ z = λ z. append_assoc old (x ∷ []) z in
      sym (shift (first_of_each same next (xs ++ ys))) ∙ with_new_append same next xs ys ∙ ap (λ (z : List X). z ++ first_of_each same z ys) (shift (first_of_each same next xs)))
]

-- the items that one more element of a list gives
pub with_new_more : {X Y Z : Type 0} (same : X → X → Bool) (f : Y → List X) (v : Z → Y) (zs : List Z) (i : ℕ) (z : Z) (old a b : List X) → i < length zs → z ≡ get_or zs i z
    → a ≡ with_new same old (flat_map f (take i (map v zs))) → b ≡ with_new same a (f (v z)) → b ≡ with_new same old (flat_map f (take (i + 1) (map v zs)))
with_new_more {X} {Y} {Z} same f v zs i z old a b lt is before here =
    let all = map v zs in
    let y = v z in
    let below : i < length all = omega (arith, lt, length-map zs v) in
    let at : get_or all i y ≡ y = get_or-map v zs i z y lt ∙ ap v (sym is) in
    let next : take (i + 1) all ≡ take i all ++ y ∷ [] = take_more all i y below ∙ ap (λ (x : Y). take i all ++ x ∷ []) at in
    let more : flat_map f (take (i + 1) all) ≡ flat_map f (take i all) ++ f y =
    ap (flat_map f) next ∙ flat_map-append f (take i all) (y ∷ []) ∙ ap (λ (z : List X). flat_map f (take i all) ++ z) (append-nil (f y)) in
    here ∙ ap (λ (z : List X). with_new same z (f y)) before ∙ sym (with_new_append same old (flat_map f (take i all)) (f y)) ∙ ap (with_new same old) (sym more)

-- one item that the list has
pub restated : {X : Type 0} (same : X → X → Bool) (old : List X) (x : X) → list_any (same x) old ≡ true → old ≡ with_new same old (x ∷ [])
restated same old x h = rw h (sym (append-nil old))

-- one item that it does not have
pub fresh : {X : Type 0} (same : X → X → Bool) (shared own next old : List X) (x : X) → list_any (same x) old ≡ false → next ≡ own ++ x ∷ [] → shared ++ own ≡ old → shared ++ next ≡ with_new same old (x ∷ [])
fresh same shared own next old x h e view = rw (h, e, ← view) (sym (append_assoc shared own (x ∷ [])))

-- the items that all elements of a list give
pub with_new_all : {X Y : Type 0} (same : X → X → Bool) (f : Y → List X) (ys : List Y) (i : ℕ) (old a : List X) → length ys ≤ i → a ≡ with_new same old (flat_map f (take i ys)) → a ≡ with_new same old (flat_map f ys)
with_new_all {X} {Y} same f ys i old a le e = e ∙ ap (λ (l : List Y). with_new same old (flat_map f l)) (take_all i ys le)

-- no item
pub with_new_none : {X : Type 0} (same : X → X → Bool) (old a : List X) → a ≡ old → a ≡ with_new same old []
with_new_none same old a e = e ∙ sym (append-nil old)
