-- Lists that are compared with what is expected, item by item.
use Rattle.std.proofs.Common.{◌≡◌, ℕ, ◌<◌, ◌≤◌, Bool, Option, List, [], ◌∷◌, map, length, get_or, IsTrue, ap, sym, ◌∙◌, arith}
use Rattle.std.specs.Str.{bytes_eq}
use Rattle.std.proofs.lemmas.Slice.Eq.{bytes_eq-Decides}
use Rattle.std.specs.Iterator.{AlwaysYields}
use Rattle.std.proofs.lemmas.Iterator.{YieldsList}

go : {S A B C : Type 0} (steps : S → Option A → S → Type 0) (v : A → B) (f : B → C) (ys : List B) (s : S) → AlwaysYields steps v s ys → AlwaysYields steps (λ a. f (v a)) s (map f ys)
go steps v f [] s e = e
go steps v f (y ∷ ys) s e = (e.0, λ x j p. let a = e.1 x j p in (ap f a.0, go steps v f ys j a.1))

-- what a function makes of the items
pub mapped : {S A B C : Type 0} {steps : S → Option A → S → Type 0} {v : A → B} (f : B → C) {s : S} {ys : List B} → YieldsList steps v s ys → YieldsList steps (λ a. f (v a)) s (map f ys)
mapped {S} {A} {B} {C} {steps} {v} f {s} {ys} e = record { runs = go steps v f ys s e.runs }

-- a list of one list
pub one_item : (xs : List (List ℕ)) (x y : List ℕ) (same : Bool) → x ≡ get_or xs 0 x → 1 ≤ length xs → length xs < 2 → same ≡ bytes_eq x y → (IsTrue same → xs ≡ y ∷ []) × (xs ≡ y ∷ [] → IsTrue same)
one_item [] x y same is l u e = absurd (omega arith)
one_item (a ∷ b ∷ xs) x y same is l u e = absurd (omega arith)
one_item (a ∷ []) x y same is l u e = (λ t. ap (λ b. b ∷ []) (sym is ∙ (bytes_eq-Decides x y).0 (sym e ∙ t)), λ h. e ∙ (bytes_eq-Decides x y).1 (let k : a ≡ y = cc in is ∙ k))
