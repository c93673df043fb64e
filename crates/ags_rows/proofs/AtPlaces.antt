-- The item at a place of a list: `At`, by the place and that item, and as a member; and what holds of each item.
use Rattle.std.proofs.Common.{◌≡◌, ℕ, Bool, true, false, zero, suc, ◌+◌, ◌<◌, List, [], ◌∷◌, ◌++◌, length, get_or, map, take, Some, refl, sym, ◌∙◌, ap, arith}
use Rattle.std.specs.Prelude.{Contains, slice_get, option_map}
use Rattle.std.specs.List.{AllByRecursion, list_all, list_any}
use Rattle.std.proofs.lemmas.Bool.{or_parts}
use Rattle.std.proofs.lemmas.List.{take_more}
use Rattle.std.proofs.lemmas.List.Elements.{All-append, All-contains, All-from_recursion, All-weaker, recursion_from_All}
use Rattle.std.proofs.lemmas.List.Sums.{AllPass-from_list_all}
use Rattle.std.proofs.lemmas.Option.{slice_get-get_or, slice_get-map, slice_get_within, get_or_from_slice_get}
use Rattle.ags_rows.specs.Collecting.{At}

-- as it is looked up
pub at_get : {X : Type 0} (xs : List X) (k : ℕ) (x : X) → At xs k x → slice_get xs k ≡ Some x
at_get xs k x at = slice_get-get_or xs k x at.0 ∙ ap Some at.1

pub get_at : {X : Type 0} (xs : List X) (k : ℕ) (x : X) → slice_get xs k ≡ Some x → At xs k x
get_at xs k x is = (slice_get_within xs k x is, get_or_from_slice_get xs k x x is)

-- whatever is read past the end
pub at_read : {X : Type 0} (xs : List X) (k : ℕ) (x d : X) → At xs k x → get_or xs k d ≡ x
at_read xs k x d at = get_or_from_slice_get xs k x d (at_get xs k x at)

pub at_from_read : {X : Type 0} (xs : List X) (k : ℕ) (x d : X) → k < length xs → get_or xs k d ≡ x → At xs k x
at_from_read xs k x d lt is = get_at xs k x (slice_get-get_or xs k d lt ∙ ap Some is)

-- a place has one item
pub at_same : {X : Type 0} (xs : List X) (k : ℕ) (x y : X) → At xs k x → At xs k y → x ≡ y
at_same xs k x y a b = sym (at_read xs k x x a) ∙ at_read xs k y x b

-- with one item before the others, and without it
pub at_later : {X : Type 0} (y : X) (xs : List X) (k : ℕ) (x : X) → At xs k x → At (y ∷ xs) (suc k) x
at_later y xs k x at = (omega (arith, at.0), at.1)

pub at_earlier : {X : Type 0} (y : X) (xs : List X) (k : ℕ) (x : X) → At (y ∷ xs) (suc k) x → At xs k x
at_earlier y xs k x at = (omega (arith, at.0), at.1)

-- the item at a place of a list, with a function applied to each item
pub at_map : {X Y : Type 0} (f : X → Y) (xs : List X) (k : ℕ) (x : X) → At xs k x → At (map f xs) k (f x)
at_map f xs k x at = get_at (map f xs) k (f x) (slice_get-map f xs k ∙ ap (option_map f) (at_get xs k x at))

pub at_mapped : {X Y : Type 0} (f : X → Y) (xs : List X) (k : ℕ) (y : Y) → At (map f xs) k y → (x : X) × At xs k x × (f x ≡ y)
at_mapped f [] k y at = absurd (omega (arith, at.0))
at_mapped f (x ∷ xs) zero y at = (x, (omega arith, refl), at.1)
at_mapped f (x ∷ xs) (suc k) y at = let r = at_mapped f xs k y (omega (arith, at.0), at.1) in (r.0, at_later x xs k r.0 r.1, r.2)

pub contains_at : {X : Type 0} (xs : List X) (k : ℕ) (x : X) → At xs k x → Contains xs x
contains_at xs k x at = (k, at.0, at.1)

pub at_contained : {X : Type 0} (xs : List X) (x : X) (h : Contains xs x) → At xs h.0 x
at_contained xs x h = (h.1, h.2)

-- the items up to the next place are those before this place and the item at it
pub take_at : {X : Type 0} (xs : List X) (k : ℕ) (x : X) → At xs k x → take (k + 1) xs ≡ take k xs ++ x ∷ []
take_at {X} xs k x at = take_more xs k x at.0 ∙ ap (λ (y : X). take k xs ++ y ∷ []) at.1

-- ---- what holds of each item

pub all_append : {X : Type 0} (P : X → Type 0) (a b : List X) → AllByRecursion P a → AllByRecursion P b → AllByRecursion P (a ++ b)
all_append P a b h k = recursion_from_All P (a ++ b) (All-append P a b (All-from_recursion P a h) (All-from_recursion P b k))

pub all_left : {X : Type 0} (P : X → Type 0) (a b : List X) → AllByRecursion P (a ++ b) → AllByRecursion P a
all_left P [] b h = tt
all_left P (x ∷ a) b h = (h.0, all_left P a b h.1)

pub all_right : {X : Type 0} (P : X → Type 0) (a b : List X) → AllByRecursion P (a ++ b) → AllByRecursion P b
all_right P [] b h = h
all_right P (x ∷ a) b h = all_right P a b h.1

pub all_weaker : {X : Type 0} {P Q : X → Type 0} → ((x : X) → P x → Q x) → (xs : List X) → AllByRecursion P xs → AllByRecursion Q xs
all_weaker {X} {P} {Q} f xs h = recursion_from_All Q xs (All-weaker P Q f xs (All-from_recursion P xs h))

pub all_at : {X : Type 0} (P : X → Type 0) (xs : List X) (k : ℕ) (x : X) → AllByRecursion P xs → At xs k x → P x
all_at P xs k x h at = All-contains P xs x (All-from_recursion P xs h) (contains_at xs k x at)

pub all_from_at : {X : Type 0} (P : X → Type 0) (xs : List X) → ((k : ℕ) (x : X) → At xs k x → P x) → AllByRecursion P xs
all_from_at P xs h = recursion_from_All P xs (λ k d lt. h k (get_or xs k d) (at_from_read xs k (get_or xs k d) d lt refl))

-- where each item passes a test, and where none does
pub all_by_test : {X : Type 0} (P : X → Type 0) (test : X → Bool) → ((x : X) → test x ≡ true → P x) → (xs : List X) → list_all test xs ≡ true → AllByRecursion P xs
all_by_test P test sound xs e = recursion_from_All P xs (All-weaker (λ x. test x ≡ true) P sound xs (AllPass-from_list_all test xs e))

pub none_by_test : {X : Type 0} (P : X → Type 0) (test : X → Bool) → ((x : X) → test x ≡ false → P x) → (xs : List X) → list_any test xs ≡ false → AllByRecursion P xs
none_by_test P test sound [] e = tt
none_by_test P test sound (x ∷ xs) e = let parts = or_parts (test x) (list_any test xs) e in (sound x parts.0, none_by_test P test sound xs parts.1)
