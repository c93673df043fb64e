-- Findings without a subject, in the order of findings.
use Rattle.std.proofs.Common.{◌≡◌, List, [], ◌∷◌, map, ap, subst}
use Rattle.std.proofs.lemmas.List.Elements.{All-from_recursion, All-map, recursion_from_All}
use Rattle.std.specs.Prelude.{Contains}
use Rattle.std.specs.List.{AllByRecursion}
use Rattle.std.specs.List.Sorted.{IsStrictlySortedBy}
use Rattle.std.specs.Ordering.{on}
use Rattle.std.specs.declared.cmp.Ordering.{Ordering}
use Rattle.std.specs.declared.cmp.Ordering.TheVariants.{Less}
use Rattle.std.proofs.lemmas.Map.Lookups.{CmpEqualImpliesEq}
use Rattle.ags_rows.specs.declared.finding.Finding.{Finding}
use Rattle.ags_rows.specs.FindingLists.{bare_cmp, bare_finding}
use Rattle.ags_rows.proofs.AtPlaces.{at_contained, at_map, at_mapped, contains_at}
use Rattle.ags_rows.proofs.Files.{finding_exact}

pub bare_exact : CmpEqualImpliesEq bare_cmp
bare_exact x y h = ap (λ (f : Finding). record { line = f.line; code = f.code }) (finding_exact (bare_finding x) (bare_finding y) h)

all_mapped : {X Y : Type 0} (f : X → Y) (P : Y → Type 0) (xs : List X) → AllByRecursion (λ x. P (f x)) xs → AllByRecursion P (map f xs)
all_mapped f P xs h = recursion_from_All P (map f xs) (All-map P f xs (All-from_recursion (λ x. P (f x)) xs h))

-- an order of what a function gives of each
pub sorted_mapped : {X Y : Type 0} (f : X → Y) (R : Y → Y → Ordering) (xs : List X) → IsStrictlySortedBy (on f R) xs → IsStrictlySortedBy R (map f xs)
unfolding IsStrictlySortedBy
sorted_mapped f R [] h = tt
sorted_mapped f R (x ∷ xs) h = (all_mapped f (λ y. R (f x) y ≡ Less) xs h.0, sorted_mapped f R xs h.1)

-- the values of a function for some items are among its values for all items
pub mapped_within : {X Y : Type 0} (f : X → Y) (xs ys : List X) → ((x : X) → Contains xs x → Contains ys x) → (y : Y) → Contains (map f xs) y → Contains (map f ys) y
mapped_within f xs ys within y h =
    let one = at_mapped f xs h.0 y (at_contained (map f xs) y h) in
    let there = within one.0 (contains_at xs h.0 one.0 one.1) in
    subst (Contains (map f ys)) one.2 (contains_at (map f ys) there.0 (f one.0) (at_map f ys there.0 one.0 (at_contained ys one.0 there)))
