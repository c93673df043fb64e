-- An index of names: each at its first place.
use Rattle.std.specs.Prelude.{◌≡◌, ℕ, List, Option, Some, None, if◌then◌else◌}
use Rattle.std.specs.Borrow.{Bor}
use Rattle.std.specs.Ordering.{nat_cmp}
use Rattle.std.specs.Str.{bytes_eq}
use Rattle.std.specs.Cmp.Lexicographic.{slice_cmp}
use Rattle.std.specs.BTreeMap.{BTreeMap, get_by}
use Rattle.ags_rows.specs.Contents.{place_in}

-- the first of two places
abbrev pub first_of : Option ℕ → Option ℕ → Option ℕ
first_of None place = place
first_of (Some place) other = Some place

-- the place, if the names are equal
abbrev pub place_if : List ℕ → List ℕ → ℕ → Option ℕ
place_if name other place = if bytes_eq name other then Some place else None

-- what the index has at a name
abbrev pub place_at : BTreeMap (Bor (List ℕ)) ℕ → List ℕ → Option ℕ
place_at first name = get_by (λ key. slice_cmp nat_cmp name key.now) first

-- the new index is the old one with this name at this place, unless the old one has the name
abbrev pub AddsPlace : BTreeMap (Bor (List ℕ)) ℕ → BTreeMap (Bor (List ℕ)) ℕ → List ℕ → ℕ → Type 0
AddsPlace old new name place =
    (other : List ℕ) → place_at new other ≡ first_of (place_at old other) (place_if name other place)

-- the index has each name of the list at its first place, and no other name
abbrev pub AreFirst : BTreeMap (Bor (List ℕ)) ℕ → List (List ℕ) → Type 0
AreFirst first names = (name : List ℕ) → place_at first name ≡ place_in names name
