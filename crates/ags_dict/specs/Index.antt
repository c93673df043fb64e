-- How entries are found without reading all of them: no promise speaks of it, only the types that keep it.
use Rattle.std.specs.Prelude.{◌≡◌, ℕ, List, [], ◌∷◌, ◌++◌, map, Bool, false, not, ◌&&◌, Option, Some, None, slice_get, if◌then◌else◌}
use Rattle.std.specs.List.{filter}
use Rattle.std.specs.Option.{option_map_or, option_and_then, option_or}
use Rattle.std.specs.Ordering.{nat_cmp}
use Rattle.std.specs.Cmp.Lexicographic.{slice_cmp}
use Rattle.std.specs.Str.{bytes_eq}
use Rattle.std.specs.BTreeMap.{BTreeMap, get_by}
use Rattle.std.specs.declared.alloc.Global.{Global}
use Rattle.std.specs.declared.vec.Vec.{Vec}
use Rattle.ags_rows.specs.Contents.{place_in}
use Rattle.ags_dict.specs.declared.entries.GroupEntry.{GroupEntry}
use Rattle.ags_dict.specs.declared.entries.HeadingEntry.{HeadingEntry}
use Rattle.ags_dict.specs.declared.places.PlacesByText.{PlacesByText}
use Rattle.ags_dict.specs.declared.places.PlacesByGroup.{PlacesByGroup}

-- what a map has at a text
abbrev pub value_at : {X : Type 0} → BTreeMap (Vec ℕ Global) X → List ℕ → Option X
value_at held text = get_by (λ k. slice_cmp nat_cmp text k.items) held

-- the places that are kept for a text
abbrev pub places_at : PlacesByText → List ℕ → List ℕ
places_at places text = option_map_or (λ v. v.items) (value_at places.held text) []

-- the places that are kept for a group's entries
abbrev pub group_places : PlacesByGroup → List ℕ → List ℕ
group_places places group = option_map_or (λ g. g.places.items) (value_at places.held group) []

-- the place in a group's order that is kept for a heading
abbrev pub rank_at : PlacesByGroup → List ℕ → List ℕ → Option ℕ
rank_at places group heading = option_and_then (λ g. value_at g.ranks heading) (value_at places.held group)

-- the place is kept for the text, after those kept before, and nothing changes for other texts
abbrev pub NotesPlace : List ℕ → ℕ → (List ℕ → List ℕ) → (List ℕ → List ℕ) → Type 0
NotesPlace text place old new =
    (other : List ℕ) → new other ≡ (if bytes_eq text other then old other ++ place ∷ [] else old other)

-- the heading gets this place in the order of its group unless it has one, and other headings keep theirs
abbrev pub NotesRank : List ℕ → List ℕ → ℕ → PlacesByGroup → PlacesByGroup → Type 0
NotesRank group heading rank old new = (g h : List ℕ) → rank_at new g h
    ≡ option_or (rank_at old g h) (if bytes_eq group g && bytes_eq heading h then Some rank else None)

-- the same in the order of one group
abbrev pub NotesFirst : List ℕ → ℕ → BTreeMap (Vec ℕ Global) ℕ → BTreeMap (Vec ℕ Global) ℕ → Type 0
NotesFirst heading rank old new = (h : List ℕ) → value_at new h
    ≡ option_or (value_at old h) (if bytes_eq heading h then Some rank else None)

-- these are the places of the items that pass the test, in their order
abbrev pub ArePlaces : {X : Type 0} → (X → Bool) → List X → List ℕ → Type 0
ArePlaces test items places = map (slice_get items) places ≡ map Some (filter test items)

abbrev pub is_for : List ℕ → GroupEntry → Bool
is_for group entry = bytes_eq entry.group group

abbrev pub of_group : List ℕ → HeadingEntry → Bool
of_group group entry = bytes_eq entry.group group

abbrev pub is_named : List ℕ → HeadingEntry → Bool
is_named heading entry = bytes_eq entry.heading heading

-- the entry for a heading of a group
abbrev pub is_heading : List ℕ → List ℕ → HeadingEntry → Bool
is_heading group heading entry = of_group group entry && is_named heading entry

-- the entry at a place is there, and for another group
abbrev pub is_of_other : List HeadingEntry → List ℕ → ℕ → Bool
is_of_other entries group place = option_map_or (λ e. not (of_group group e)) (slice_get entries place) false

-- each group's entries are found by its name
abbrev pub FindsGroups : List GroupEntry → PlacesByText → Type 0
FindsGroups entries by_name = (group : List ℕ) → ArePlaces (is_for group) entries (places_at by_name group)

-- a group's entries are found by its name, those of a heading by its, and a heading's place in the order of its group
-- by both
pub record FindsHeadings (entries : List HeadingEntry) (by_group : PlacesByGroup) (by_heading : PlacesByText)
    : Type 0 where
  pub groups : (group : List ℕ) → ArePlaces (of_group group) entries (group_places by_group group)
  pub headings : (heading : List ℕ) → ArePlaces (is_named heading) entries (places_at by_heading heading)
  pub orders : (group heading : List ℕ) → rank_at by_group group heading
      ≡ place_in (map (λ e. e.heading) (filter (of_group group) entries)) heading
