-- What the index keeps: which row has which text, and what is where in the rows of each group.
use Rattle.std.specs.Prelude.{◌≡◌, ◌<◌, ℕ, List, ◌∷◌, Bool, Contains, map, filter, length, codes, is_some}
use Rattle.std.specs.Str.{bytes_eq}
use Rattle.ags_rows.specs.Contents.{place_in, under}
use Rattle.ags_rows.specs.declared.rows.Group.{Group}
use Rattle.ags_dict.specs.Entries.{Entries, keys_of}
use Rattle.ags_links.specs.declared.families.Family.{Family}
use Rattle.ags_links.specs.declared.placed.PlacedRow.{PlacedRow}
use Rattle.ags_rows.specs.Collecting.{At}
use Rattle.ags_links.specs.DataRows.{DataRow, entry_of}
use Rattle.ags_links.specs.Keys.{key_of}
use Rattle.ags_links.specs.KeyTexts.{key_text}

-- row n has the text in this sense
abbrev pub HasText : List DataRow → (DataRow → List ℕ → Type 0) → ℕ → List ℕ → Type 0
HasText rows Has n text = (r : DataRow) × At rows n r × Has r text

-- the text is the name of its group
abbrev pub HasGroupName : DataRow → List ℕ → Type 0
HasGroupName r text = r.group ≡ text

-- the text is its group and its key
abbrev pub HasKeyText : Entries → DataRow → List ℕ → Type 0
HasKeyText entries r text = key_text (r.group ∷ key_of entries r) ≡ text

-- it is a row of FILE, and the text its FILE_FSET
abbrev pub HasFileSet : DataRow → List ℕ → Type 0
HasFileSet r text = (r.group ≡ codes "FILE") × (entry_of r (codes "FILE_FSET") ≡ text)

-- the text is its entries under the headings
abbrev pub HasEntries : List (List ℕ) → DataRow → List ℕ → Type 0
HasEntries headings r text = key_text (map (entry_of r) headings) ≡ text

-- row n is one of these rows, and has the text in this sense
abbrev pub HasAmong : List ℕ → List DataRow → (DataRow → List ℕ → Type 0) → ℕ → List ℕ → Type 0
HasAmong numbers rows Has n text = Contains numbers n × HasText rows Has n text

-- the heading is one of the names
abbrev pub is_one_of : List (List ℕ) → List ℕ → Bool
is_one_of names heading = is_some (place_in names heading)

-- the headings of type RL
abbrev pub record_links : List (List ℕ) → List (List ℕ) → List (List ℕ)
record_links headings types = filter (λ h. bytes_eq (under headings types h) (codes "RL")) headings

-- what is kept for a group
pub record IsFamily (entries : Entries) (group : Group) (family : Family) : Type 0 where
  pub headings : family.headings ≡ group.headings
  pub key_headings : family.key_headings ≡ keys_of entries group.name
  pub keys : family.keys.items ≡ map (place_in group.headings) (keys_of entries group.name)
  pub file_set : family.file_set ≡ place_in group.headings (codes "FILE_FSET")
  pub links : family.links.items ≡ map (place_in group.headings) (record_links group.headings group.types)

-- of each thing in a list another is kept at the same place, and of both this holds
pub record AreKept {G X : Type 0} (groups : List G) (kept : List X) (Has : ℕ → G → X → Type 0) : Type 0 where
  pub each_has : length kept ≡ length groups
  pub each : (place : ℕ) (group : G) (x : X) → At groups place group → At kept place x → Has place group x

abbrev pub AreFamilies : Entries → List Group → List Family → Type 0
AreFamilies entries groups families = AreKept groups families (λ place. IsFamily entries)

-- what is kept for the row's group is at the group's place
abbrev pub HasFamily : Entries → List Family → PlacedRow → Type 0
HasFamily entries families row =
    (row.place < length families) × ((family : Family) → At families row.place family
    → IsFamily entries row.group.now family)
