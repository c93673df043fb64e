-- What a file holds, without its line numbers.
use Rattle.std.specs.Prelude.{ℕ, List, [], map, position, Option, Some, None, slice_index_or}
use Rattle.std.specs.Str.{bytes_eq}
use Rattle.ags_rows.specs.declared.rows.Row.{Row}
use Rattle.ags_rows.specs.declared.rows.Group.{Group}

-- A group: its name, its header rows and the fields of its DATA rows.
pub record Contents : Type 0 where
  pub name : List ℕ
  pub headings : List (List ℕ)
  pub units : List (List ℕ)
  pub types : List (List ℕ)
  pub rows : List (List (List ℕ))

-- the fields of a DATA row, without its line
abbrev pub fields_of : Row → List (List ℕ)
fields_of row = row.cells

-- the contents of one group
abbrev pub group_contents : Group → Contents
group_contents group = record {
  name = group.name;
  headings = group.headings;
  units = group.units;
  types = group.types;
  rows = map fields_of group.rows;
}

-- the contents of a file: of its groups, in their order
abbrev pub contents_of : List Group → List Contents
contents_of groups = map group_contents groups

-- the first place of a heading in a list of headings
abbrev pub place_in : List (List ℕ) → List ℕ → Option ℕ
place_in headings heading = position (λ h. bytes_eq h heading) headings

-- the field at a place, null where there is none
abbrev pub field_at : List (List ℕ) → Option ℕ → List ℕ
field_at fields None = []
field_at fields (Some place) = slice_index_or fields place []

-- the field under a heading, null where the heading is absent
abbrev pub under : List (List ℕ) → List (List ℕ) → List ℕ → List ℕ
under headings fields heading = field_at fields (place_in headings heading)
