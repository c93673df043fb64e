-- What a group says of its headings, and what the dictionary says of the group: looked up once a group.
use Rattle.std.specs.Prelude.{◌≡◌, ◌≢◌, ◌↔◌, ◌+◌, ℕ, List, [], Bool, not, All, Option, map, codes, is_some, IsTrue}
use Rattle.ags_rows.specs.declared.rows.Group.{Group}
use Rattle.ags_rows.specs.declared.rows.Row.{Row}
use Rattle.ags_rows.specs.Collecting.{At}
use Rattle.ags_rows.specs.Contents.{Contents, group_contents, place_in}
use Rattle.ags_text.specs.Names.{is_definition}
use Rattle.ags_cells.specs.CellTypes.{IsTypeCodeOf}
use Rattle.ags_dict.specs.Entries.{Entries, keys_of, required_of, parent_of}
use Rattle.ags_links.specs.DataRows.{DataRow}
use Rattle.ags_check.specs.RowRules.{unit_over, type_over, headed_row}
use Rattle.ags_check.specs.declared.rows.columns.Column.{Column}

-- the type is that of the code
abbrev pub IsTyped : Column → Type 0
IsTyped column = IsTypeCodeOf column.code.now column.cell_type

-- where the heading is, and its unit and type
pub record IsColumn (group : Contents) (column : Column) : Type 0 where
  pub place : column.place ≡ place_in group.headings column.heading.now
  pub unit : column.unit.now ≡ unit_over group column.heading.now
  pub code : column.code.now ≡ type_over group column.heading.now
  pub typed : IsTyped column

-- one for each heading
pub record AreColumns (group : Contents) (headings : List (List ℕ)) (columns : List Column) : Type 0 where
  pub each : All (IsColumn group) columns
  pub heads : map (λ column. column.heading.now) columns ≡ headings

-- A group and the entries that apply to it.
pub record Outlined : Type 0 where
  pub group : Group
  pub entries : Entries

-- what the group and the entries say of the group's rows
pub record IsOutline (group : Group) (entries : Entries) (own_columns required_columns : List Column)
    (set_place : Option ℕ) (keyed parented of_data : Bool) : Type 0 where
  pub columns : AreColumns (group_contents group) group.headings own_columns
  pub required : AreColumns (group_contents group) (required_of entries group.name) required_columns
  pub file_set : set_place ≡ place_in group.headings (codes "FILE_FSET")
  pub has_keys : IsTrue keyed ↔ (keys_of entries group.name ≢ [])
  pub has_parent : parented ≡ is_some (parent_of entries group.name)
  pub is_data : of_data ≡ not (is_definition group.name)

-- the DATA rows of the group are among these, from number `first` on
abbrev pub HaveRowsOf : List DataRow → ℕ → Group → Type 0
HaveRowsOf rows first group =
    (place : ℕ) (row : Row) → At group.rows place row → At rows (first + place) (headed_row group row)
