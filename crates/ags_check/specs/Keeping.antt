-- The rules of the fourth and the fifth phase as what contents keep: no line, no finding.
use Rattle.std.specs.Prelude.{◌≡◌, ◌≢◌, ◌<◌, ℕ, List, [], codes, false, Contains}
use Rattle.ags_rows.specs.Collecting.{At}
use Rattle.ags_rows.specs.Contents.{Contents}
use Rattle.ags_cells.specs.Fits.{FitsTypeCode}
use Rattle.ags_dict.specs.Entries.{Entries, order_of, keys_of, required_of, has_group, extended}
use Rattle.ags_links.specs.DataRows.{DataRow, row_in, entry_of, data_rows}
use Rattle.ags_check.specs.Header.{HasGroup, LacksParentGroup, IsMisplaced, IsMisnamed, IsLongSign}
use Rattle.ags_check.specs.RowRules.{unit_over, type_over, IsUnlistedUnit, IsUnlistedType, IsUnlistedAbbreviation, IsBrokenLink, RepeatsKey, LacksParentRow, IsUnlistedFileSet}

-- the fourth phase's rules on a DATA row of TRAN or PROJ
pub record KeepsOnlyRow (group : Contents) (place : ℕ) (fields : List (List ℕ)) : Type 0 where
  pub delimiter : ¬ (IsLongSign group place fields (codes "TRAN_DLIM"))
  pub concatenator : ¬ (IsLongSign group place fields (codes "TRAN_RCON"))
  pub one_project : ¬ ((group.name ≡ codes "PROJ") × (0 < place))
  pub one_transmission : ¬ ((group.name ≡ codes "TRAN") × (0 < place))

-- the fourth phase's rules on a group
pub record KeepsHeader (given entries : Entries) (file : List Contents) (group : Contents) : Type 0 where
  pub known : ¬ (has_group entries group.name ≡ false)
  pub parent : ¬ (LacksParentGroup entries file group)
  pub order : (h : List ℕ) → ¬ (IsMisplaced (order_of entries group.name) group.headings h)
  pub headings : (h : List ℕ) → ¬ (Contains group.headings h × ¬ (Contains (order_of entries group.name) h))
  pub keys : (h : List ℕ) → ¬ (Contains (keys_of entries group.name) h × ¬ (Contains group.headings h))
  pub required : (h : List ℕ) → ¬ (Contains (required_of entries group.name) h × ¬ (Contains group.headings h))
  pub names : (h : List ℕ) → ¬ (IsMisnamed given entries group h)
  pub only_rows : (place : ℕ) (fields : List (List ℕ)) → At group.rows place fields → KeepsOnlyRow group place fields

-- and on the file
pub record KeepsHeaders (given entries : Entries) (file : List Contents) : Type 0 where
  pub groups : (group : Contents) → Contains file group → KeepsHeader given entries file group
  pub project : HasGroup file (codes "PROJ")
  pub transmission : HasGroup file (codes "TRAN")
  pub units : HasGroup file (codes "UNIT")
  pub types : HasGroup file (codes "TYPE")

-- the fifth phase's rules on an entry
pub record KeepsEntry (file : List Contents) (heading unit code text : List ℕ) : Type 0 where
  pub fits : ¬ ((text ≢ []) × ¬ (FitsTypeCode code unit text))
  pub units : ¬ ((code ≡ codes "PU") × IsUnlistedUnit file text)
  pub abbreviations : ¬ ((code ≡ codes "PA") × IsUnlistedAbbreviation file heading text)
  pub types : ¬ ((code ≡ codes "PT") × IsUnlistedType file text)

-- on a DATA row, but for its key
pub record KeepsRow (entries : Entries) (file : List Contents) (group : Contents) (fields : List (List ℕ))
    : Type 0 where
  pub each : (h : List ℕ) → Contains group.headings h
      → KeepsEntry file h (unit_over group h) (type_over group h) (entry_of (row_in group fields) h)
  pub required : (h : List ℕ) → Contains (required_of entries group.name) h → ¬ (entry_of (row_in group fields) h ≡ [])
  pub parent : ¬ (LacksParentRow entries file (row_in group fields))
  pub links : (h : List ℕ) → Contains group.headings h → ¬ (IsBrokenLink entries file (row_in group fields) h)
  pub file_set : ¬ (IsUnlistedFileSet file (row_in group fields))

-- and on the file
pub record KeepsRows (entries : Entries) (file : List Contents) : Type 0 where
  pub units : (group : Contents) → Contains file group → (h : List ℕ) → Contains group.headings h
      → ¬ (IsUnlistedUnit file (unit_over group h))
  pub types : (group : Contents) → Contains file group → (h : List ℕ) → Contains group.headings h
      → ¬ (IsUnlistedType file (type_over group h))
  pub rows : (group : Contents) → Contains file group → (fields : List (List ℕ)) → Contains group.rows fields
      → KeepsRow entries file group fields
  pub keys : (number : ℕ) (row : DataRow) → At (data_rows file) number row → ¬ (RepeatsKey entries file number row)

-- the rules of both phases, under entries
abbrev pub Keeps : Entries → Entries → List Contents → Type 0
Keeps given entries file = KeepsHeaders given entries file × KeepsRows entries file

-- the same under the dictionary given, which the file's own DICT extends
abbrev pub KeepsRules : Entries → List Contents → Type 0
KeepsRules given file = Keeps given (extended given file) file
