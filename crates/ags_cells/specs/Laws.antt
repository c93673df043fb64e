-- Laws over the definitions alone.
use Rattle.std.specs.Prelude.{◌≡◌, ◌↔◌, ℕ, List}
use Rattle.ags_cells.specs.CellTypes.{IsTypeCodeOf}
use Rattle.ags_cells.specs.Fits.{Fits, FitsTypeCode}
use Rattle.ags_cells.specs.declared.cell_type.CellType.{CellType}

-- a text is the code of one type at most
abbrev pub OneType : Type 0
OneType = (code : List ℕ) (one other : CellType) → IsTypeCodeOf code one → IsTypeCodeOf code other → one ≡ other

-- under a unit, what fits the type that a code is of is what fits the code
abbrev pub FitsItsTypeCode : Type 0
FitsItsTypeCode =
    (code unit text : List ℕ) (cell_type : CellType) → IsTypeCodeOf code cell_type
    → Fits cell_type unit text ↔ FitsTypeCode code unit text
