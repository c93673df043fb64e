-- Rule 8: which texts fit a type and a unit.
use Rattle.std.specs.Prelude.{◌≡◌, ◌⊎◌, ℕ, ◌≤◌, List, [], ◌∷◌, codes}
use Rattle.ags_cells.specs.Bytes.{digit}
use Rattle.ags_cells.specs.Parts.{OneByteOf, DigitsOf, TwoDigits}
use Rattle.ags_cells.specs.Numbers.{Decimal, Significant, Scientific, Moisture, Angle}
use Rattle.ags_cells.specs.Times.{FitsUnit}
use Rattle.ags_cells.specs.declared.cell_type.CellType.{CellType}
use Rattle.ags_cells.specs.declared.cell_type.CellType.TheVariants as Types

-- the texts of each type but for the null. The unit counts for dates and times alone
abbrev pub IsEntryOf : CellType → List ℕ → List ℕ → Type 0
IsEntryOf (Types.DecimalPlaces n) unit text = Decimal n text
IsEntryOf (Types.SignificantFigures n) unit text = Significant text
IsEntryOf (Types.Scientific n) unit text = Scientific n text
IsEntryOf Types.MoistureContent unit text = Moisture text
IsEntryOf Types.YesNo unit text = OneByteOf (codes "YNyn") text
IsEntryOf Types.DegreesMinutesSeconds unit text = Angle text
IsEntryOf Types.DateTime unit text = FitsUnit (TwoDigits 0 23) unit text
IsEntryOf Types.ElapsedTime unit text = FitsUnit (DigitsOf 2 4) unit text
IsEntryOf Types.Any unit text = Unit {0}

-- the text fits the type under the unit. The null fits every type
abbrev pub Fits : CellType → List ℕ → List ℕ → Type 0
Fits cell_type unit text = (text ≡ []) ⊎ IsEntryOf cell_type unit text

-- Rule 8: the texts, the null apart, that fit the code of a type. The unit counts for DT and T alone: hours without a
-- date are 00 to 23 for DT, and of two to four digits for T. A code that is not listed (ID, PA, PT, PU, X, XN, U, RL
-- and all else) restricts nothing.
pub record IsOfTypeCode (code unit text : List ℕ) : Type 0 where
  pub decimal : (n : ℕ) → n ≤ 9 → code ≡ digit n ∷ codes "DP" → Decimal n text
  pub significant : (n : ℕ) → n ≤ 9 → code ≡ digit n ∷ codes "SF" → Significant text
  pub scientific : (n : ℕ) → n ≤ 9 → code ≡ digit n ∷ codes "SCI" → Scientific n text
  pub moisture : code ≡ codes "MC" → Moisture text
  pub yes_no : code ≡ codes "YN" → OneByteOf (codes "YNyn") text
  pub angle : code ≡ codes "DMS" → Angle text
  pub date_time : code ≡ codes "DT" → FitsUnit (TwoDigits 0 23) unit text
  pub elapsed_time : code ≡ codes "T" → FitsUnit (DigitsOf 2 4) unit text

-- Rule 8: the text fits, under the unit, the type whose code a TYPE row has. The null fits every type.
abbrev pub FitsTypeCode : List ℕ → List ℕ → List ℕ → Type 0
FitsTypeCode code unit text = (text ≡ []) ⊎ IsOfTypeCode code unit text
