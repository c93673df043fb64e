-- The data types of AGS4, by the codes that a TYPE row has (Rules 8 and 17). The number of nDP, nSF and nSCI is one
-- digit.
use Rattle.std.specs.Prelude.{◌≡◌, ℕ, ◌≤◌, List, ◌∷◌, codes}
use Rattle.ags_cells.specs.Bytes.{digit}
use Rattle.ags_cells.specs.declared.cell_type.CellType.{CellType}
use Rattle.ags_cells.specs.declared.cell_type.CellType.TheVariants.{DecimalPlaces, SignificantFigures, Scientific, MoistureContent, YesNo, DegreesMinutesSeconds, DateTime, ElapsedTime, Any}

-- the code of a type that restricts its texts
abbrev pub IsRestrictedCode : List ℕ → CellType → Type 0
IsRestrictedCode code (DecimalPlaces n) = (n ≤ 9) × (code ≡ digit n ∷ codes "DP")
IsRestrictedCode code (SignificantFigures n) = (n ≤ 9) × (code ≡ digit n ∷ codes "SF")
IsRestrictedCode code (Scientific n) = (n ≤ 9) × (code ≡ digit n ∷ codes "SCI")
IsRestrictedCode code MoistureContent = code ≡ codes "MC"
IsRestrictedCode code YesNo = code ≡ codes "YN"
IsRestrictedCode code DegreesMinutesSeconds = code ≡ codes "DMS"
IsRestrictedCode code DateTime = code ≡ codes "DT"
IsRestrictedCode code ElapsedTime = code ≡ codes "T"
IsRestrictedCode code Any = ⊥

-- the code of a type. `Any` has every code that no other type has: ID, PA, PT, PU, X, XN, U, RL and all else
abbrev pub IsTypeCodeOf : List ℕ → CellType → Type 0
IsTypeCodeOf code Any = (other : CellType) → ¬ (IsRestrictedCode code other)
IsTypeCodeOf code cell_type = IsRestrictedCode code cell_type
