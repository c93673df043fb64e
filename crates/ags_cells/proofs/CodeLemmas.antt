-- A text is the code of one type.
use Rattle.std.proofs.Common.{◌≡◌, ℕ, ◌-◌, cond, List, [], ◌∷◌, codes, refl, sym, ap, ◌∙◌, subst, inl, inr, arith}
use Rattle.std.specs.Str.{bytes_eq}
use Rattle.ags_cells.specs.Bytes.{digit}
use Rattle.ags_cells.specs.CellTypes.{IsRestrictedCode, IsTypeCodeOf}
use Rattle.ags_cells.specs.Fits.{IsEntryOf, IsOfTypeCode}
use Rattle.ags_cells.specs.Laws.{OneType, FitsItsTypeCode}
use Rattle.ags_cells.specs.declared.cell_type.CellType.{CellType}
use Rattle.ags_cells.specs.declared.cell_type.CellType.TheVariants.{DecimalPlaces, SignificantFigures, Scientific, MoistureContent, YesNo, DegreesMinutesSeconds, DateTime, ElapsedTime, Any}

-- the type that a code without its first byte tells
abbrev type_by : ℕ → List ℕ → CellType
type_by first rest =
    cond (bytes_eq rest (codes "DP")) (DecimalPlaces (first - digit 0))
    (cond (bytes_eq rest (codes "SF")) (SignificantFigures (first - digit 0))
    (cond (bytes_eq rest (codes "SCI")) (Scientific (first - digit 0))
    (cond (bytes_eq rest (codes "C")) MoistureContent
    (cond (bytes_eq rest (codes "N")) YesNo
    (cond (bytes_eq rest (codes "MS")) DegreesMinutesSeconds
    (cond (bytes_eq rest (codes "T")) DateTime ElapsedTime))))))

abbrev type_of : List ℕ → CellType
type_of [] = Any
type_of (first ∷ rest) = type_by first rest

number_of : (n : ℕ) → digit n - digit 0 ≡ n
number_of n = omega arith

type_of-code : (code : List ℕ) (t : CellType) → IsRestrictedCode code t → type_of code ≡ t
type_of-code code (DecimalPlaces n) w = rw w.1 (ap DecimalPlaces (number_of n))
type_of-code code (SignificantFigures n) w = rw w.1 (ap SignificantFigures (number_of n))
type_of-code code (Scientific n) w = rw w.1 (ap Scientific (number_of n))
type_of-code code Any e = absurd e
type_of-code code other e = rw e

-- a type whose code is listed, and one of the same code
listed_type : (code : List ℕ) (t u : CellType) → IsRestrictedCode code t → IsTypeCodeOf code u → t ≡ u
listed_type code t Any h w = absurd (w t h)
listed_type code t u h w = sym (type_of-code code t h) ∙ type_of-code code u w

unlisted_type : (code : List ℕ) (u : CellType) → IsTypeCodeOf code Any → IsTypeCodeOf code u → Any ≡ u
unlisted_type code Any none w = refl
unlisted_type code u none w = absurd (none u w)

pub one_type : OneType
one_type code Any u h w = unlisted_type code u h w
one_type code t u h w = listed_type code t u h w

entry_under : (code unit text : List ℕ) (t : CellType) → IsTypeCodeOf code t → IsEntryOf t unit text → IsOfTypeCode code unit text
entry_under code unit text t h fact =
    let P : CellType → Type 0 = λ u. IsEntryOf u unit text in
    let of : (u : CellType) → IsRestrictedCode code u → P u = λ u w. subst P (sym (listed_type code u t w h)) fact in
    record {
      decimal = λ n small e. of (DecimalPlaces n) (small, e);
      significant = λ n small e. of (SignificantFigures n) (small, e);
      scientific = λ n small e. of (Scientific n) (small, e);
      moisture = λ e. of MoistureContent e;
      yes_no = λ e. of YesNo e;
      angle = λ e. of DegreesMinutesSeconds e;
      date_time = λ e. of DateTime e;
      elapsed_time = λ e. of ElapsedTime e;
    }

entry_of : (code unit text : List ℕ) (t : CellType) → IsTypeCodeOf code t → IsOfTypeCode code unit text → IsEntryOf t unit text
entry_of code unit text (DecimalPlaces n) h w = w.decimal n h.0 h.1
entry_of code unit text (SignificantFigures n) h w = w.significant n h.0 h.1
entry_of code unit text (Scientific n) h w = w.scientific n h.0 h.1
entry_of code unit text MoistureContent h w = w.moisture h
entry_of code unit text YesNo h w = w.yes_no h
entry_of code unit text DegreesMinutesSeconds h w = w.angle h
entry_of code unit text DateTime h w = w.date_time h
entry_of code unit text ElapsedTime h w = w.elapsed_time h
entry_of code unit text Any h w = tt

pub fits_its_type_code : FitsItsTypeCode
fits_its_type_code code unit text t h = (
  λ fit. elim fit [ inl null ↦ inl null | inr fact ↦ inr (entry_under code unit text t h fact) ],
  λ fit. elim fit [ inl null ↦ inl null | inr fact ↦ inr (entry_of code unit text t h fact) ],
)
