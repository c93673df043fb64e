-- Going over the columns of a group, and what is noted of each.
use Rattle.std.proofs.Common.{◌≡◌, ◌≢◌, ℕ, ◌+◌, ◌<◌, ◌≤◌, List, [], length, get_or, map, refl, sym, ap, subst, ◌∙◌, arith}
use Rattle.std.specs.Prelude.{codes}
use Rattle.std.proofs.lemmas.List.{length-map}
use Rattle.ags_rows.specs.declared.code.Code.TheVariants.{Rule8, Rule15, Rule16, Rule17}
use Rattle.ags_rows.specs.declared.finding.Finding.{Finding}
use Rattle.ags_rows.specs.Collecting.{At, Adds, Notes, AmongBefore, OneOf}
use Rattle.ags_rows.specs.Contents.{Contents, group_contents, field_at, under}
use Rattle.ags_rows.specs.declared.rows.Group.{Group}
use Rattle.ags_rows.proofs.Lemmas.{at_from_read, at_map, among_more, among_all, two_rules}
use Rattle.ags_check.proofs.Rules.{four_rules}
use Rattle.ags_dict.specs.Entries.{required_of}
use Rattle.ags_check.specs.declared.rows.columns.Column.{Column}
use Rattle.ags_check.specs.Columns.{IsColumn, AreColumns, Outlined}
use Rattle.ags_cells.specs.Fits.{FitsTypeCode}
use Rattle.ags_check.specs.Placing.{InSome}
use Rattle.ags_check.specs.RowRules.{unit_over, type_over, IsUnlistedUnit, IsUnlistedType, IsUnlistedAbbreviation, unit_and_type_rules, data_entry_rules}

-- what is in a row at the column's place
abbrev pub column_text : Column → List (List ℕ) → List ℕ
column_text column fields = field_at fields column.place

-- the notes on an entry
pub entry_noted : (file : List Contents) (line : ℕ) (h unit code text : List ℕ) (f0 f1 f2 f3 f4 : List Finding)
    → Adds (Notes line Rule8 h ((text ≢ []) × ¬ (FitsTypeCode code unit text))) f0 f1 → Adds (Notes line Rule15 h ((code ≡ codes "PU") × IsUnlistedUnit file text)) f1 f2
    → Adds (Notes line Rule16 h ((code ≡ codes "PA") × IsUnlistedAbbreviation file h text)) f2 f3 → Adds (Notes line Rule17 h ((code ≡ codes "PT") × IsUnlistedType file text)) f3 f4
    → Adds (OneOf (data_entry_rules file line h unit code text)) f0 f4
entry_noted file line h unit code text f0 f1 f2 f3 f4 unfit units abbreviation type = four_rules f0 f1 f2 f3 f4 unfit units abbreviation type

-- ---- columns and headings

abbrev pub heading_of : Column → List ℕ
heading_of column = column.heading.now

pub heading_at : (headings : List (List ℕ)) (columns : List Column) (i : ℕ) (d : Column) → map heading_of columns ≡ headings → i < length columns → At headings i (heading_of (get_or columns i d))
heading_at headings columns i d heads lt =
    subst (λ (l : List (List ℕ)). At l i (heading_of (get_or columns i d))) heads (at_map heading_of columns i (get_or columns i d) (at_from_read columns i _ d lt refl))

-- the columns that are read from an outline are those of its group's headings
pub own_columns : (inside outline : Outlined) (columns kept : List Column) → inside ≡ outline → columns ≡ kept → AreColumns (group_contents inside.group) inside.group.headings kept
    → AreColumns (group_contents outline.group) outline.group.headings columns
own_columns inside outline columns kept same is are =
    rw (is, ← same) are

-- the required columns that are read from an outline are those of the REQUIRED headings
pub required_columns : (inside outline : Outlined) (columns kept : List Column) → inside ≡ outline → columns ≡ kept → AreColumns (group_contents inside.group) (required_of inside.entries inside.group.name) kept
    → AreColumns (group_contents outline.group) (required_of outline.entries outline.group.name) columns
required_columns inside outline columns kept same is are =
    rw (is, ← same) are

-- one column more
pub columns_more : (Rules : List ℕ → List (Finding → Type 0)) (headings : List (List ℕ)) (columns : List Column) (i : ℕ) (d : Column) (old mid new : List Finding)
    → map heading_of columns ≡ headings → i < length columns
    → Adds (AmongBefore headings (λ _ heading f. OneOf (Rules heading) f) i) old mid → Adds (OneOf (Rules (heading_of (get_or columns i d)))) mid new
    → Adds (AmongBefore headings (λ _ heading f. OneOf (Rules heading) f) (i + 1)) old new
columns_more Rules headings columns i d old mid new heads lt before here =
    among_more headings (λ _ heading f. OneOf (Rules heading) f) i (heading_of (get_or columns i d)) old mid new (heading_at headings columns i d heads lt) before here

-- all columns
pub columns_all : (Rules : List ℕ → List (Finding → Type 0)) (headings : List (List ℕ)) (columns : List Column) (i : ℕ) (old new : List Finding)
    → map heading_of columns ≡ headings → length columns ≤ i → Adds (AmongBefore headings (λ _ heading f. OneOf (Rules heading) f) i) old new → Adds (InSome headings Rules) old new
columns_all Rules headings columns i old new heads le x =
    let sizes : length headings ≡ length columns = sym (ap (length {A = List ℕ}) heads) ∙ length-map columns heading_of in
    among_all headings (λ _ heading f. OneOf (Rules heading) f) i old new (omega (arith, sizes, le)) x

-- the rules on the entry under a heading of a row
abbrev pub entry_rules_in : List Contents → ℕ → Contents → List (List ℕ) → List ℕ → List (Finding → Type 0)
entry_rules_in file line group fields heading = data_entry_rules file line heading (unit_over group heading) (type_over group heading) (under group.headings fields heading)

-- the entry of one column more, of which the column has what the group says
pub entries_more : (file : List Contents) (line : ℕ) (group : Contents) (headings fields : List (List ℕ)) (columns : List Column) (i : ℕ) (d : Column) (text : List ℕ) (old mid new : List Finding)
    → AreColumns group headings columns → i < length columns → text ≡ column_text (get_or columns i d) fields
    → Adds (AmongBefore headings (λ _ heading f. OneOf (entry_rules_in file line group fields heading) f) i) old mid
    → Adds (OneOf (data_entry_rules file line (heading_of (get_or columns i d)) (get_or columns i d).unit.now (get_or columns i d).code.now text)) mid new
    → Adds (AmongBefore headings (λ _ heading f. OneOf (entry_rules_in file line group fields heading) f) (i + 1)) old new
entries_more file line group headings fields columns i d text old mid new are lt same before here =
    let column = get_or columns i d in
    let is : IsColumn group column = are.each i d lt in
    let h = column.heading.now in
    let e : text ≡ under group.headings fields h = same ∙ ap (field_at fields) is.place in
    columns_more (entry_rules_in file line group fields) headings columns i d old mid new are.heads lt before
    (rw (is.unit, is.code, e) at here)

-- what is listed of a column's unit and type is what is listed of the group's
pub header_more : (file : List Contents) (group : Group) (columns : List Column) (i : ℕ) (d : Column) (old mid half new : List Finding)
    → AreColumns (group_contents group) group.headings columns → i < length columns
    → Adds (AmongBefore group.headings (λ _ heading f. OneOf (unit_and_type_rules file group heading) f) i) old mid
    → Adds (Notes group.unit_line Rule15 (heading_of (get_or columns i d)) (IsUnlistedUnit file (get_or columns i d).unit.now)) mid half
    → Adds (Notes group.type_line Rule17 (heading_of (get_or columns i d)) (IsUnlistedType file (get_or columns i d).code.now)) half new
    → Adds (AmongBefore group.headings (λ _ heading f. OneOf (unit_and_type_rules file group heading) f) (i + 1)) old new
header_more file group columns i d old mid half new are lt before unit type =
    let is : IsColumn (group_contents group) (get_or columns i d) = are.each i d lt in
    columns_more (unit_and_type_rules file group) group.headings columns i d old mid new are.heads lt before
    (two_rules mid half new (rw is.unit at unit) (rw is.code at type))
