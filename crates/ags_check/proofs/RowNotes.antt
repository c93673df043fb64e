-- What is noted of a DATA row as a whole.
use Rattle.std.proofs.Common.{◌≡◌, ◌≢◌, ℕ, Bool, true, not, ltb, List, [], ◌∷◌, sym, ap, subst, ◌∙◌, arith}
use Rattle.std.specs.Prelude.{◌↔◌, IsTrue, is_some, codes}
use Rattle.std.proofs.lemmas.Bool.{true≢false, false_from_ne_true, lt-ltb, ltb-true, not-true}
use Rattle.std.proofs.lemmas.List.{get_or_default}
use Rattle.ags_rows.specs.declared.code.Code.TheVariants.{Rule10a, Rule10b, Rule10c, Rule11c, Rule20}
use Rattle.ags_rows.specs.declared.finding.Finding.{Finding}
use Rattle.ags_rows.specs.declared.rows.Group.{Group}
use Rattle.ags_rows.specs.declared.rows.Row.{Row}
use Rattle.ags_rows.specs.Collecting.{At, Adds, Notes, OneOf}
use Rattle.ags_rows.specs.Contents.{Contents, group_contents, fields_of}
use Rattle.ags_check.proofs.Rules.{six_rules}
use Rattle.ags_dict.specs.Entries.{Entries, keys_of, parent_of, required_of}
use Rattle.ags_links.specs.DataRows.{DataRow, RowsRelate, row_in, entry_of, data_rows}
use Rattle.ags_links.specs.Keys.{IsFirstOfKey}
use Rattle.ags_links.specs.Parents.{IsParentRow}
use Rattle.ags_check.specs.RowRules.{IsBrokenLink, RepeatsKey, LacksParentRow, IsUnlistedFileSet, data_row_rules}
use Rattle.ags_check.specs.Placing.{InSome}
use Rattle.ags_check.proofs.EntryNotes.{entry_rules_in}
use Rattle.ags_check.proofs.HeaderRules.{some_there}

-- one row has one number
same_row : (rows : List DataRow) (n : ℕ) (r s : DataRow) → At rows n r → At rows n s → r ≡ s
same_row rows n r s a b = sym a.1 ∙ get_or_default rows n r s a.0 ∙ b.1

-- rows at one number are of one group
pub same_group : (rows : List DataRow) (n : ℕ) (r s : DataRow) → At rows n r → At rows n s → r.group ≡ s.group
same_group rows n r s a b = ap (λ (row : DataRow). row.group) (same_row rows n r s a b)

-- the first row of the key is before a row that repeats it
pub repeats_means : (entries : Entries) (file : List Contents) (number first : ℕ) (row : DataRow) → keys_of entries row.group ≢ [] → At (data_rows file) number row
    → IsFirstOfKey (data_rows file) entries number first → IsTrue (ltb first number) ↔ RepeatsKey entries file number row
repeats_means entries file number first row keyed at is_first = (
  λ e. (
      let equal = rw (same_row (data_rows file) number is_first.0.0 row is_first.0.2 at) at is_first.0.4 in
      (keyed, (first, is_first.0.1, ltb-true first number e, is_first.0.3, equal))
      ),
  λ rule.
      let le = is_first.1 rule.1.0 (row, rule.1.1, at, rule.1.3, rule.1.4) in
      lt-ltb first number (omega (arith, le, rule.1.2)),
)

pub parent_means : (entries : Entries) (file : List Contents) (number : ℕ) (row : DataRow) (has : Bool) → is_some (parent_of entries row.group) ≡ true → At (data_rows file) number row
    → IsTrue has ↔ ((m : ℕ) × RowsRelate (data_rows file) (IsParentRow entries) number m) → IsTrue (not has) ↔ LacksParentRow entries file row
parent_means entries file number row has parented at means = (
  λ e. (
      let parent = some_there (parent_of entries row.group) parented in
      (parent.0, parent.1, λ other there is. true≢false (sym (means.1 (there.0, (row, other, at, (there.1, there.2), is))) ∙ not-true has e))
      ),
  λ rule.
      ap not
      (false_from_ne_true has
      (λ h.
      let p = means.0 h in
      rule.2 p.1.1 (p.0, p.1.3.0, p.1.3.1) (subst (λ (r : DataRow). IsParentRow entries r p.1.1) (same_row (data_rows file) number p.1.0 row p.1.2 at) p.1.4))),
)

-- all that is noted of a row
pub row_noted : (entries : Entries) (file : List Contents) (group : Group) (number : ℕ) (row : Row) (f0 f1 f2 f3 f4 f5 f6 : List Finding)
    → Adds (InSome group.headings (entry_rules_in file row.line (group_contents group) (fields_of row))) f0 f1
    → Adds (Notes row.line Rule10a group.name (RepeatsKey entries file number (row_in (group_contents group) (fields_of row)))) f1 f2
    → Adds (InSome (required_of entries group.name) (λ heading. Notes row.line Rule10b heading (entry_of (row_in (group_contents group) (fields_of row)) heading ≡ []) ∷ [])) f2 f3
    → Adds (Notes row.line Rule10c group.name (LacksParentRow entries file (row_in (group_contents group) (fields_of row)))) f3 f4
    → Adds (InSome group.headings (λ heading. Notes row.line Rule11c heading (IsBrokenLink entries file (row_in (group_contents group) (fields_of row)) heading) ∷ [])) f4 f5
    → Adds (Notes row.line Rule20 (codes "FILE_FSET") (IsUnlistedFileSet file (row_in (group_contents group) (fields_of row)))) f5 f6
    → Adds (OneOf (data_row_rules entries file group number row)) f0 f6
row_noted entries file group number row f0 f1 f2 f3 f4 f5 f6 entry key need parent link set =
    six_rules f0 f1 f2 f3 f4 f5 f6 entry key need parent link set
