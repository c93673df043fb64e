-- Record links, and entries that are null.
use Rattle.std.proofs.Common.{◌≡◌, ◌≢◌, ℕ, ◌<◌, Bool, true, false, eqb, List, [], ◌∷◌, length, get_or, refl, sym, ap, subst, ◌∙◌, arith, inl, inr}
use Rattle.std.specs.Prelude.{◌↔◌, IsTrue, codes}
use Rattle.std.proofs.lemmas.Bool.{true≢false, eqb-true}
use Rattle.ags_rows.specs.declared.finding.Finding.{Finding}
use Rattle.ags_rows.specs.Collecting.{Adds, Notes}
use Rattle.ags_rows.specs.declared.code.Code.TheVariants.{Rule11c}
use Rattle.ags_rows.specs.Contents.{Contents, under, field_at}
use Rattle.ags_text.specs.Names.{is_definition}
use Rattle.ags_rows.proofs.Lemmas.{adds_none, contains_at}
use Rattle.ags_dict.specs.Entries.{Entries}
use Rattle.ags_links.specs.DataRows.{row_in, entry_of, data_rows}
use Rattle.ags_links.specs.RecordLinks.{separators_of, IsBroken}
use Rattle.ags_check.specs.declared.rows.columns.Column.{Column}
use Rattle.ags_check.specs.Columns.{IsColumn, AreColumns}
use Rattle.ags_check.specs.RowRules.{IsBrokenLink}
use Rattle.ags_check.specs.Placing.{InSome}
use Rattle.ags_check.proofs.EntryNotes.{column_text, heading_at, heading_of}

-- what is in the row at a column's place is what is under its heading
pub text_same : (group : Contents) (column : Column) (fields : List (List ℕ)) (text : List ℕ) → IsColumn group column → text ≡ column_text column fields → text ≡ under group.headings fields column.heading.now
text_same group column fields text is same = same ∙ ap (field_at fields) is.place

pub link_at : (entries : Entries) (file : List Contents) (group : Contents) (fields : List (List ℕ)) (columns : List Column) (i : ℕ) (d : Column) (text : List ℕ) (b : Bool)
    → AreColumns group group.headings columns → is_definition group.name ≡ false → i < length columns → text ≡ column_text (get_or columns i d) fields
    → IsTrue b ↔ ((get_or columns i d).code.now ≡ codes "RL") × (text ≢ []) × IsBroken entries (separators_of file) (data_rows file) (row_in group fields) (heading_of (get_or columns i d))
    → IsTrue b ↔ IsBrokenLink entries file (row_in group fields) (heading_of (get_or columns i d))
link_at entries file group fields columns i d text b are data_group lt same means =
    let column = get_or columns i d in
    let is : IsColumn group column = are.each i d lt in
    let stands = contains_at group.headings i (heading_of column) (heading_at group.headings columns i d are.heads lt) in
    let there : text ≡ under group.headings fields column.heading.now = text_same group column fields text is same in (
      λ e. (
          let h = means.0 e in
          (data_group, (stands, sym is.code ∙ h.0, λ n. h.1 (there ∙ n)), h.2)
          ),
      λ link. means.1 (is.code ∙ link.1.1, λ n. link.1.2 (sym there ∙ n), link.2),
    )

-- a row of a definition group has no link that is broken
pub no_links : (entries : Entries) (file : List Contents) (line : ℕ) (group : Contents) (fields headings : List (List ℕ)) (old : List Finding)
    → is_definition group.name ≡ true → Adds (InSome headings (λ heading. Notes line Rule11c heading (IsBrokenLink entries file (row_in group fields) heading) ∷ [])) old old
no_links entries file line group fields headings old definition =
    adds_none old (λ f h. elim h.3 [ inl k ↦ true≢false (sym definition ∙ k.0.0) | inr k ↦ k ])

-- ---- entries that are null

empty_means : (text : List ℕ) (b : Bool) → b ≡ eqb (length text) 0 → IsTrue b ↔ (text ≡ [])
empty_means [] b is = (λ e. refl, λ e. is)
empty_means (x ∷ text) b is = (λ e. absurd (let none : length (x ∷ text) ≡ 0 = eqb-true (length (x ∷ text)) 0 (sym is ∙ e) in omega (arith, none)), λ e. absurd cc)

pub lacking_means : (group : Contents) (column : Column) (fields : List (List ℕ)) (text : List ℕ) (b : Bool)
    → IsColumn group column → text ≡ column_text column fields → b ≡ eqb (length text) 0 → IsTrue b ↔ (entry_of (row_in group fields) column.heading.now ≡ [])
lacking_means group column fields text b is same empty = subst (λ (t : List ℕ). IsTrue b ↔ (t ≡ [])) (text_same group column fields text is same) (empty_means text b empty)
