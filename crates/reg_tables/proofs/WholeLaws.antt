-- Lemmas on the definitions of specs/Whole.antt.
use Rattle.std.proofs.Common.{◌≡◌, ℕ, zero, suc, ◌+◌, ◌-◌, ◌<◌, ◌≤◌, false, List, [], ◌∷◌, map, filter, length, Some}
use Rattle.std.proofs.Common.{slice_get, refl, sym, ap, subst, subst₂, ◌∙◌, arith}
use Rattle.std.proofs.Math.Logic.{∥∥₁_map, ∥∥₁_elim}
use Rattle.std.proofs.Props.{props}
use Rattle.std.specs.List.{AllByRecursion, AllZip}
use Rattle.std.specs.List.Sorted.{IsPermutation}
use Rattle.sqlite.specs.Order.{Row}
use Rattle.sqlite.specs.Effect.{Database, IsDatabase}
use Rattle.ags_dict.specs.Entries.{Entries}
use Rattle.ags_check.specs.Findings.{CheckedFile}
use Rattle.reg_store.specs.Sent.{Sent, is_repeat}
use Rattle.reg_tables.specs.declared.schema.format.Format.{Format}
use Rattle.reg_tables.specs.Tables.{format_number, schema_of}
use Rattle.reg_store.specs.Fit.{IsFileOf, IsNamed}
use Rattle.reg_tables.proofs.ApartLaws.{apart_all, apart_pair}
use Rattle.reg_tables.specs.Rows.{columns_3, columns_5, deposit_table, given_deposit, line_table, step_table, rows_under, first_column, has_number}
use Rattle.reg_tables.specs.Register.{file_lines, file_steps, HoldsSent}
use Rattle.reg_tables.proofs.ShowsLaws.{row_of_number}
use Rattle.reg_tables.specs.Private.NumberRows.{number_rows}
use Rattle.reg_tables.proofs.AdoptsLaws.{by_numbers, each_of, outside}
use Rattle.reg_tables.proofs.ForeignLaws.{keyed_lines, keyed_steps, no_rows}
use Rattle.sqlite_catalog.specs.Listing.{IsSound}
use Rattle.sqlite_trees.proofs.ListLemmas.{all-slice_get}
use Rattle.reg_tables.proofs.MethodsLaws.{same_deposit, slice_get_in, zip_at}
use Rattle.reg_tables.specs.Whole.{IsWhole, Counts, AreWhole, HasMeta}

-- ---- a register has whole deposits

pub whole_at : {format : Format} (db : Database) (dictionary : Entries) (list : List Sent)
    → HoldsSent format db dictionary list → AreWhole db dictionary (length list)
whole_at db dictionary list r k low =
    let found = slice_get_in list k low in
    let d = found.0 in
    let e : (k + 1) - 1 ≡ k = omega arith in
    let at : slice_get list ((k + 1) - 1) ≡ Some d = ap (slice_get list) e ∙ found.1 in
    let it = zip_at (IsFileOf dictionary) list r.files k d r.each found.1 in
    record {
      deposit = d;
      row = row_of_number (k + 1) list (deposit_table db.trees) d (omega arith) r.deposits at;
      named = all-slice_get IsNamed list k d found.1 r.named;
      body = record {
        file = it.0;
        its = it.2;
        lines = subst (λ o. IsPermutation (file_lines o) (rows_under (k + 1) (line_table db.trees))) it.1 (r.lines k);
        steps = subst (λ o. IsPermutation (file_steps o) (rows_under (k + 1) (step_table db.trees))) it.1 (r.steps k);
      };
      alone = λ m above below x row.
          (let there = slice_get_in list (m - 1) (omega (arith, above, below, low)) in
          let one : there.0 ≡ x = same_deposit m there.0 x _
          (row_of_number m list (deposit_table db.trees) there.0 above r.deposits there.1) row in
          subst (λ (y : Sent). is_repeat d.firm d.project d.bytes y ≡ false) one
          (apart_pair list (m - 1) k d there.0 r.apart (omega (arith, above, below)) there.1 found.1));
    }

-- ---- whole deposits make a register

-- a list of what there is of each number below the count
abbrev list_by : {X : Type 0} (P : ℕ → Type 0) (get : (k : ℕ) → P k → X) (count : ℕ)
    → ((k : ℕ) → k < count → P k) → List X
list_by P get zero all = []
list_by P get (suc count) all = get 0 (all 0 (omega arith))
    ∷ list_by (λ k. P (suc k)) (λ k. get (suc k)) count (λ k low. all (suc k) (omega (arith, low)))

list_long : {X : Type 0} (P : ℕ → Type 0) (get : (k : ℕ) → P k → X) (count : ℕ) (all : (k : ℕ) → k < count → P k)
    → length (list_by P get count all) ≡ count
list_long P get zero all = refl
list_long P get (suc count) all =
    ap suc (list_long (λ k. P (suc k)) (λ k. get (suc k)) count (λ k low. all (suc k) (omega (arith, low))))

list_at : {X : Type 0} (P : ℕ → Type 0) (get : (k : ℕ) → P k → X) (count : ℕ) (all : (k : ℕ) → k < count → P k) (k : ℕ)
    (x : X) → slice_get (list_by P get count all) k ≡ Some x → (p : P k) × (get k p ≡ x)
list_at P get zero all k x at = absurd cc
list_at P get (suc count) all zero x at = (all 0 (omega arith), cc)
list_at P get (suc count) all (suc k) x at =
    list_at (λ j. P (suc j)) (λ j. get (suc j)) count (λ j low. all (suc j) (omega (arith, low))) k x at

list_zip : {X Y : Type 0} (R : X → Y → Type 0) (P : ℕ → Type 0) (get : (k : ℕ) → P k → X) (got : (k : ℕ) → P k → Y)
    (count : ℕ) (all : (k : ℕ) → k < count → P k) → ((k : ℕ) (p : P k) → R (get k p) (got k p))
    → AllZip R (list_by P get count all) (list_by P got count all)
list_zip R P get got zero all each = tt
list_zip R P get got (suc count) all each = (
  each 0 (all 0 (omega arith)),
  list_zip R (λ k. P (suc k))
      (λ k. get (suc k)) (λ k. got (suc k)) count (λ k low. all (suc k) (omega (arith, low))) (λ k. each (suc k)),
)

list_all_of : {X : Type 0} (R : X → Type 0) (P : ℕ → Type 0) (get : (k : ℕ) → P k → X) (count : ℕ)
    (all : (k : ℕ) → k < count → P k) → ((k : ℕ) (p : P k) → R (get k p)) → AllByRecursion R (list_by P get count all)
list_all_of R P get zero all each = tt
list_all_of R P get (suc count) all each = (
  each 0 (all 0 (omega arith)),
  list_all_of R (λ k. P (suc k))
      (λ k. get (suc k)) count (λ k low. all (suc k) (omega (arith, low))) (λ k. each (suc k)),
)

-- what is there of each number, is there of all
pub of_all : (P : ℕ → Type 0) (count : ℕ) → ((k : ℕ) → k < count → ∥ P k ∥₁) → ∥ ((k : ℕ) → k < count → P k) ∥₁
of_all P zero each = let none : (k : ℕ) → k < 0 → P k = λ k low. absurd (omega (arith, low)) in ∣ none ∣₁
of_all P (suc count) each =
    both (each 0 (omega arith)) (of_all (λ k. P (suc k)) count (λ k low. each (suc k) (omega (arith, low))))
  where
    join : P 0 → ((k : ℕ) → k < count → P (suc k)) → (k : ℕ) → k < suc count → P k
    join first rest zero low = first
    join first rest (suc k) low = rest k (omega (arith, low))

    both : ∥ P 0 ∥₁ → ∥ ((k : ℕ) → k < count → P (suc k)) ∥₁ → ∥ ((k : ℕ) → k < suc count → P k) ∥₁
    both first rest = ∥∥₁_elim first (Prim.hlevel props) (λ one. ∥∥₁_map rest (λ more. join one more))

pub adopts_whole : (format : Format) (db : Database) (dictionary : Entries) (count : ℕ) → db.schema ≡ schema_of format
    → IsDatabase db → HasMeta (format_number format) db dictionary → Counts db (Some count) → AreWhole db dictionary count
    → (list : List Sent) × HoldsSent format db dictionary list × (length list ≡ count)
adopts_whole format db dictionary count schema sound meta counts all =
    (list, holds, long)
  where
    P : ℕ → Type 0
    P k = IsWhole db dictionary (k + 1)

    list : List Sent
    list = list_by P (λ k p. p.deposit) count all

    files : List CheckedFile
    files = list_by P (λ k p. p.body.file) count all

    long : length list ≡ count
    long = list_long P (λ k p. p.deposit) count all

    table : List Row
    table = deposit_table db.trees

    rows : (k : ℕ) (d : Sent) → slice_get list k ≡ Some d
        → filter (has_number (1 + k)) table ≡ given_deposit (1 + k) d ∷ []
    rows k d at =
        let it = list_at P (λ k p. p.deposit) count all k d at in
        let e : k + 1 ≡ 1 + k = omega arith in
        subst₂ (λ (n : ℕ) (x : Sent). filter (has_number n) table ≡ given_deposit n x ∷ []) e it.1 it.0.row

    earlier : (j k : ℕ) (d x : Sent) → j < k → slice_get list j ≡ Some x → slice_get list k ≡ Some d
        → is_repeat d.firm d.project d.bytes x ≡ false
    earlier j k d x low first second =
        let it = list_at P (λ k p. p.deposit) count all k d second in
        subst (λ (y : Sent). is_repeat y.firm y.project y.bytes x ≡ false) it.1
        (it.0.alone (1 + j) (omega arith) (omega (arith, low)) x (rows j x first))

    none : (k : ℕ) → length files ≤ k → filter (has_number (k + 1)) table ≡ []
    none k low = outside count (k + 1) table counts.1 (omega (arith, low, list_long P (λ k p. p.body.file) count all))

    keyed : IsSound (schema_of format) db.trees
    keyed = subst (λ s. IsSound s db.trees) schema sound

    holds : HoldsSent format db dictionary list
    holds = record {
      schema = schema;
      sound = sound;
      text = meta.text;
      short = meta.short;
      reads = meta.reads;
      meta = meta.meta;
      deposits = by_numbers 1 list table (subst (λ n. IsPermutation (number_rows 1 n) (map first_column table)) (sym long) counts.1) rows;
      files = files;
      each = list_zip (IsFileOf dictionary) P (λ k p. p.deposit) (λ k p. p.body.file) count all (λ k p. p.body.its);
      named = list_all_of IsNamed P (λ k p. p.deposit) count all (λ k p. p.named);
      apart = apart_all list earlier;
      few = subst (λ (n : ℕ). n ≤ 999999) (sym long) counts.0;
      lines = each_of file_lines refl files (line_table db.trees) (λ k file at.
          (let it = list_at P (λ k p. p.body.file) count all k file at in
          subst (λ (f : CheckedFile). IsPermutation (file_lines (Some f)) (rows_under (k + 1) (line_table db.trees))) it.1 it.0.body.lines))
          (λ k low. no_rows columns_5 db.trees (k + 1) (λ _. refl) (none k low) (db.trees 4) (keyed_lines format db.trees keyed));
      steps = each_of file_steps refl files (step_table db.trees) (λ k file at.
          (let it = list_at P (λ k p. p.body.file) count all k file at in
          subst (λ (f : CheckedFile). IsPermutation (file_steps (Some f)) (rows_under (k + 1) (step_table db.trees))) it.1 it.0.body.steps))
          (λ k low. no_rows columns_3 db.trees (k + 1) (λ _. refl) (none k low) (db.trees 6) (keyed_steps format db.trees keyed));
    }
