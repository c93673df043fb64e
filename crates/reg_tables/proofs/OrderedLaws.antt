-- What the queries for all numbers, for meta and for the marks show of a register, in their order.
use Rattle.std.proofs.Common.{◌≡◌, ℕ, ◌+◌, ◌≤◌, pos, Bool, true, false, List, [], ◌∷◌, map, length}
use Rattle.std.proofs.Common.{refl, ap, subst, ◌∙◌, arith, Less, Equal}
use Rattle.std.specs.Prelude.{codes}
use Rattle.std.specs.List.Sorted.{IsPermutation}
use Rattle.std.specs.Ordering.{ordering_then}
use Rattle.sqlite.specs.declared.types.Value.TheVariants.{Int}
use Rattle.sqlite.specs.Order.{Row, column}
use Rattle.sqlite.specs.Tree.{IsAscending}
use Rattle.sqlite.specs.Query.{Output, output_cmp}
use Rattle.sqlite.specs.State.{State, Shown}
use Rattle.sqlite_value.proofs.OrderLemmas.{value_cmp-Text}
use Rattle.reg_store.specs.Sent.{Sent}
use Rattle.reg_tables.specs.Formats.{StartsWithMeta}
use Rattle.reg_tables.specs.Tables.{HasTables, HasMarkTable}
use Rattle.reg_tables.proofs.Texts.{select_all_numbers, select_marks, select_meta}
use Rattle.reg_tables.proofs.MeaningLaws.{all_marks, all_marks_read, all_numbers, all_numbers_read, all_meta}
use Rattle.reg_tables.proofs.MeaningLaws.{all_meta_read}
use Rattle.reg_tables.specs.Rows.{columns_3, columns_5, deposit_table, first_column, number_row}
use Rattle.reg_tables.specs.Register.{deposit_rows, mark_rows, meta_columns}
use Rattle.reg_tables.proofs.AnswersLaws.{all_pass, answers, reads_rows, shows_all}
use Rattle.reg_tables.proofs.ReadsLaws.{AreFrom, rises}
use Rattle.reg_tables.specs.Private.Found.{AreMarksInOrder}
use Rattle.reg_tables.specs.Private.NumberRows.{number_rows}

-- ---- the numbers

-- what a query makes of a row whose first column alone it shows, and sorts by
abbrev by_first : Row → Output
by_first c = (column c 0 ∷ [], column c 0 ∷ [])

numbers_from : (n : ℕ) (list : List Sent) → AreFrom n (deposit_rows n list)
numbers_from n [] = tt
numbers_from n (d ∷ list) = (n, refl, omega arith, numbers_from (n + 1) list)

numbers_show : (n : ℕ) (list : List Sent) → map (λ (o : Output). o.1) (map by_first (deposit_rows n list)) ≡ number_rows n (length list)
numbers_show n [] = refl
numbers_show n (d ∷ list) = ap (λ all. (Int (pos n) ∷ []) ∷ all) (numbers_show (n + 1) list)

pub shows_all_numbers : (old new : State) (list : List Sent) (rows : List Row) → HasTables old.now.schema
    → IsPermutation (deposit_rows 1 list) (deposit_table old.now.trees) → Shown select_all_numbers [] old new rows
    → rows ≡ number_rows 1 (length list)
shows_all_numbers old new list rows has are h =
    let mine = deposit_rows 1 list in
    let a = answers select_all_numbers 2 all_numbers _ old new [] rows (all_numbers_read old.now.schema has) refl h in
    reads_rows a columns_5 (λ c. c) by_first (λ _. true) (λ _. refl) (λ _. refl) mine (subst (IsPermutation mine) (all_pass _) are)
    (rises by_first (output_cmp all_numbers) (λ _ _. refl) 1 mine (numbers_from 1 list)) ∙ numbers_show 1 list

-- ---- meta

abbrev by_name : Row → Output
by_name c = (column c 0 ∷ [], column c 0 ∷ column c 1 ∷ column c 2 ∷ [])

meta_rises : (number : ℕ) (text : List ℕ)
    → IsAscending (λ a b. output_cmp all_meta a b ≡ Less) (map by_name (meta_columns number text))
meta_rises number text =
    ((ap (λ o. ordering_then o Equal) (value_cmp-Text (codes "dictionary") (codes "format")), tt), (tt, tt))

pub shows_meta_rows : (old new : State) (number : ℕ) (text : List ℕ) (rows : List Row) → StartsWithMeta old.now.schema
    → IsPermutation (meta_columns number text) (map columns_3 (old.now.trees 0)) → Shown select_meta [] old new rows
    → rows ≡ meta_columns number text
shows_meta_rows old new number text rows first are h =
    let mine = meta_columns number text in
    let a = answers select_meta 0 all_meta _ old new [] rows (all_meta_read old.now.schema first) refl h in
    reads_rows a columns_3 (λ c. c) by_name (λ _. true) (λ _. refl) (λ _. refl) mine (subst (IsPermutation mine) (all_pass _) are)
    (meta_rises number text)

-- ---- the marks

marks_from : (m n : ℕ) (marks : List Bool) → m ≤ n → AreFrom m (mark_rows n marks)
marks_from m n [] low = tt
marks_from m n (true ∷ marks) low = (n, refl, low, marks_from (n + 1) (n + 1) marks (omega arith))
marks_from m n (false ∷ marks) low = marks_from m (n + 1) marks (omega (arith, low))

marks_show : (n : ℕ) (marks : List Bool) → map (λ (o : Output). o.1) (map by_first (mark_rows n marks)) ≡ mark_rows n marks
marks_show n [] = refl
marks_show n (true ∷ marks) = ap (λ all. number_row n ∷ all) (marks_show (n + 1) marks)
marks_show n (false ∷ marks) = marks_show (n + 1) marks

pub shows_marks : (old new : State) (rows : List Row) → HasMarkTable old.now.schema
    → Shown select_marks [] old new rows → AreMarksInOrder old.now rows
shows_marks old new rows has h =
    let a = answers select_marks 8 all_marks _ old new [] rows (all_marks_read old.now.schema has) refl h in (
      shows_all a first_column (λ _. refl) (λ _. refl),
      λ marks are. reads_rows a first_column (λ c. c) by_first (λ _. true) (λ _. refl) (λ _. refl) (mark_rows 1 marks)
          (subst (IsPermutation (mark_rows 1 marks)) (all_pass _) are)
          (rises by_first (output_cmp all_marks) (λ _ _. refl) 1 (mark_rows 1 marks) (marks_from 1 1 marks (omega arith)))
          ∙ marks_show 1 marks,
    )
