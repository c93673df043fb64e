-- Lemmas on the definitions of specs/Adopts.antt.
use Rattle.std.proofs.Common.{◌≡◌, ◌≢◌, ℕ, zero, suc, ◌+◌, ◌<◌, ◌≤◌, pos, List, [], ◌∷◌, ◌++◌, map, filter, length}
use Rattle.std.proofs.Common.{true, not, Option, Some, None, inl, inr, slice_get, refl, sym, ap}
use Rattle.std.proofs.Common.{subst, subst₂, ◌∙◌, arith}
use Rattle.std.specs.Ordering.{is_eq}
use Rattle.std.specs.List.Sorted.{IsPermutation}
use Rattle.std.proofs.lemmas.List.{map-id}
use Rattle.std.proofs.lemmas.List.Sorted.{IsPermutation-refl, IsPermutation-trans, IsPermutation-sym}
use Rattle.std.proofs.lemmas.List.Sorted.{IsPermutation-cons, IsPermutation-filter_both, length_permutation}
use Rattle.std.proofs.lemmas.Option.{slice_get_cases}
use Rattle.sqlite.specs.declared.types.Value.{Value}
use Rattle.sqlite.specs.declared.types.Value.TheVariants.{Int}
use Rattle.sqlite.specs.Order.{Row, column, value_cmp}
use Rattle.sqlite.specs.State.{State, Shown}
use Rattle.sqlite_value.proofs.OrderLemmas.{value_cmp_total}
use Rattle.sqlite_keyed.proofs.ListLemmas.{filter-map, filter-filter, IsPermutation-filter}
use Rattle.sqlite_trees.proofs.ListLemmas.{map-map}
use Rattle.ags_check.specs.Findings.{CheckedFile}
use Rattle.reg_store.specs.Sent.{Sent}
use Rattle.reg_tables.specs.Tables.{HasTables}
use Rattle.reg_tables.specs.Formats.{StartsWithMeta}
use Rattle.reg_tables.proofs.Texts.{select_all_numbers, select_deposit, select_meta}
use Rattle.reg_tables.proofs.MeaningLaws.{all_numbers, all_numbers_read, by_number, deposit_read, all_meta}
use Rattle.reg_tables.proofs.MeaningLaws.{all_meta_read}
use Rattle.reg_tables.specs.Rows.{columns_5, deposit_table, given_deposit, columns_3, rows_under, first_column, has_number}
use Rattle.reg_tables.specs.Register.{deposit_rows}
use Rattle.reg_tables.specs.Private.Pushes.{equal_at, apart_at}
use Rattle.reg_tables.proofs.AnswersLaws.{answers, shows_all, shows_rows}
use Rattle.reg_tables.proofs.ReadsLaws.{equal_order, of_number}
use Rattle.reg_tables.specs.Private.NumberRows.{number_rows}

-- ---- what the queries show

pub shows_numbers : (old new : State) (rows : List Row) → HasTables old.now.schema
    → Shown select_all_numbers [] old new rows → IsPermutation rows (map first_column (deposit_table old.now.trees))
shows_numbers old new rows has h =
    subst (IsPermutation rows) (sym (map-map first_column columns_5 (old.now.trees 2))) (shows_all (answers select_all_numbers 2 all_numbers _
    old new [] rows (all_numbers_read old.now.schema has) refl h) (λ r. first_column (columns_5 r)) (λ _. refl) (λ _. refl))

pub shows_meta : (old new : State) (rows : List Row) → StartsWithMeta old.now.schema → Shown select_meta [] old new rows
    → IsPermutation rows (map columns_3 (old.now.trees 0))
shows_meta old new rows first h =
    shows_all (answers select_meta 0 all_meta _ old new [] rows (all_meta_read old.now.schema first) refl h) columns_3
    (λ _. refl) (λ _. refl)

-- the rows that are shown of a number are the table's
pub shows_deposit : (old new : State) (n : ℕ) (rows : List Row) → HasTables old.now.schema → Shown select_deposit
    (Int (pos n) ∷ []) old new rows → IsPermutation rows (filter (has_number n) (deposit_table old.now.trees))
shows_deposit old new n rows has h =
    subst (IsPermutation rows) (map-id (filter (has_number n) (deposit_table old.now.trees))) (shows_rows (answers select_deposit 2
    by_number _ old new (Int (pos n) ∷ []) rows (deposit_read old.now.schema has) refl h) columns_5 (λ c. c) (has_number n)
    (λ r. of_number (column r 1) n) (λ _. refl))

-- a value that is one number is not another
only_one : (m n : ℕ) (v : Value) → n ≢ m → is_eq (value_cmp v (Int (pos n))) ≡ true
    → not (is_eq (value_cmp v (Int (pos m)))) ≡ true
only_one m n v differ h = ap (λ o. not (is_eq o))
    (value_cmp_total.congr v (Int (pos n)) (Int (pos m)) (equal_order _ h)) ∙ ap not (apart_at n m differ)

above : (m n count : ℕ) → m < n → filter (λ c. not (has_number m c)) (number_rows n count) ≡ number_rows n count
above m n zero low = refl
above m n (suc count) low = rw (apart_at n m (λ e. absurd (omega (arith, e))))
    (ap (λ all. (Int (pos n) ∷ []) ∷ all) (above m (n + 1) count (omega arith)))

pub by_numbers : (m : ℕ) (list : List Sent) (table : List Row)
    → IsPermutation (number_rows m (length list)) (map first_column table)
    → ((k : ℕ) (d : Sent) → slice_get list k ≡ Some d
    → filter (has_number (m + k)) table ≡ given_deposit (m + k) d ∷ []) → IsPermutation (deposit_rows m list) table
by_numbers m [] [] ids one = IsPermutation-refl []
by_numbers m [] (r ∷ table) ids one =
    absurd (let e : suc (length (map first_column table)) ≡ 0 = length_permutation _ _ ids in omega (arith, e))
by_numbers m (d ∷ list) table ids one =
    let rest = filter (λ c. not (has_number m c)) table in
    let e : m + 0 ≡ m = omega arith in
    let mine : filter (has_number m) table ≡ given_deposit m d ∷ [] =
    subst (λ k. filter (has_number k) table ≡ given_deposit k d ∷ []) e (one 0 d refl) in
    let split : IsPermutation table (given_deposit m d ∷ rest) = subst (λ first. IsPermutation table (first ++ rest))
    mine (IsPermutation-filter_both (has_number m) (λ c. not (has_number m c)) (λ _. refl) table) in
    let less_ids = IsPermutation-filter (λ c. not (has_number m c)) _ _ ids in
    let left : filter (λ c. not (has_number m c)) (number_rows m (suc (length list)))
    ≡ number_rows (m + 1) (length list) = rw (equal_at m) (above m (m + 1) (length list) (omega arith)) in
    let right : filter (λ c. not (has_number m c)) (map first_column table) ≡ map first_column rest =
    filter-map (λ c. not (has_number m c)) first_column table in
    let later = by_numbers (m + 1) list rest (subst₂ IsPermutation left right less_ids)
    (λ k x at.
    let s : m + suc k ≡ (m + 1) + k = omega arith in
    filter-filter (has_number ((m + 1) + k)) (λ c. not (has_number m c))
    (λ c h. only_one m ((m + 1) + k) (column c 0) (λ same. absurd (omega (arith, same))) h) table
    ∙ subst (λ j. filter (has_number j) table ≡ given_deposit j x ∷ []) s (one (suc k) x at)) in
    IsPermutation-trans _ _ _ (IsPermutation-cons (given_deposit m d) _ _ later) (IsPermutation-sym _ _ split)

-- ---- a register is adopted

pub each_of : (rows_in : Option CheckedFile → List Row) → rows_in None ≡ []
    → (files : List CheckedFile) (table : List Row) → ((k : ℕ) (file : CheckedFile) → slice_get files k ≡ Some file
    → IsPermutation (rows_in (Some file)) (rows_under (k + 1) table))
    → ((k : ℕ) → length files ≤ k → rows_under (k + 1) table ≡ []) → (k : ℕ)
    → IsPermutation (rows_in (slice_get files k)) (rows_under (k + 1) table)
each_of rows_in empty files table own none k = elim (slice_get_cases files k).1 [
  | inl it ↦ subst (λ o. IsPermutation (rows_in o) (rows_under (k + 1) table)) (sym it.2) (own k it.0 it.2)
  | inr past ↦ subst₂ IsPermutation (sym (ap rows_in past.1 ∙ empty)) (sym (none k past.0)) (IsPermutation-refl [])
]

none_above : (m n count : ℕ) → m + count ≤ n → filter (has_number n) (number_rows m count) ≡ []
none_above m n zero low = refl
none_above m n (suc count) low =
    rw (apart_at m n (λ e. absurd (omega (arith, e)))) (none_above (m + 1) n count (omega arith))

empty_map : (rows : List Row) → IsPermutation [] (map first_column rows) → rows ≡ []
empty_map [] h = refl
empty_map (r ∷ rows) h =
    absurd (let e : suc (length (map first_column rows)) ≡ 0 = length_permutation _ _ h in omega (arith, e))

pub outside : (count n : ℕ) (table : List Row) → IsPermutation (number_rows 1 count) (map first_column table) → count < n
    → filter (has_number n) table ≡ []
outside count n table ids low =
    let kept = IsPermutation-filter (has_number n) _ _ ids in
    empty_map (filter (has_number n) table)
    (subst₂ IsPermutation (none_above 1 n count (omega arith)) (filter-map (has_number n) first_column table) kept)
