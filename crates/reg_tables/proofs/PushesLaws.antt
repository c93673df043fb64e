-- Lemmas on the definitions of specs/Pushes.antt.
use Rattle.std.proofs.Common.{◌≡◌, ◌≢◌, ◌⊎◌, inl, inr, ℕ, zero, suc, ◌+◌, List, [], ◌∷◌, ◌++◌, map, filter, length}
use Rattle.std.proofs.Common.{drop, Option, Some, None, slice_get, append-nil, refl, sym, ap, subst, ◌∙◌, arith}
use Rattle.std.proofs.lemmas.Bool.{cases_lt}
use Rattle.std.specs.List.Sorted.{IsPermutation}
use Rattle.std.proofs.lemmas.List.Elements.{filter-append}
use Rattle.std.proofs.lemmas.List.Sorted.{IsPermutation-refl, IsPermutation-trans, IsPermutation-append}
use Rattle.std.proofs.lemmas.List.Sorted.{IsPermutation-append_left, IsPermutation-map}
use Rattle.std.proofs.lemmas.List.{map-append}
use Rattle.std.proofs.lemmas.Option.{slice_get_past}
use Rattle.sqlite_keyed.proofs.ListLemmas.{IsPermutation-filter}
use Rattle.sqlite.specs.Order.{Row}
use Rattle.ags_check.specs.Findings.{CheckedFile}
use Rattle.reg_store.specs.declared.keep.KeptRow.{KeptRow}
use Rattle.reg_store.specs.Sent.{Sent}
use Rattle.reg_tables.specs.Rows.{given_deposit, has_number, rows_under, placed_row, placed_rows, line_rows, step_pair}
use Rattle.reg_tables.specs.Rows.{step_rows, IsMore}
use Rattle.reg_tables.specs.Register.{deposit_rows}
use Rattle.reg_tables.specs.Private.Pushes.{equal_at, apart_at}

-- ---- the deposits

pub rows-push : (n : ℕ) (list : List Sent) (d : Sent)
    → deposit_rows n (list ++ d ∷ []) ≡ deposit_rows n list ++ given_deposit (n + length list) d ∷ []
rows-push n [] d = let e : n + 0 ≡ n = omega arith in rw e refl
rows-push n (x ∷ list) d =
    let e : (n + 1) + length list ≡ n + suc (length list) = omega arith in
    ap (λ more. given_deposit n x ∷ more) (rows-push (n + 1) list d
    ∙ ap (λ k. deposit_rows (n + 1) list ++ given_deposit k d ∷ []) e)

pub deposits_push : (list : List Sent) (d : Sent) (old new : List Row) → IsPermutation (deposit_rows 1 list) old
    → IsMore old (given_deposit (1 + length list) d ∷ []) new → IsPermutation (deposit_rows 1 (list ++ d ∷ [])) new
deposits_push list d old new was more =
    subst (λ rows. IsPermutation rows new) (sym (rows-push 1 list d))
    (IsPermutation-trans _ _ _ (IsPermutation-append_left (given_deposit (1 + length list) d ∷ []) _ _ was) more)

pub own_lines : (n at : ℕ) (rows : List KeptRow) → rows_under n (line_rows n at rows) ≡ placed_rows at rows
own_lines n at [] = refl
own_lines n at (row ∷ rows) = rw (equal_at n) (ap (λ more. placed_row at row ∷ more) (own_lines n (at + 1) rows))

pub other_lines : (m n at : ℕ) (rows : List KeptRow) → n ≢ m → rows_under m (line_rows n at rows) ≡ []
other_lines m n at [] differ = refl
other_lines m n at (row ∷ rows) differ = rw (apart_at n m differ) (other_lines m n (at + 1) rows differ)

pub own_steps : (n : ℕ) (steps : List (ℕ × ℕ)) → rows_under n (step_rows n steps) ≡ map step_pair steps
own_steps n [] = refl
own_steps n (step ∷ steps) = rw (equal_at n) (ap (λ more. step_pair step ∷ more) (own_steps n steps))

pub other_steps : (m n : ℕ) (steps : List (ℕ × ℕ)) → n ≢ m → rows_under m (step_rows n steps) ≡ []
other_steps m n [] differ = refl
other_steps m n (step ∷ steps) differ = rw (apart_at n m differ) (other_steps m n steps differ)

rows_more : (m : ℕ) (old more new : List Row) → IsMore old more new
    → IsPermutation (rows_under m old ++ rows_under m more) (rows_under m new)
rows_more m old more new h = subst (λ rows. IsPermutation rows (rows_under m new)) (ap (map (drop 1))
    (filter-append (has_number m) old more) ∙ map-append (drop 1) (filter (has_number m) old) (filter (has_number m) more))
    (IsPermutation-map (drop 1) _ _ (IsPermutation-filter (has_number m) (old ++ more) new h))

-- an item more at the end leaves what is at other places
pub pushed_get : {X : Type 0} (xs : List X) (x : X) (k : ℕ) → k ≢ length xs → slice_get (xs ++ x ∷ []) k ≡ slice_get xs k
pushed_get [] x zero differ = absurd (differ refl)
pushed_get [] x (suc k) differ = refl
pushed_get (y ∷ xs) x zero differ = refl
pushed_get (y ∷ xs) x (suc k) differ = pushed_get xs x k (λ e. differ (ap suc e))

pushed_last : {X : Type 0} (xs : List X) (x : X) → slice_get (xs ++ x ∷ []) (length xs) ≡ Some x
pushed_last [] x = refl
pushed_last (y ∷ xs) x = pushed_last xs x

which : (a b : ℕ) → (a ≡ b) ⊎ (a ≢ b)
which a b = elim (cases_lt a b) [
  | inl below ↦ inr (λ e. absurd (omega (arith, e)))
  | inr up ↦ elim (cases_lt b a) [
    | inl above ↦ inr (λ e. absurd (omega (arith, e)))
    | inr down ↦ inl (omega arith)
  ]
]

-- a table that holds the rows of each file holds those of one file more
pub table_push : (rows_in : ℕ → Option CheckedFile → List Row) → ((n : ℕ) → rows_in n None ≡ [])
    → (files : List CheckedFile) (file : CheckedFile) (old more new : List Row)
    → rows_under (length files + 1) more ≡ rows_in (length files + 1) (Some file)
    → ((m : ℕ) → length files + 1 ≢ m → rows_under m more ≡ []) → IsMore old more new
    → ((k : ℕ) → IsPermutation (rows_in (k + 1) (slice_get files k)) (rows_under (k + 1) old))
    → (k : ℕ) → IsPermutation (rows_in (k + 1) (slice_get (files ++ file ∷ []) k)) (rows_under (k + 1) new)
table_push rows_in none files file old more new own others h was k = go (which k (length files))
  where
    go : (k ≡ length files) ⊎ (k ≢ length files)
        → IsPermutation (rows_in (k + 1) (slice_get (files ++ file ∷ []) k)) (rows_under (k + 1) new)
    go (inl is) =
        let before : IsPermutation [] (rows_under (k + 1) old) =
        subst (λ rows. IsPermutation rows (rows_under (k + 1) old))
        (ap (rows_in (k + 1)) (slice_get_past files k (omega (arith, is))) ∙ none (k + 1)) (was k) in
        let mine : rows_under (k + 1) more ≡ rows_in (k + 1) (slice_get (files ++ file ∷ []) k) =
        subst (λ j. rows_under (j + 1) more ≡ rows_in (j + 1) (slice_get (files ++ file ∷ []) j)) (sym is) (own
        ∙ ap (rows_in (length files + 1)) (sym (pushed_last files file))) in
        IsPermutation-trans _ _ _ (IsPermutation-append [] _ _ _ before (subst (λ rows.
        IsPermutation rows (rows_under (k + 1) more)) mine (IsPermutation-refl _))) (rows_more (k + 1) old more new h)
    go (inr differ) =
        let nothing : rows_under (k + 1) more ≡ [] = others (k + 1) (λ e. differ (omega (arith, e))) in
        let same = rows_more (k + 1) old more new h in
        let kept : IsPermutation (rows_under (k + 1) old) (rows_under (k + 1) new) =
        subst (λ rows. IsPermutation rows (rows_under (k + 1) new)) (ap (λ rows. rows_under (k + 1) old ++ rows) nothing
        ∙ append-nil (rows_under (k + 1) old)) same in
        subst (λ o. IsPermutation (rows_in (k + 1) o) (rows_under (k + 1) new)) (sym (pushed_get files file k differ))
        (IsPermutation-trans _ _ _ (was k) kept)
