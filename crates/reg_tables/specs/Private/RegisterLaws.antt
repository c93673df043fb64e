-- What was sent is read back, and one deposit more is held.
use Rattle.std.proofs.Common.{◌≡◌, ℕ, suc, ◌+◌, ◌<◌, List, [], ◌∷◌, ◌++◌, filter, unwrap_or, append_assoc, length}
use Rattle.std.proofs.Common.{length-append, slice_get, refl, sym, ap, subst, ◌∙◌, arith}
use Rattle.std.specs.List.Sorted.{IsPermutation}
use Rattle.sqlite_keyed.proofs.ListLemmas.{slice_get-filter, IsPermutation-filter}
use Rattle.std.proofs.lemmas.List.Sorted.{length_permutation}
use Rattle.sqlite.proofs.Callers.{one_permutation}
use Rattle.sqlite.specs.Order.{Row}
use Rattle.sqlite.specs.Tree.{Trees}
use Rattle.reg_store.specs.Sent.{Sent}
use Rattle.reg_tables.specs.Rows.{given_deposit, deposit_table, has_number}
use Rattle.reg_tables.specs.Register.{deposit_rows, deposit_in, deposit_at, deposits_from, sents_in}
use Rattle.reg_tables.specs.Private.Pushes.{equal_at, apart_at}

-- among the rows of a list one has the number of a deposit
pub none_before : (n m : ℕ) (list : List Sent) → n < m → filter (has_number n) (deposit_rows m list) ≡ []
none_before n m [] low = refl
none_before n m (d ∷ list) low =
    rw (apart_at m n (λ e. absurd (omega (arith, e)))) (none_before n (m + 1) list (omega arith))

one_row : (n m : ℕ) (before : List Sent) (d : Sent) (after : List Sent) → n ≡ m + length before
    → filter (has_number n) (deposit_rows m (before ++ d ∷ after)) ≡ given_deposit n d ∷ []
one_row n m [] d after e =
    let same : n ≡ m = omega (arith, e) in
    subst (λ k. filter (has_number n) (deposit_rows k (d ∷ after)) ≡ given_deposit n d ∷ []) same
    (rw (equal_at n) (ap (λ more. given_deposit n d ∷ more) (none_before n (n + 1) after (omega arith))))
one_row n m (x ∷ before) d after e =
    rw (apart_at m n (λ same. absurd (omega (arith, same, e)))) (one_row n (m + 1) before d after (omega (arith, e)))

reads_one : (before : List Sent) (d : Sent) (after : List Sent) (rows : List Row)
    → IsPermutation (deposit_rows 1 (before ++ d ∷ after)) rows → deposit_at rows (1 + length before) ≡ d
reads_one before d after rows h =
    let n = 1 + length before in
    let one : IsPermutation (given_deposit n d ∷ []) (filter (has_number n) rows) =
    subst (λ all. IsPermutation all (filter (has_number n) rows)) (one_row n 1 before d after refl)
    (IsPermutation-filter (has_number n) _ _ h) in
    ap (λ o. deposit_in (unwrap_or o [])) (sym (slice_get-filter (has_number n) rows))
    ∙ ap (λ (all : List Row). deposit_in (unwrap_or (slice_get all 0) [])) (one_permutation (given_deposit n d) _ one)

reads_all : (before rest : List Sent) (rows : List Row) → IsPermutation (deposit_rows 1 (before ++ rest)) rows
    → deposits_from rows (1 + length before) (length rest) ≡ rest
reads_all before [] rows h = refl
reads_all before (d ∷ rest) rows h =
    let e : (1 + length before) + 1 ≡ 1 + length (before ++ d ∷ []) = omega (arith, length-append before (d ∷ [])) in
    let more = reads_all (before ++ d ∷ []) rest rows
    (subst (λ list. IsPermutation (deposit_rows 1 list) rows) (sym (append_assoc before (d ∷ []) rest)) h) in
    ap (λ x. x ∷ deposits_from rows ((1 + length before) + 1) (length rest)) (reads_one before d rest rows h)
    ∙ ap (λ all. d ∷ all) (ap (λ k. deposits_from rows k (length rest)) e ∙ more)

pub rows-length : (n : ℕ) (list : List Sent) → length (deposit_rows n list) ≡ length list
rows-length n [] = refl
rows-length n (d ∷ list) = ap suc (rows-length (n + 1) list)

pub sents_back : (trees : Trees) (list : List Sent) → IsPermutation (deposit_rows 1 list) (deposit_table trees)
    → sents_in trees ≡ list
unfolding sents_in
sents_back trees list is =
    let table = deposit_table trees in
    ap (deposits_from table 1) (length_permutation _ _ is ∙ rows-length 1 list) ∙ reads_all [] list table is
