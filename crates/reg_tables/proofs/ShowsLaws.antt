-- What the query for one deposit answers.
use Rattle.std.proofs.Common.{◌≡◌, ℕ, zero, suc, ◌+◌, ◌<◌, ◌-◌, List, [], ◌∷◌, filter, Some}
use Rattle.std.proofs.Common.{slice_get, ap, subst, subst₂, arith}
use Rattle.std.specs.List.Sorted.{IsPermutation}
use Rattle.sqlite.specs.Order.{Row}
use Rattle.sqlite.proofs.Callers.{one_permutation}
use Rattle.sqlite_keyed.proofs.ListLemmas.{IsPermutation-filter}
use Rattle.reg_store.specs.Sent.{Sent}
use Rattle.reg_tables.specs.Rows.{given_deposit, has_number}
use Rattle.reg_tables.specs.Register.{deposit_rows}
use Rattle.reg_tables.specs.Private.RegisterLaws.{none_before}
use Rattle.reg_tables.specs.Private.Pushes.{equal_at, apart_at}

-- among the rows of a list one has the number of a deposit
pub row_at : (m k : ℕ) (list : List Sent) (d : Sent) → slice_get list k ≡ Some d
    → filter (has_number (m + k)) (deposit_rows m list) ≡ given_deposit (m + k) d ∷ []
row_at m k [] d at = absurd cc
row_at m zero (x ∷ list) d at =
    let e : m ≡ m + 0 = omega arith in
    let same : x ≡ d = cc in
    subst₂ (λ (n : ℕ) (y : Sent). filter (has_number n) (deposit_rows m (x ∷ list)) ≡ given_deposit n y ∷ []) e same
    (rw (equal_at m) (ap (λ more. given_deposit m x ∷ more) (none_before m (m + 1) list (omega arith))))
row_at m (suc k) (x ∷ list) d at =
    let e : (m + 1) + k ≡ m + suc k = omega arith in
    rw (apart_at m (m + suc k) (λ same. absurd (omega (arith, same)))) (subst (λ (n : ℕ).
    filter (has_number n) (deposit_rows (m + 1) list) ≡ given_deposit n d ∷ []) e (row_at (m + 1) k list d at))

pub row_of_number : (n : ℕ) (list : List Sent) (table : List Row) (d : Sent) → 0 < n → IsPermutation
    (deposit_rows 1 list) table → slice_get list (n - 1) ≡ Some d → filter (has_number n) table ≡ given_deposit n d ∷ []
row_of_number n list table d low are at =
    let e : 1 + (n - 1) ≡ n = omega (arith, low) in
    let one : filter (has_number n) (deposit_rows 1 list) ≡ given_deposit n d ∷ [] = subst
    (λ (m : ℕ). filter (has_number m) (deposit_rows 1 list) ≡ given_deposit m d ∷ []) e (row_at 1 (n - 1) list d at) in
    one_permutation _ _
    (subst (λ rows. IsPermutation rows (filter (has_number n) table)) one (IsPermutation-filter (has_number n) _ _ are))
