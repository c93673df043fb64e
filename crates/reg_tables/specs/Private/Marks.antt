-- The marks of deposits as rows: they are read back, and there may be one more.
use Rattle.std.proofs.Common.{◌≡◌, ℕ, zero, suc, ◌+◌, ◌<◌, List, [], ◌∷◌, length, Bool, true, false, Some}
use Rattle.std.proofs.Common.{slice_get, refl, sym, ap, subst, ◌∙◌, arith}
use Rattle.std.specs.List.{list_any}
use Rattle.std.specs.List.Sorted.{IsPermutation}
use Rattle.std.proofs.lemmas.List.{length-map}
use Rattle.std.proofs.lemmas.List.Sorted.{list_any-IsPermutation}
use Rattle.sqlite.specs.Order.{Row}
use Rattle.sqlite.specs.Tree.{Trees}
use Rattle.reg_store.specs.Deposit.{Deposit, sents}
use Rattle.reg_tables.specs.declared.schema.format.Format.TheVariants.{Second}
use Rattle.reg_tables.specs.Rows.{deposit_table, has_number}
use Rattle.reg_tables.specs.Register.{deposit_rows, deposits_in, mark_rows, mark_table, marks_of, with_marks}
use Rattle.reg_tables.specs.Private.Pushes.{equal_at, apart_at}
use Rattle.reg_tables.specs.Private.RegisterLaws.{sents_back}

pub long_sents : (list : List Deposit) → length (sents list) ≡ length list
long_sents list = length-map list (λ d. d.sent)

-- ---- they are read back

-- no mark before the first
none_marked : (m n : ℕ) (marks : List Bool) → n < m → list_any (has_number n) (mark_rows m marks) ≡ false
none_marked m n [] low = refl
none_marked m n (true ∷ marks) low =
    rw (apart_at m n (λ e. absurd (omega (arith, e, low)))) (none_marked (m + 1) n marks (omega (arith, low)))
none_marked m n (false ∷ marks) low = none_marked (m + 1) n marks (omega (arith, low))

mark_at : (m k : ℕ) (marks : List Bool) (b : Bool) → slice_get marks k ≡ Some b
    → list_any (has_number (m + k)) (mark_rows m marks) ≡ b
mark_at m k [] b at = absurd cc
mark_at m zero (true ∷ marks) b at =
    let e : m + 0 ≡ m = omega arith in
    let is : true ≡ b = cc in
    rw e (rw (equal_at m) is)
mark_at m zero (false ∷ marks) b at = let is : false ≡ b = cc in none_marked (m + 1) (m + 0) marks (omega arith) ∙ is
mark_at m (suc k) (true ∷ marks) b at =
    let e : (m + 1) + k ≡ m + suc k = omega arith in
    rw (apart_at m (m + suc k) (λ same. absurd (omega (arith, same))))
    (subst (λ j. list_any (has_number j) (mark_rows (m + 1) marks) ≡ b) e (mark_at (m + 1) k marks b at))
mark_at m (suc k) (false ∷ marks) b at =
    let e : (m + 1) + k ≡ m + suc k = omega arith in
    subst (λ j. list_any (has_number j) (mark_rows (m + 1) marks) ≡ b) e (mark_at (m + 1) k marks b at)

deposit_as : (d : Deposit) (b : Bool) → b ≡ d.withdrawn → record { sent = d.sent; withdrawn = b } ≡ d
deposit_as d b is = let make : Bool → Deposit = λ x. record { sent = d.sent; withdrawn = x } in ap make is

marked_back : (n : ℕ) (rows : List Row) (list : List Deposit) → ((k : ℕ) (b : Bool)
    → slice_get (marks_of list) k ≡ Some b → list_any (has_number (n + k)) rows ≡ b)
    → with_marks n rows (sents list) ≡ list
marked_back n rows [] each = refl
marked_back n rows (d ∷ list) each =
    let e : n + 0 ≡ n = omega arith in
    let first : list_any (has_number n) rows ≡ d.withdrawn =
    subst (λ j. list_any (has_number j) rows ≡ d.withdrawn) e (each 0 d.withdrawn refl) in
    let more = marked_back (n + 1) rows list (λ k b at. (let s : n + suc k ≡ (n + 1) + k = omega arith in
    subst (λ j. list_any (has_number j) rows ≡ b) s (each (suc k) b at))) in
    ap (λ (x : Deposit). x ∷ with_marks (n + 1) rows (sents list)) (deposit_as d _ first)
    ∙ ap (λ (all : List Deposit). d ∷ all) more

-- a table that holds the marks of a list says which deposits they mark
pub marks_back : (list : List Deposit) (rows : List Row) → IsPermutation (mark_rows 1 (marks_of list)) rows
    → with_marks 1 rows (sents list) ≡ list
marks_back list rows are = marked_back 1 rows list (λ k b at. sym (list_any-IsPermutation (has_number (1 + k)) _ _ are)
    ∙ mark_at 1 k (marks_of list) b at)

-- so do tables that hold a list
pub tables_back : (trees : Trees) (list : List Deposit)
    → IsPermutation (deposit_rows 1 (sents list)) (deposit_table trees)
    → IsPermutation (mark_rows 1 (marks_of list)) (mark_table Second trees) → deposits_in trees ≡ list
unfolding deposits_in
tables_back trees list sent marks = ap (with_marks 1 (mark_table Second trees)) (sents_back trees (sents list) sent)
    ∙ marks_back list (mark_table Second trees) marks
