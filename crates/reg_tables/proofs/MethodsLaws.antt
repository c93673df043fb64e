-- Lemmas on the definitions of specs/Methods.antt.
use Rattle.std.specs.Prelude.{◌≡◌, ℕ, ◌+◌, ◌-◌, ◌<◌, ◌≤◌, List, [], ◌∷◌, length, map, filter, Some, Result, Ok, Err}
use Rattle.std.specs.Prelude.{IfOk, slice_get}
use Rattle.std.proofs.Common.{zero, suc, sym, ap, ◌∙◌, subst, subst₂, refl, arith, get_or}
use Rattle.std.proofs.Math.Logic.{∥∥₁_elim}
use Rattle.std.proofs.Props.{props}
use Rattle.std.specs.List.{AllZip}
use Rattle.std.proofs.lemmas.Result.{IfOk-weaker}
use Rattle.std.specs.List.Sorted.{IsPermutation}
use Rattle.sqlite.specs.Tree.{IsAscending}
use Rattle.sqlite.specs.Order.{Row}
use Rattle.sqlite.specs.State.{State}
use Rattle.ags_dict.specs.Entries.{Entries}
use Rattle.ags_links.specs.Steps.{IsBefore, AreAscending, IsGraphOf, StepAt}
use Rattle.ags_check.specs.Findings.{CheckedFile, file_of}
use Rattle.reg_store.specs.declared.keep.Kept.{Kept}
use Rattle.reg_store.specs.declared.keep.KeptRow.{KeptRow}
use Rattle.reg_tables.specs.declared.error.TableError.{TableError}
use Rattle.reg_store.specs.Keep.{deposit_of, sent_of}
use Rattle.reg_store.specs.Sent.{Sent}
use Rattle.reg_store.specs.Deposit.{Deposit, sents}
use Rattle.reg_tables.specs.Rows.{deposit_table, given_deposit, line_table, step_table, placed_rows, rows_under, has_number}
use Rattle.reg_tables.specs.Rows.{step_pair}
use Rattle.reg_store.specs.Fit.{IsFileOf, kept_rows}
use Rattle.reg_tables.specs.Register.{deposits_in, deposit_in, file_lines, file_steps, KeepsRegister}
use Rattle.reg_tables.proofs.MarksLaws.{sent_at}
use Rattle.reg_tables.proofs.ShowsLaws.{row_of_number}
use Rattle.ags_links.proofs.Lemmas.{steps_ascend}
use Rattle.ags_check.proofs.Lemmas.{one_clean_file}
use Rattle.ags_links.specs.Walks.{StepGraph}
use Rattle.reg_tables.specs.Private.Methods.{HasSteps}

-- one row is that of one deposit
pub same_deposit : (n : ℕ) (a b : Sent) (rows : List Row) → rows ≡ given_deposit n a ∷ []
    → rows ≡ given_deposit n b ∷ [] → a ≡ b
same_deposit n a b rows x y = ap (λ (all : List Row). deposit_in (get_or all 0 [])) (sym x ∙ y)

pub slice_get_in : {X : Type 0} (xs : List X) (k : ℕ) → k < length xs → (x : X) × (slice_get xs k ≡ Some x)
slice_get_in [] k low = absurd (omega (arith, low))
slice_get_in (x ∷ xs) zero low = (x, refl)
slice_get_in (x ∷ xs) (suc k) low = slice_get_in xs k (omega (arith, low))

deposit_as : (d : Deposit) (kept : Kept) → d.sent ≡ sent_of kept → kept.withdrawn ≡ d.withdrawn → d ≡ deposit_of kept
deposit_as d kept sent mark = λ i. record { sent = sent i; withdrawn = sym mark i }

pub deposit_read_at : {s : State} {dictionary : Entries} {count : ℕ} (n : ℕ) (r : Result Kept TableError) → 0 < n
    → n ≤ length (deposits_in s.committed.trees) → ∥ KeepsRegister s dictionary count ∥₁
    → IfOk r (λ kept. filter (has_number n) (deposit_table s.now.trees) ≡ given_deposit n (sent_of kept) ∷ [])
    → IfOk r (λ kept. (d : Deposit) → slice_get (deposits_in s.committed.trees) (n - 1) ≡ Some d
    → kept.withdrawn ≡ d.withdrawn)
    → IfOk r (λ kept. slice_get (deposits_in s.committed.trees) (n - 1) ≡ Some (deposit_of kept))
deposit_read_at {s} {dictionary} {count} n (Ok kept) low high h ok mark =
    let list = deposits_in s.committed.trees in
    let d = slice_get_in list (n - 1) (omega (arith, low, high)) in
    let row : (k : KeepsRegister s dictionary count) → slice_get list (n - 1) ≡ Some (deposit_of kept) = λ k.
    (let sent = same_deposit n d.0.sent (sent_of kept) _ (row_of_number n (sents list)
    (deposit_table s.now.trees) d.0.sent low k.register.holds.deposits (sent_at list (n - 1) d.0 d.1)) ok in
    d.1 ∙ ap Some (deposit_as d.0 kept sent (mark d.0 d.1))) in
    let same : slice_get list (n - 1) ≡ Some (deposit_of kept) = ∥∥₁_elim h (Prim.hlevel props) row in same
deposit_read_at n (Err e) low high h ok mark = tt

rows_set : (a b : List KeptRow) → IsProp (a ≡ b)
rows_set a b = Prim.hlevel props

pub zip_at : {A B : Type 0} (R : A → B → Type 0) (xs : List A) (ys : List B) (k : ℕ) (x : A) → AllZip R xs ys
    → slice_get xs k ≡ Some x → (y : B) × (slice_get ys k ≡ Some y) × R x y
zip_at R [] ys k x h at = absurd cc
zip_at R (a ∷ xs) [] k x h at = absurd h
zip_at R (a ∷ xs) (b ∷ ys) zero x h at = let same : a ≡ x = cc in (b, refl, subst (λ z. R z b) same h.0)
zip_at R (a ∷ xs) (b ∷ ys) (suc k) x h at = zip_at R xs ys k x h.1 at

-- the file that the register holds of a deposit, whose groups and graph are those of any other file of it
pub held_file : {s : State} {dictionary : Entries} {count : ℕ} (n : ℕ) (d : Sent) (k : KeepsRegister s dictionary count)
    → 0 < n → slice_get (sents (deposits_in s.committed.trees)) (n - 1) ≡ Some d
    → (file : CheckedFile) × IsFileOf dictionary d file
    × IsPermutation (placed_rows 0 (kept_rows file.groups)) (rows_under n (line_table s.now.trees))
    × IsPermutation (map step_pair file.graph.steps) (rows_under n (step_table s.now.trees))
held_file {s} {dictionary} n d k low at =
    let it = zip_at (IsFileOf dictionary) (sents (deposits_in s.committed.trees)) k.register.holds.files
    (n - 1) d k.register.holds.each at in
    let e : (n - 1) + 1 ≡ n = omega (arith, low) in
    let lines = subst₂ (λ o (m : ℕ). IsPermutation (file_lines o) (rows_under m (line_table s.now.trees))) it.1 e
    (k.register.holds.lines (n - 1)) in
    let steps = subst₂ (λ o (m : ℕ). IsPermutation (file_steps o) (rows_under m (step_table s.now.trees))) it.1 e
    (k.register.holds.steps (n - 1)) in
    (it.0, it.2, lines, steps)

pub same_file : (dictionary : Entries) (d : Sent) (a b : CheckedFile) → IsFileOf dictionary d a → IsFileOf dictionary d b → a ≡ b
same_file dictionary d a b x y = one_clean_file a b x.clean y.clean (x.given ∙ sym y.given) (x.bytes ∙ sym y.bytes)

-- what is read of the file that the register holds of a deposit is so of each file of it
pub of_file : {X Y : Type 0} (items : X → Y) (of : CheckedFile → Y) → ((a b : Y) → IsProp (a ≡ b)) → {s : State} {dictionary : Entries} {count : ℕ} (n : ℕ)
    (r : Result X TableError) → 0 < n → ∥ KeepsRegister s dictionary count ∥₁
    → IfOk r (λ x. (d : Sent) (file : CheckedFile) → IsFileOf dictionary d file
    → IsPermutation (placed_rows 0 (kept_rows file.groups)) (rows_under n (line_table s.now.trees))
    → IsPermutation (map step_pair file.graph.steps) (rows_under n (step_table s.now.trees)) → items x ≡ of file)
    → IfOk r (λ x. (d : Sent) (file : CheckedFile) → slice_get (sents (deposits_in s.committed.trees)) (n - 1) ≡ Some d
    → IsFileOf dictionary d file → items x ≡ of file)
of_file items of set {s} {dictionary} {count} n (Ok x) low h read = λ d file at its.
    ∥∥₁_elim h (set (items x) (of file)) (λ (k : KeepsRegister s dictionary count).
    (let held = held_file n d k low at in read d held.0 held.1 held.2 held.3 ∙ ap of (same_file dictionary d held.0 file held.1 its)))
of_file items of set n (Err e) low h read = tt

pub rows_at : {X : Type 0} (items : X → List KeptRow) {s : State} {dictionary : Entries} {count : ℕ} (n : ℕ)
    (r : Result X TableError) → 0 < n → ∥ KeepsRegister s dictionary count ∥₁
    → IfOk r (λ x. (rows : List KeptRow) → IsPermutation (placed_rows 0 rows) (rows_under n (line_table s.now.trees))
    → items x ≡ rows)
    → IfOk r (λ x. (d : Sent) (file : CheckedFile) → slice_get (sents (deposits_in s.committed.trees)) (n - 1) ≡ Some d
    → IsFileOf dictionary d file → items x ≡ kept_rows file.groups)
rows_at items n r low h ok = of_file items (λ file. kept_rows file.groups) rows_set n r low h
    (IfOk-weaker r _ _ (λ x read d file its lines steps. read (kept_rows file.groups) lines) ok)

ascending : (steps : List (ℕ × ℕ)) → AreAscending steps → IsAscending IsBefore steps
ascending [] h = tt
ascending (step ∷ steps) h = (h.0, ascending steps h.1)

-- the steps of a file's graph rise
pub graph_ascends : (file : CheckedFile) → IsGraphOf (file_of file) file.graph → IsAscending IsBefore file.graph.steps
graph_ascends file is = ascending file.graph.steps (steps_ascend file.graph.steps (StepAt (file_of file)) is.steps)

one_wiring : (a b : StepGraph) → a.rows ≡ b.rows → a.steps ≡ b.steps → a ≡ b
one_wiring a b p q = λ i. record { rows = p i; steps = q i }

steps_set : (a b : List (ℕ × ℕ)) → IsProp (a ≡ b)
steps_set a b = Prim.hlevel props

pub graph_at : {s : State} {dictionary : Entries} {count : ℕ} (n : ℕ) (r : Result StepGraph TableError) → 0 < n
    → ∥ KeepsRegister s dictionary count ∥₁
    → IfOk r (λ graph. (d : Sent) (file : CheckedFile) → slice_get (sents (deposits_in s.committed.trees)) (n - 1)
    ≡ Some d → IsFileOf dictionary d file → graph.rows ≡ file.graph.rows)
    → IfOk r (λ graph. HasSteps n (step_table s.now.trees) graph.steps)
    → IfOk r (λ graph. (d : Sent) (file : CheckedFile) → slice_get (sents (deposits_in s.committed.trees)) (n - 1)
    ≡ Some d → IsFileOf dictionary d file → graph ≡ file.graph)
graph_at n (Ok graph) low h rows steps = λ d file at its. one_wiring graph file.graph (rows d file at its)
    (of_file (λ (g : StepGraph). g.steps) (λ f. f.graph.steps) steps_set n (Ok graph) low h (λ e held own lines kept.
    steps held.graph.steps (graph_ascends held own.clean.graph) kept) d file at its)
graph_at n (Err e) low h rows steps = tt
