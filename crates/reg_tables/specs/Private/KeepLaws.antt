-- The laws of the store.
use Rattle.std.specs.Prelude.{◌≡◌, ℕ, List, [], ◌∷◌, length, All, IsTrue}
use Rattle.std.proofs.Common.{◌≤◌, zero, suc, refl, sym, ap, ◌∙◌, subst, arith}
use Rattle.std.proofs.Math.Logic.{∥∥₁_elim, ∥∥₁_map}
use Rattle.std.proofs.Props.{props}
use Rattle.std.specs.List.{AllZip}
use Rattle.sqlite.specs.Tree.{Trees}
use Rattle.sqlite.specs.Effect.{Database, IsDatabase}
use Rattle.sqlite.specs.State.{State}
use Rattle.ags_dict.specs.Entries.{Entries}
use Rattle.ags_check.specs.Findings.{CheckedFile}
use Rattle.reg_store.specs.declared.keep.KeptRow.{KeptRow}
use Rattle.reg_store.specs.Sent.{Sent}
use Rattle.reg_store.specs.Deposit.{Deposit, sents}
use Rattle.reg_tables.specs.Private.Inserts.{AddsFile}
use Rattle.reg_tables.specs.Private.Marks.{long_sents}
use Rattle.reg_store.specs.Fit.{IsFit, IsFileOf}
use Rattle.reg_store.specs.PlainLaws.{fit_of}
use Rattle.reg_tables.specs.Register.{deposits_in, text_in, LeavesBroken, LeavesList, KeepsRegister, IsRegister, tables}
use Rattle.reg_tables.specs.Private.ReadBack.{read_back}

-- ---- no kept body has a finding

one_more : (dictionary : Entries) (d : Sent) (list : List Sent) → IsFit dictionary d → All (IsFit dictionary) list
    → All (IsFit dictionary) (d ∷ list)
one_more dictionary d list first more zero x low = first
one_more dictionary d list first more (suc k) x low = more k x (omega arith)

fits_each : (dictionary : Entries) (list : List Sent) (files : List CheckedFile)
    → AllZip (IsFileOf dictionary) list files → All (IsFit dictionary) list
fits_each dictionary [] [] h = λ k x low. absurd (omega arith)
fits_each dictionary [] (file ∷ files) h = absurd h
fits_each dictionary (d ∷ list) [] h = absurd h
fits_each dictionary (d ∷ list) (file ∷ files) h = let first : IsFit dictionary d = ∣ (file, h.0) ∣₁ in
    one_more dictionary d list first (fits_each dictionary list files h.1)

pub fit_at : {s : State} {dictionary : Entries} {count : ℕ} → ∥ KeepsRegister s dictionary count ∥₁
    → All (IsFit dictionary) (sents (deposits_in s.committed.trees))
fit_at {s} {dictionary} {count} h =
    fit_of dictionary (sents (deposits_in s.committed.trees)) (∥∥₁_map h
    (λ (k : KeepsRegister s dictionary count). fits_each dictionary _ k.register.holds.files k.register.holds.each))

-- ---- what is committed is a register under this schema

pub under_schema : (db : Database) (dictionary : Entries) (list : List Deposit) → IsRegister db dictionary list
    → IsRegister (tables db.trees) dictionary list
under_schema db dictionary list r =
    let same : db ≡ tables db.trees = λ i. record { schema = r.holds.schema i; trees = db.trees } in
    subst (λ (d : Database). IsRegister d dictionary list) same r

settled_register : {s : State} {dictionary : Entries} {count : ℕ} → KeepsRegister s dictionary count
    → IsRegister (tables s.committed.trees) dictionary (deposits_in s.committed.trees)
settled_register {s} {dictionary} k =
    subst (λ t. IsRegister (tables t) dictionary (deposits_in s.committed.trees)) (ap (λ (d : Database). d.trees)
    (sym k.settled)) (under_schema s.now dictionary (deposits_in s.committed.trees) k.register)

pub settled_at : {s : State} {dictionary : Entries} {count : ℕ} → ∥ KeepsRegister s dictionary count ∥₁
    → ((db : Trees) → IsTrue s.is_open → s.may_leave db → db ≡ s.committed.trees)
    → (bytes : List ℕ) (list : List Deposit) → LeavesList s.may_leave dictionary bytes list
    → (bytes ≡ text_in s.committed.trees) × (list ≡ deposits_in s.committed.trees)
settled_at {s} {dictionary} {count} kept law bytes list left =
    let is_open : IsTrue s.is_open =
    ∥∥₁_elim kept (Prim.hlevel props) (λ (k : KeepsRegister s dictionary count). k.is_open) in
    let same = law left.0 is_open left.1 in
    (left.2 ∙ ap text_in same, sym (read_back (tables left.0) list left.3) ∙ ap deposits_in same)

pub stays_at : {s : State} {dictionary : Entries} {count : ℕ}
    → ∥ KeepsRegister s dictionary count ∥₁ → (IsTrue s.is_open → s.may_leave s.committed.trees)
    → ∥ LeavesList s.may_leave dictionary (text_in s.committed.trees) (deposits_in s.committed.trees) ∥₁
stays_at {s} {dictionary} {count} kept law = ∥∥₁_map kept (λ (k : KeepsRegister s dictionary count).
    let r : LeavesList s.may_leave dictionary (text_in s.committed.trees) (deposits_in s.committed.trees) =
    (s.committed.trees, law k.is_open, refl, settled_register k) in r)

pub unbroken_at : {s : State} {dictionary : Entries} {count : ℕ} → ∥ KeepsRegister s dictionary count ∥₁ → ((db : Trees)
    → IsTrue s.is_open → s.may_leave db → db ≡ s.committed.trees) → LeavesBroken s.may_leave dictionary → ⊥
unbroken_at {s} {dictionary} {count} kept law left =
    let none : KeepsRegister s dictionary count → ⊥ =
    λ k. (let same = law left.0 k.is_open left.1 in left.2 (deposits_in s.committed.trees)
    (subst (λ t. IsRegister (tables t) dictionary (deposits_in s.committed.trees)) (sym same) (settled_register k))) in
    ∥∥₁_elim kept (Prim.hlevel props) none

pub remains_at : (may_leave : Trees → Type 0) (dictionary : Entries) → ∥ ((trees : Trees) × may_leave trees) ∥₁
    → (LeavesBroken may_leave dictionary → ⊥)
    → ((bytes : List ℕ) (list : List Deposit) → LeavesList may_leave dictionary bytes list → ⊥) → ⊥
remains_at may_leave dictionary some whole none =
    let left : (trees : Trees) × may_leave trees → ⊥ =
    λ p. whole (p.0, p.1, λ list register. none (text_in p.0) list (p.0, p.1, refl, register)) in
    ∥∥₁_elim some (Prim.hlevel props) left

-- what a crash within a change may leave beside what was there: the database after it
abbrev pub ChangesOf : (Database → Database → Type 0) → State → Trees → Type 0
ChangesOf Change old trees = (db : Database) × Change old.now db × IsDatabase db × (trees ≡ db.trees)

-- a deposit more
abbrev pub PutsOf : State → ℕ → Sent → List KeptRow → List (ℕ × ℕ) → Trees → Type 0
PutsOf old n d rows steps = ChangesOf (AddsFile n d rows steps) old

pub few_at : {s : State} {dictionary : Entries} {count : ℕ} → ∥ KeepsRegister s dictionary count ∥₁
    → (length (deposits_in s.committed.trees) ≤ 999999) × (999999 ≤ 999999)
few_at {s} {dictionary} {count} h = (
  ∥∥₁_elim h (Prim.hlevel props) (λ (k : KeepsRegister s dictionary count).
      omega (arith, k.register.holds.few, long_sents (deposits_in s.committed.trees))),
  omega arith,
)
