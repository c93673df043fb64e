-- Lemmas on the definitions of specs/Private/KeepLaws.antt.
use Rattle.std.specs.Prelude.{◌≡◌, map, ℕ, ◌+◌, ◌-◌, ◌<◌, Bool, false, List, [], ◌∷◌, ◌++◌, length, Some, slice_get, IsTrue}
use Rattle.std.proofs.Common.{◌≤◌, sym, ap, ◌∙◌, subst, arith, inl, inr, ◌⊎◌}
use Rattle.std.proofs.Math.Logic.{∥∥₁_elim, ∥∥₁_map}
use Rattle.std.proofs.Props.{props}
use Rattle.sqlite_trees.specs.Props.{Trees-set}
use Rattle.sqlite.specs.Schema.{Schema}
use Rattle.sqlite_schema.specs.contracts.schema.Schema.{the_row}
use Rattle.std.specs.Coded.{Coded-set}
use Rattle.sqlite.specs.Tree.{Trees}
use Rattle.sqlite.specs.Effect.{Database, IsDatabase}
use Rattle.sqlite.specs.State.{State, Survives, HasCleanDisk}
use Rattle.ags_dict.specs.Entries.{Entries}
use Rattle.ags_check.specs.Findings.{CheckedFile}
use Rattle.reg_store.specs.Sent.{Sent}
use Rattle.reg_store.specs.Deposit.{Deposit, with_withdrawn, sents, new_deposit}
use Rattle.reg_tables.specs.Tables.{register_schema}
use Rattle.reg_tables.specs.Private.Inserts.{AddsFile, AddsMark}
use Rattle.reg_tables.proofs.MethodsLaws.{slice_get_in}
use Rattle.reg_store.specs.Fit.{kept_rows}
use Rattle.sqlite.specs.Order.{Row}
use Rattle.reg_tables.specs.Rows.{columns_3}
use Rattle.reg_tables.specs.Register.{deposits_in, dictionary_body, text_in, LeavesBroken, LeavesList, KeepsRegister, IsRegister, tables}
use Rattle.reg_tables.proofs.RegisterLemmas.{IsReady}
use Rattle.reg_tables.specs.Private.ReadBack.{read_back}
use Rattle.reg_tables.proofs.ReadBackLaws.{register_mark, register_push}
use Rattle.reg_tables.specs.Quiet.{IsIdle, IsStill}
use Rattle.reg_tables.proofs.AddsLemmas.{opened_at}
use Rattle.reg_tables.proofs.QuietLaws.{clean_before}
use Rattle.reg_tables.proofs.TablesLemmas.{register_tables}
use Rattle.reg_tables.specs.Private.KeepLaws.{under_schema, ChangesOf}

pub schema_set : (a b : Schema) → IsProp (a ≡ b)
schema_set a b = Coded-set the_row.coded a b

pub schema_at : {s : State} {dictionary : Entries} {count : ℕ} → ∥ KeepsRegister s dictionary count ∥₁
    → s.now.schema ≡ register_schema
schema_at {s} {dictionary} {count} h = ∥∥₁_elim h (schema_set s.now.schema register_schema)
    (λ (k : KeepsRegister s dictionary count). k.register.holds.schema)

pub trees_at : {s : State} {dictionary : Entries} {count : ℕ} → ∥ KeepsRegister s dictionary count ∥₁
    → s.committed.trees ≡ s.now.trees
trees_at {s} {dictionary} {count} h = ∥∥₁_elim h (Trees-set s.committed.trees s.now.trees)
    (λ (k : KeepsRegister s dictionary count). ap (λ (d : Database). d.trees) k.settled)

pub schemas_at : {s : State} {dictionary : Entries} {count : ℕ} → ∥ KeepsRegister s dictionary count ∥₁
    → s.committed.schema ≡ s.now.schema
schemas_at {s} {dictionary} {count} h = ∥∥₁_elim h (schema_set s.committed.schema s.now.schema)
    (λ (k : KeepsRegister s dictionary count). ap (λ (d : Database). d.schema) k.settled)

same_database : (a b : Database) → a.schema ≡ b.schema → a.trees ≡ b.trees → a ≡ b
same_database a b p q = λ i. record { schema = p i; trees = q i }

pub settled_of : {s : State} {dictionary : Entries} {count : ℕ} → ∥ KeepsRegister s dictionary count ∥₁
    → s.committed ≡ s.now
settled_of {s} h = same_database s.committed s.now (schemas_at h) (trees_at h)

-- what is committed has the dictionary's bytes that were committed before
pub text_committed : (old new : State) {dictionary : Entries} {count : ℕ} → ∥ KeepsRegister old dictionary count ∥₁
    → new.committed ≡ new.now → new.now.trees 0 ≡ old.now.trees 0 → text_in new.committed.trees ≡ text_in old.committed.trees
text_committed old new kept settled meta =
    ap (λ (db : Database). text_in db.trees) settled ∙ ap (λ (rows : List Row). dictionary_body (map columns_3 rows)) meta ∙ sym (ap (λ (db : Database). text_in db.trees) (settled_of kept))

keeps_equal : {old new : State} {dictionary : Entries} {count : ℕ} → KeepsRegister old dictionary count
    → IsTrue new.is_open → new.now ≡ old.now → new.committed ≡ old.committed → KeepsRegister new dictionary count
keeps_equal {old} {new} {dictionary} {count} k is_open now committed = record {
  is_open = is_open;
  settled = committed ∙ k.settled ∙ sym now;
  register = subst (λ (db : Database). IsRegister db dictionary (deposits_in new.committed.trees)) (sym now)
      (subst (λ (db : Database). IsRegister old.now dictionary (deposits_in db.trees)) (sym committed) k.register);
  counted = k.counted ∙ ap (λ (db : Database). length (deposits_in db.trees)) (sym committed);
}

pub keeps_same : {old new : State} {dictionary : Entries} {count : ℕ} → ∥ KeepsRegister old dictionary count ∥₁
    → IsTrue new.is_open → new.now ≡ old.now → new.committed ≡ old.committed → ∥ KeepsRegister new dictionary count ∥₁
keeps_same {old} {new} {dictionary} {count} h is_open now committed =
    ∥∥₁_map h (λ (k : KeepsRegister old dictionary count).
    keeps_equal {old = old} {new = new} {dictionary = dictionary} {count = count} k is_open now committed)

list_set : (a b : List Deposit) → IsProp (a ≡ b)
list_set a b = Prim.hlevel props

pub counted_at : {s : State} {dictionary : Entries} {count : ℕ} → ∥ KeepsRegister s dictionary count ∥₁
    → count ≡ length (deposits_in s.committed.trees)
counted_at {s} {dictionary} {count} h =
    ∥∥₁_elim h (Prim.hlevel props) (λ (k : KeepsRegister s dictionary count). k.counted)

-- ---- the next list

-- all that a call which makes the list the next one makes of the store
pub record HoldsNext (new : State) (dictionary : Entries) (count : ℕ) (next : List Deposit) : Type 0 where
  pub kept : ∥ KeepsRegister new dictionary count ∥₁
  pub list : deposits_in new.committed.trees ≡ next

-- the tables of a store become by this change a register of the next list
abbrev pub BecomesNext : State → Entries → ℕ → (Database → Database → Type 0) → List Deposit → Type 0
BecomesNext old dictionary count Change next = KeepsRegister old dictionary count → (db : Database) → Change old.now db
    → IsDatabase db → IsRegister db dictionary next

pub next_at : {old new : State} {dictionary : Entries} {count : ℕ} (Change : Database → Database → Type 0)
    (next : List Deposit) → ∥ KeepsRegister old dictionary count ∥₁ → BecomesNext old dictionary count Change next
    → Change old.now new.now → IsDatabase new.now → new.committed ≡ new.now → IsTrue new.is_open
    → HoldsNext new dictionary (length next) next
next_at {old} {new} {dictionary} {count} Change next h becomes change sound settled is_open =
    record { kept = ∥∥₁_map h keep; list = ∥∥₁_elim h (list_set _ _) read }
  where
    read : KeepsRegister old dictionary count → deposits_in new.committed.trees ≡ next
    read k =
        ap (λ (db : Database). deposits_in db.trees) settled ∙ read_back new.now next (becomes k new.now change sound)

    keep : KeepsRegister old dictionary count → KeepsRegister new dictionary (length next)
    keep k = record {
      is_open = is_open;
      settled = settled;
      register = subst (IsRegister new.now dictionary)
          (sym (read k)) (becomes k new.now change sound);
      counted = ap length (sym (read k));
    }

-- The change leaves the table `meta`.
abbrev pub LeavesMeta : State → (Database → Database → Type 0) → Type 0
LeavesMeta old Change = (db : Database) → Change old.now db → db.trees 0 ≡ old.now.trees 0

-- a crash leaves the list from before, or the next one under the same dictionary
pub crash_at : {old new : State} {dictionary : Entries} {count : ℕ} (Change : Database → Database → Type 0)
    (next : List Deposit) → ∥ KeepsRegister old dictionary count ∥₁ → BecomesNext old dictionary count Change next
    → LeavesMeta old Change → Survives old new (ChangesOf Change old) → HasCleanDisk new → (bytes : List ℕ)
    (list : List Deposit) → LeavesList new.may_leave dictionary bytes list
    → LeavesList old.may_leave dictionary bytes list ⊎ ((bytes ≡ text_in old.committed.trees) × (list ≡ next))
crash_at {old} {new} {dictionary} {count} Change next h becomes meta survives clean bytes list left =
    go (survives.crash clean left.0 left.1)
  where
    go : old.may_leave left.0 ⊎ ChangesOf Change old left.0
        → LeavesList old.may_leave dictionary bytes list ⊎ ((bytes ≡ text_in old.committed.trees) × (list ≡ next))
    go (inl may) = inl (left.0, may, left.2, left.3)
    go (inr put) = inr (
      left.2 ∙ ap text_in put.3 ∙ ap (λ (rows : List Row). dictionary_body (map columns_3 rows)) (meta put.0 put.1)
          ∙ sym (ap (λ (db : Database). text_in db.trees) (settled_of h)),
      ∥∥₁_elim h (list_set _ _) (λ (k : KeepsRegister old dictionary count).
          sym (read_back (tables left.0) list left.3) ∙ ap deposits_in put.3
          ∙ read_back put.0 next (becomes k put.0 put.1 put.2)),
    )

-- and it leaves a register, whole
pub whole_next : {old new : State} {dictionary : Entries} {count : ℕ} (Change : Database → Database → Type 0)
    (next : List Deposit) → ∥ KeepsRegister old dictionary count ∥₁ → BecomesNext old dictionary count Change next
    → Survives old new (ChangesOf Change old) → HasCleanDisk new → LeavesBroken new.may_leave dictionary
    → LeavesBroken old.may_leave dictionary
whole_next {old} {new} {dictionary} {count} Change next h becomes survives clean left =
    go (survives.crash clean left.0 left.1)
  where
    none : (put : ChangesOf Change old left.0) → KeepsRegister old dictionary count → ⊥
    none put k = left.2 next (subst (λ t. IsRegister (tables t) dictionary next) (sym put.3)
        (under_schema put.0 dictionary next (becomes k put.0 put.1 put.2)))

    go : old.may_leave left.0 ⊎ ChangesOf Change old left.0 → LeavesBroken old.may_leave dictionary
    go (inl may) = (left.0, may, left.2)
    go (inr put) = absurd (∥∥₁_elim h (Prim.hlevel props) (none put))

pub put_next : {old : State} {dictionary : Entries} {count : ℕ} (d : Sent) (file : CheckedFile) → count < 999999
    → IsReady dictionary (sents (deposits_in old.committed.trees)) d file
    → BecomesNext old dictionary count (AddsFile (count + 1) d (kept_rows file.groups) file.graph.steps)
    (deposits_in old.committed.trees ++ new_deposit d ∷ [])
put_next {old} {dictionary} {count} d file low ready k db put sound = register_push dictionary old.now db
    (deposits_in old.committed.trees) d file count k.register k.counted low put sound ready

-- deposit n of the list has no mark
abbrev pub IsUnmarked : ℕ → List Deposit → Type 0
IsUnmarked n list = (d : Deposit) → slice_get list (n - 1) ≡ Some d → d.withdrawn ≡ false

pub mark_next : {old : State} {dictionary : Entries} {count : ℕ} (n : ℕ) → 0 < n
    → n ≤ length (deposits_in old.committed.trees) → IsUnmarked n (deposits_in old.committed.trees)
    → BecomesNext old dictionary count (AddsMark n) (with_withdrawn n (deposits_in old.committed.trees))
mark_next {old} {dictionary} {count} n low high bare k db put sound =
    let list = deposits_in old.committed.trees in
    let d = slice_get_in list (n - 1) (omega (arith, low, high)) in
    register_mark dictionary old.now db list n d.0 k.register low d.1 (bare d.0 d.1) put

-- ---- what a query needs and leaves

pub idle_at : (s : State) {dictionary : Entries} {count : ℕ} → s.in_transaction ≡ false
    → (HasCleanDisk s → ∥ KeepsRegister s dictionary count ∥₁) → IsIdle s
idle_at s idle kept = record {
  idle = idle;
  schema = λ clean. register_tables s.now.schema (schema_at (kept clean));
  settled = λ clean _. settled_of (kept clean);
}

pub keeps_quiet : (old new : State) {dictionary : Entries} {count : ℕ} {failed : Bool}
    → (HasCleanDisk old → ∥ KeepsRegister old dictionary count ∥₁) → IsStill old new failed → HasCleanDisk new
    → failed ≡ false → ∥ KeepsRegister new dictionary count ∥₁
keeps_quiet old new kept quiet clean well =
    let same = quiet.same clean well in
    let first = kept (clean_before old new quiet.survives clean) in
    keeps_same {old = old} {new = new} first (subst IsTrue (sym (quiet.is_open clean well)) (opened_at {s = old} first)) same.0 same.1

-- what a crash leaves after a call that commits nothing, it left before
pub left_same : (old new : State) → Survives old new (λ _. ⊥) → HasCleanDisk new → (Holds : Trees → Type 0)
    → (trees : Trees) × new.may_leave trees × Holds trees → (trees : Trees) × old.may_leave trees × Holds trees
left_same old new survives clean Holds left =
    elim (survives.crash clean left.0 left.1) [ inl may ↦ (left.0, may, left.2) | inr none ↦ absurd none ]

pub left_list : (old new : State) → Survives old new (λ _. ⊥) → HasCleanDisk new → (dictionary : Entries) (bytes : List ℕ) (list : List Deposit)
    → LeavesList new.may_leave dictionary bytes list → LeavesList old.may_leave dictionary bytes list
left_list old new survives clean dictionary bytes list left =
    elim (survives.crash clean left.0 left.1) [ inl may ↦ (left.0, may, left.2, left.3) | inr none ↦ absurd none ]

-- a register that was found is kept
pub adopted_keeps : (old new : State) (dictionary : Entries) (count : ℕ) → IsTrue new.is_open
    → new.now ≡ old.now → new.committed ≡ new.now → ∥ ((list : List Deposit) × IsRegister old.now dictionary list
    × (length list ≡ count)) ∥₁ → ∥ KeepsRegister new dictionary count ∥₁
adopted_keeps old new dictionary count is_open same settled found = ∥∥₁_map found keep
  where
    keep : (list : List Deposit) × IsRegister old.now dictionary list × (length list ≡ count)
        → KeepsRegister new dictionary count
    keep p =
        let there : IsRegister new.now dictionary p.0 =
        subst (λ (db : Database). IsRegister db dictionary p.0) (sym same) p.1 in
        let read : deposits_in new.committed.trees ≡ p.0 =
        ap (λ (db : Database). deposits_in db.trees) settled ∙ read_back new.now p.0 there in
        record {
          is_open = is_open;
          settled = settled;
          register = subst (IsRegister new.now dictionary) (sym read) there;
          counted = sym p.2 ∙ ap length (sym read);
        }

pub adopted_list : (old new : State) (dictionary : Entries) (count : ℕ) → new.now ≡ old.now → new.committed ≡ new.now
    → ∥ ((list : List Deposit) × IsRegister old.now dictionary list × (length list ≡ count)) ∥₁
    → ∥ IsRegister old.now dictionary (deposits_in new.committed.trees) ∥₁
adopted_list old new dictionary count same settled found =
    ∥∥₁_map found (λ (p : (list : List Deposit) × IsRegister old.now dictionary list × (length list ≡ count)).
    (let read : deposits_in new.committed.trees ≡ p.0 =
    ap (λ (db : Database). deposits_in db.trees) (settled ∙ same) ∙ read_back old.now p.0 p.1 in
    let register : IsRegister old.now dictionary (deposits_in new.committed.trees) =
    subst (IsRegister old.now dictionary) (sym read) p.1 in register))
