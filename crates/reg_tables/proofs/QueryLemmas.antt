-- What a query of the register leaves of a connection.
use Rattle.std.proofs.Common.{◌≡◌, refl, ap, ℕ, List, [], Bool, true, false, Option, Some, None, ◌⊎◌, Ok, Err, Result, IfOk, IfErr, OnOk, IsTrue, inl, inr, sym, subst, ◌∙◌, arith}
use Rattle.std.proofs.lemmas.Result.{IfOk-weaker, err_from_is_err_and}
use Rattle.std.specs.Result.{IsErrAnd}
use Rattle.sqlite.specs.Order.{Row}
use Rattle.sqlite.specs.declared.error.Error.{Error}
use Rattle.sqlite.specs.declared.error.Error.TheVariants.{SqlInputError}
use Rattle.sqlite_trees.specs.declared.error.StoreError.{StoreError}
use Rattle.sqlite_trees.specs.declared.error.StoreError.TheVariants as faults
use Rattle.sqlite_schema.specs.declared.command.Returning.{Returning}
use Rattle.sqlite.specs.Clock.{timed}
use Rattle.sqlite.specs.Tree.{Trees}
use Rattle.sqlite.specs.Effect.{Database}
use Rattle.sqlite.specs.Listing.{understood, reads_listing, IsSourceOf}
use Rattle.sqlite.specs.State.{State, Shown, ShowsRows, IsRolledBack, IsUnchanged, HasCleanDisk, Survives, store_error, CommitsShowing, FailsToQuery, IsNotRun, FailsToShow}
use Rattle.sqlite.proofs.StateLemmas.{survives_weaker, survives_then}
use Rattle.sqlite.proofs.Callers.{IsPlain, never_commits, unchanged_then}
use Rattle.reg_tables.specs.Tables.{HasTables}
use Rattle.reg_tables.specs.Private.Meaning.{IsPlainText}
use Rattle.reg_tables.specs.Private.Found.{OnlyShows}
use Rattle.reg_tables.specs.declared.error.TableError.{TableError}
use Rattle.reg_tables.specs.declared.error.TableError.TheVariants as table
use Rattle.reg_tables.specs.declared.error.AdoptError.{AdoptError}
use Rattle.reg_tables.specs.declared.error.AdoptError.TheVariants.{NoMemory, Store}
use Rattle.reg_tables.specs.Private.Errors.{adopt_error, database_fails, is_of_database}
use Rattle.reg_tables.specs.Adoption.{gives_up, is_store_failure}
use Rattle.reg_tables.specs.Quiet.{IsAsBefore, IsStill, IsUndone}
use Rattle.reg_tables.proofs.QuietLaws.{clean_before, quiet_read, same_then, survives_same}

pub plain_at : (sql : List ℕ) (s : State) → IsPlainText sql → HasTables s.now.schema → IsPlain (understood s.now.schema sql)
plain_at sql s plain has = plain s.now.schema has

-- what is not run leaves the connection unchanged, or rolled back
not_run : (sql : List ℕ) (params : Row) (old new : State) (e : Error) → IsNotRun old new sql params e → IsUnchanged old new ⊎ IsRolledBack old new
unfolding IsNotRun
not_run sql params old new e (inl h) = inl h.1
not_run sql params old new e (inr h) = inr h.3

-- so does a query that fails
pub fails_so : (sql : List ℕ) (params : Row) (old new : State) (e : Error) → FailsToQuery sql params old new e → IsUnchanged old new ⊎ IsRolledBack old new
unfolding FailsToQuery
fails_so sql params old new e (inl h) = not_run sql params old new e h
fails_so sql params old new e (inr h) = shows h.0.returning h.2
  where
    shows : (r : Option Returning) → FailsToShow old new sql h.0 (timed params h.0.formats h.1.now) e r → IsUnchanged old new ⊎ IsRolledBack old new
    shows None f = inl f.3
    shows (Some what) (inl f) = inl f.1
    shows (Some what) (inr f) = inr f.3

-- either leaves what was committed, where that was all and no transaction ran
as_before : (old new : State) → old.in_transaction ≡ false → (IsTrue old.is_open → old.committed ≡ old.now) → IsTrue new.is_open → IsUnchanged old new ⊎ IsRolledBack old new → IsAsBefore old new
as_before old new idle settled is_open (inl same) = (same.0.was_open, (same.0.now_is, same.0.committed_is, inl same.2))
as_before old new idle settled is_open (inr back) = let u = back.undone is_open in let was = back.was_open is_open in (was, (u.0 ∙ settled was, u.1, inr (idle, back.unmarked)))

pub fails_keeps : (sql : List ℕ) (params : Row) (old new : State) (e : Error) → old.in_transaction ≡ false → (IsTrue old.is_open → old.committed ≡ old.now) → IsTrue new.is_open → FailsToQuery sql params old new e → IsAsBefore old new
fails_keeps sql params old new e idle settled is_open h = as_before old new idle settled is_open (fails_so sql params old new e h)

pub shown_same : (sql : List ℕ) (old new : State) (params : Row) (rows : List Row) → IsPlain (understood old.now.schema sql) → Shown sql params old new rows → IsUnchanged old new
unfolding Shown
shown_same sql old new params rows plain h =
    let none : h.0.returning ≡ None = (subst IsPlain h.1.is plain).0 in
    (subst (ShowsRows old new sql h.0 (timed params h.0.formats h.1.now) rows) none h.2).3

-- what is shown later of a connection that did not change is shown of it from the start
pub shown_from : (sql : List ℕ) (params : Row) (old mid new : State) (rows : List Row) → IsPlain (understood old.now.schema sql) → IsUnchanged old mid → Shown sql params mid new rows → Shown sql params old new rows
unfolding Shown
shown_from sql params old mid new rows plain same h =
    let has = same.0.now_is in
    let none : h.0.returning ≡ None = (subst IsPlain h.1.is (subst (λ (d : Database). IsPlain (understood d.schema sql)) (sym has) plain)).0 in
    let full = timed params h.0.formats h.1.now in
    let it = subst (ShowsRows mid new sql h.0 full rows) none h.2 in
    let source = subst (λ (d : Database). IsSourceOf (reads_listing d.schema sql) d it.0) has it.1 in (
      h.0,
      record { is = subst (λ (d : Database). understood d.schema sql ≡ Ok h.0) has h.1.is; whole = h.1.whole; given = h.1.given; now = h.1.now },
      subst (ShowsRows old new sql h.0 full rows) (sym none) (it.0, source, it.2, unchanged_then old mid new same it.3),
    )

module _ (sql : List ℕ) where
  pub asks_quietly : (old new : State) (params : Row) → OnlyShows sql old → Survives old new (CommitsShowing sql params old) → Survives old new (λ _. ⊥)
  asks_quietly old new params plain s =
      survives_weaker old new _ _ (λ clean db. never_commits sql params old db (plain (omega (arith, s.clean)))) s

  module _ {X : Type 0} (items : X → List Row) (old new : State) (plain : IsPlain (understood old.now.schema sql)) (params : Row) where
    pub opened_by : (r : Result X Error) → IfOk r (λ x. Shown sql params old new (items x)) → OnOk r (IsTrue new.is_open)
    opened_by r h = IfOk-weaker r _ (λ _. IsTrue new.is_open) (λ x shown. (shown_same sql old new params (items x) plain shown).0.is_open) h

    pub same_by : (r : Result X Error) → old.in_transaction ≡ false → (IsTrue old.is_open → old.committed ≡ old.now) → IsTrue new.is_open → IfOk r (λ x. Shown sql params old new (items x))
        → IfErr r (FailsToQuery sql params old new) → IsAsBefore old new
    same_by (Ok x) idle settled is_open h f = as_before old new idle settled is_open (inl (shown_same sql old new params (items x) plain h))
    same_by (Err e) idle settled is_open h f = fails_keeps sql params old new e idle settled is_open f

-- no call, no crash
pub survives_none : (s : State) → Survives s s (λ _. ⊥)
survives_none s = survives_same s

pub both_open : {a b : Bool} → IsTrue a → IsTrue b → a ≡ b
both_open p q = p ∙ sym q

-- the query did not fail, or the connection is still open
pub ok_quiet : (old new : State) → new.in_transaction ≡ false → (HasCleanDisk new → IsTrue new.is_open) → (HasCleanDisk new → IsTrue new.is_open → IsAsBefore old new) → Survives old new (λ _. ⊥) → IsStill old new false
ok_quiet old new idle is_open stays survives = record {
  idle = idle;
  is_open = λ clean _. both_open (is_open clean) (stays clean (is_open clean)).0;
  same = λ clean _. (stays clean (is_open clean)).1;
  still = stays;
  survives = survives;
}

-- a text that is only prepared leaves the connection unchanged, or rolled back
pub probed : {X : Type 0} (P : X → Type 0) (sql : List ℕ) (old new : State) (r : Result X Error) → IfOk r (λ x. P x × IsUnchanged old new) → IfErr r (λ e. (params : Row) → IsNotRun old new sql params e)
    → IsUnchanged old new ⊎ IsRolledBack old new
probed P sql old new (Ok x) ok err = inl ok.1
probed P sql old new (Err e) ok err = not_run sql [] old new e (err [])

-- the error is that of a text that is no statement
abbrev pub is_input : Error → Bool
is_input (SqlInputError fault) = true
is_input _ = false

no_fault : (cause : StoreError) → is_input (store_error cause) ≡ false
no_fault faults.OutOfMemory = refl
no_fault cause = refl

-- a text that is refused as no statement changes nothing
pub refused_text : (sql : List ℕ) (old new : State) (e : Error) → ((params : Row) → IsNotRun old new sql params e) → is_input e ≡ true → IsUnchanged old new
unfolding IsNotRun
refused_text sql old new e refused is = elim (refused []) [ inl h ↦ h.1 | inr h ↦ absurd (let none : is_input e ≡ false = ap is_input h.1 ∙ no_fault h.0 in let no : true ≡ false = sym is ∙ none in cc) ]

-- what stays as it was shows what was committed, if it did so from the start
pub settled_then : {P : Trees → Type 0} (old new : State) → (HasCleanDisk old → IsTrue old.is_open → old.committed ≡ old.now) → (HasCleanDisk new → IsTrue new.is_open → IsAsBefore old new) → Survives old new P
    → HasCleanDisk new → IsTrue new.is_open → new.committed ≡ new.now
settled_then old new settled stays one clean is_open = let was = stays clean is_open in was.1.1 ∙ settled (clean_before old new one clean) was.0 ∙ sym was.1.0

-- the connection is asked whether it is open, and it still is: it shows what it showed from the start
pub still_then : {P Q : Trees → Type 0} (old mid new : State) → old.in_transaction ≡ false → mid.in_transaction ≡ false → (HasCleanDisk old → IsTrue old.is_open → old.committed ≡ old.now)
    → (HasCleanDisk mid → IsTrue mid.is_open → IsAsBefore old mid) → Survives old mid P → (HasCleanDisk new → IsTrue new.is_open → IsUnchanged mid new ⊎ IsRolledBack mid new) → Survives mid new Q
    → HasCleanDisk new → IsTrue new.is_open → IsAsBefore old new
still_then old mid new idle idle_mid settled stays one probe two clean is_open =
    let early = clean_before mid new two clean in
    let next = as_before mid new idle_mid (settled_then old mid settled stays one early) is_open (probe clean is_open) in
    let was = stays early next.0 in (was.0, same_then old mid new idle was.1 next.1)

-- what a change that failed leaves of a connection that showed no more than was committed
pub undone_still : {P : Trees → Type 0} (old new : State) → old.in_transaction ≡ false → (HasCleanDisk new → IsTrue new.is_open → IsTrue old.is_open) → (HasCleanDisk new → IsTrue new.is_open → IsUndone old new)
    → (HasCleanDisk old → IsTrue old.is_open → old.committed ≡ old.now) → Survives old new P → HasCleanDisk new → IsTrue new.is_open → IsAsBefore old new
undone_still old new idle was_open undone settled one clean is_open =
    let was = was_open clean is_open in
    let it = undone clean is_open in (was, (it.0 ∙ settled (clean_before old new one clean) was, it.1, inr (idle, it.2)))

-- what is known of a connection on which a change was undone, and which is then asked whether it is open
pub ruleset undone_laws = (still_then, undone_still)

-- a call failed, and where its answer is no failure of the store, nothing changed since
pub refused_quiet : (old mid new : State) (failed : Bool) → old.in_transaction ≡ false → mid.in_transaction ≡ false → new.in_transaction ≡ false → (HasCleanDisk old → IsTrue old.is_open → old.committed ≡ old.now)
    → (HasCleanDisk mid → IsTrue mid.is_open → IsAsBefore old mid) → Survives old mid (λ _. ⊥) → (HasCleanDisk new → failed ≡ false → IsUnchanged mid new)
    → (HasCleanDisk new → IsTrue new.is_open → IsUnchanged mid new ⊎ IsRolledBack mid new) → Survives mid new (λ _. ⊥) → IsStill old new failed
refused_quiet old mid new failed idle idle_mid mode settled stays one unchanged probe two = record {
  idle = mode;
  is_open = λ clean well. both_open (unchanged clean well).0.is_open (was clean well).0;
  same = λ clean well. (let at = unchanged clean well in same_then old mid new idle (was clean well).1 (at.0.now_is, at.0.committed_is, inl at.2));
  still = still_then old mid new idle idle_mid settled stays one probe two;
  survives = survives_then old mid new _ _ (λ _. ⊥) (λ _ db none. none) (λ _ db none. none) one two;
}
  where
    was : HasCleanDisk new → failed ≡ false → IsAsBefore old mid
    was clean well = stays (clean_before mid new two clean) (unchanged clean well).0.was_open

-- what is said of both answers to a fault is said of its answer
pub fault_is : (P : AdoptError → Type 0) (e : TableError) (a : AdoptError) → a ≡ adopt_error e → P Store → P NoMemory → P a
fault_is P table.NoMemory a is store memory = subst P (sym is) memory
fault_is P table.Store a is store memory = subst P (sym is) store

-- the answer is `Store` where the call failed with `Store`
pub fault_quiet : (old new : State) (e : TableError) (a : AdoptError) → a ≡ adopt_error e → IsStill old new (is_of_database e) → IsStill old new (is_store_failure a)
fault_quiet old new table.Store a is quiet = subst (λ (x : AdoptError). IsStill old new (is_store_failure x)) (sym is) quiet
fault_quiet old new table.NoMemory a is quiet = subst (λ (x : AdoptError). IsStill old new (is_store_failure x)) (sym is) quiet

-- ---- a refusal that `?` passes on

-- a call that fails with the error of another fails as that did
pub passed_quiet : {X : Type 0} (old new : State) (r : Result X TableError) (e : TableError) → IsErrAnd r (λ d. d ≡ e) → IsStill old new (is_of_database e) → IsStill old new (database_fails r)
passed_quiet old new r e is quiet = let p = err_from_is_err_and r is in rw (p.1, p.2) quiet

pub refused_as : {X : Type 0} (P : AdoptError → Type 0) (r : Result X AdoptError) (e : AdoptError) → IsErrAnd r (λ d. d ≡ e) → P e → IfErr r P
refused_as P r e is its = let p = err_from_is_err_and r is in rw (p.1, p.2) its

pub gives_up_quiet : {X : Type 0} (old new : State) (r : Result X AdoptError) (e : AdoptError) → IsErrAnd r (λ d. d ≡ e) → IsStill old new (is_store_failure e) → IsStill old new (gives_up r)
gives_up_quiet old new r e is quiet = let p = err_from_is_err_and r is in rw (p.1, p.2) quiet

-- so does one whose error is made of it
pub raised_quiet : {X : Type 0} (old new : State) (r : Result X AdoptError) (e : TableError) → IsErrAnd r (λ a. a ≡ adopt_error e) → IsStill old new (is_of_database e) → IsStill old new (gives_up r)
raised_quiet old new r e is quiet = let p = err_from_is_err_and r is in rw p.1 (fault_quiet old new e p.0 p.2 quiet)

pub raised_is : {X : Type 0} (P : AdoptError → Type 0) (r : Result X AdoptError) (e : TableError) → IsErrAnd r (λ a. a ≡ adopt_error e) → P Store → P NoMemory → IfErr r P
raised_is P r e is store memory = let p = err_from_is_err_and r is in rw p.1 (fault_is P e p.0 p.2 store memory)
