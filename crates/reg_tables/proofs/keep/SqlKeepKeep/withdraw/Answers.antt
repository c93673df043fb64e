use Rattle.std.proofs.Common.{Err, ◌≡◌, ℕ, arith, List, false, length, refl, sym, ap, subst, ◌∙◌}
use Rattle.sqlite.specs.Effect.{Database}
use Rattle.sqlite.specs.State.{HasCleanDisk}
use Rattle.sqlite.specs.Held.{state}
use Rattle.reg_store.specs.Deposit.{Deposit, with_withdrawn}
use Rattle.reg_tables.specs.Private.Errors.{is_of_database, keep_error}
use Rattle.reg_tables.specs.Private.Inserts.{AddsMark}
use Rattle.reg_tables.proofs.KeepLemmas.{HoldsNext, BecomesNext, counted_at, crash_at, keeps_same, mark_next, next_at}
use Rattle.reg_tables.proofs.KeepLemmas.{schema_at, settled_of, text_committed, whole_next}
use Rattle.reg_tables.proofs.MarksLaws.{length_marked}
use Rattle.reg_tables.specs.Private.Memory.{Agrees}
use Rattle.reg_tables.proofs.QuietLaws.{clean_before}
use Rattle.reg_tables.specs.Register.{KeepsRegister, deposits_in, text_in}
use Rattle.reg_tables.proofs.ReadsLemmas.{adds_as, error_fails}
use Rattle.reg_tables.proofs.keep.SqlKeepKeep.withdraw.Given.{Over}
use Rattle.reg_tables.proofs.keep.SqlKeepKeep.withdraw.Goals.{After-mark}
use Rattle.reg_tables.proofs.keep.SqlKeepKeep.withdraw.Goals as goal

-- a mark leaves meta
mark_meta : {n : ℕ} {old : Database} (db : Database) → AddsMark n old db → db.trees 0 ≡ old.trees 0
mark_meta db put = put.others.0 (λ e. absurd (let no : ◌≡◌ {A = ℕ} 0 8 = e in omega arith))

pub change_tables-requires : goal.change_tables-requires
change_tables-requires g c =
    let keep = c.args.self.now in
    record { mode = keep.idle; settled = λ clean _. settled_of (keep.kept c.requires.working clean); schema = λ clean. schema_at (keep.kept c.requires.working clean) }

-- ---- where the store refused

pub invariant_of-self-in-Err-clause-kept : goal.invariant_of-self-in-Err-clause-kept
invariant_of-self-in-Err-clause-kept g c works clean =
    let keep = c.args.self.now in
    let old = state g.S.Store keep.connection in
    let new = state g.S.Store c.change_tables.new.conn in
    let first = clean_before old new c.change_tables.ensures.crash clean in
    let bare : is_of_database c.in-Err.error ≡ false = sym c.answer.ensures.failing ∙ works in
    let was = keep.kept c.requires.working first in
    let undone = c.in-Err.ensures.undone clean bare in
    keeps_same {old = old} {new = new} was (c.in-Err.ensures.open clean bare) (undone.0 ∙ settled_of was) undone.1

pub invariant_of-self-in-Err-clause-agrees : goal.invariant_of-self-in-Err-clause-agrees
invariant_of-self-in-Err-clause-agrees g c works clean =
    let keep = c.args.self.now in
    let old = state g.S.Store keep.connection in
    let first = clean_before old (state g.S.Store c.change_tables.new.conn) c.change_tables.ensures.crash clean in
    let bare : is_of_database c.in-Err.error ≡ false = sym c.answer.ensures.failing ∙ works in
    subst (λ (db : Database). Agrees keep.memory keep.dictionary (deposits_in db.trees)) (sym (c.in-Err.ensures.undone clean bare).1) (keep.agrees c.requires.working first)

-- ---- where the mark was set

abbrev held : (g : Over) → After-mark g → List Deposit
held g c = deposits_in (state g.S.Store c.args.self.now.connection).committed.trees

becomes : (g : Over) (c : After-mark g) → HasCleanDisk (state g.S.Store c.change_tables.new.conn)
    → BecomesNext (state g.S.Store c.args.self.now.connection) c.args.self.now.dictionary (length c.args.self.now.memory.known.items) (AddsMark c.args.n) (with_withdrawn c.args.n (held g c))
becomes g c clean =
    let old = state g.S.Store c.args.self.now.connection in
    let first = clean_before old (state g.S.Store c.change_tables.new.conn) c.change_tables.ensures.crash clean in
    let number = c.requires.number first in
    mark_next {old = old} c.args.n number.0 number.1 (c.requires.not_withdrawn first)

-- the store that held the list holds it with the mark
more : (g : Over) (c : After-mark g) → HasCleanDisk (state g.S.Store c.change_tables.new.conn)
    → HoldsNext (state g.S.Store c.change_tables.new.conn) c.args.self.now.dictionary (length (with_withdrawn c.args.n (held g c))) (with_withdrawn c.args.n (held g c))
more g c clean =
    let keep = c.args.self.now in
    let old = state g.S.Store keep.connection in
    let new = state g.S.Store c.change_tables.new.conn in
    let first = clean_before old new c.change_tables.ensures.crash clean in
    let put = c.in-Ok.ensures.made clean in
    next_at {old = old} {new = new} (AddsMark c.args.n) (with_withdrawn c.args.n (held g c)) (keep.kept c.requires.working first) (becomes g c clean) put.change put.sound (c.in-Ok.ensures.settled clean) (c.in-Ok.ensures.open clean refl)

pub invariant_of-self-clause-kept : goal.invariant_of-self-clause-kept
invariant_of-self-clause-kept g c works clean =
    let keep = c.args.self.now in
    let old = state g.S.Store keep.connection in
    let first = clean_before old (state g.S.Store c.change_tables.new.conn) c.change_tables.ensures.crash clean in
    let long = length_marked c.args.n (held g c) ∙ sym (counted_at {s = old} (keep.kept c.requires.working first)) ∙ sym c.mark.ensures.same in
    subst (λ n. ∥ KeepsRegister (state g.S.Store c.change_tables.new.conn) keep.dictionary n ∥₁) long (more g c clean).kept

pub invariant_of-self-clause-agrees : goal.invariant_of-self-clause-agrees
invariant_of-self-clause-agrees g c works clean =
    let keep = c.args.self.now in
    let old = state g.S.Store keep.connection in
    let first = clean_before old (state g.S.Store c.change_tables.new.conn) c.change_tables.ensures.crash clean in
    subst (λ (all : List Deposit). Agrees c.mark.new.self keep.dictionary all) (sym (more g c clean).list) (c.mark.ensures.agrees keep.dictionary (held g c) (keep.agrees c.requires.working first))

pub returns-in-Ok-clause-leaves : goal.returns-in-Ok-clause-leaves
returns-in-Ok-clause-leaves g c =
    let keep = c.args.self.now in
    let old = state g.S.Store keep.connection in
    let new = state g.S.Store c.change_tables.new.conn in
    let next = with_withdrawn c.args.n (held g c.before) in
    let before = λ (clean : HasCleanDisk new). clean_before old new c.change_tables.ensures.crash clean in
    record {
      sound = before;
      same_dictionary = refl;
      same_limit = refl;
      failing = c.requires.working;
      added = λ clean. (more g c.before clean).list;
      refused = λ clean well. tt;
      same_text = λ clean well. text_committed old new (keep.kept c.requires.working (before clean)) (c.in-Ok.ensures.settled clean) (mark_meta _ (c.in-Ok.ensures.made clean).change);
      crash = λ clean. crash_at {old = old} {new = new} (AddsMark c.args.n) next (keep.kept c.requires.working (before clean)) (becomes g c.before clean) mark_meta c.change_tables.ensures.crash clean;
      whole = λ clean. whole_next {old = old} {new = new} (AddsMark c.args.n) next (keep.kept c.requires.working (before clean)) (becomes g c.before clean) c.change_tables.ensures.crash clean;
    }

pub returns-in-Err-clause-leaves : goal.returns-in-Err-clause-leaves
returns-in-Err-clause-leaves g c =
    let keep = c.args.self.now in
    let old = state g.S.Store keep.connection in
    let new = state g.S.Store c.change_tables.new.conn in
    let next = with_withdrawn c.args.n (deposits_in old.committed.trees) in
    let before = λ (clean : HasCleanDisk new). clean_before old new c.change_tables.ensures.crash clean in
    let becomes = λ (clean : HasCleanDisk new). mark_next {old = old} {dictionary = keep.dictionary} {count = length keep.memory.known.items} c.args.n (c.requires.number (before clean)).0 (c.requires.number (before clean)).1 (c.requires.not_withdrawn (before clean)) in
    let same = error_fails c.in-Err.error in
    adds_as _ _ _ (Err (keep_error c.in-Err.error)) c.answer.result c.answer.ensures.answer (record {
      sound = before;
      same_dictionary = refl;
      same_limit = refl;
      failing = c.answer.ensures.failing ∙ sym same;
      added = λ clean. tt;
      refused = λ clean well. ap (λ (db : Database). deposits_in db.trees) (c.in-Err.ensures.undone clean (sym same ∙ well)).1;
      same_text = λ clean well. ap (λ (db : Database). text_in db.trees) (c.in-Err.ensures.undone clean (sym same ∙ well)).1;
      crash = λ clean. crash_at {old = old} {new = new} (AddsMark c.args.n) next (keep.kept c.requires.working (before clean)) (becomes clean) mark_meta c.change_tables.ensures.crash clean;
      whole = λ clean. whole_next {old = old} {new = new} (AddsMark c.args.n) next (keep.kept c.requires.working (before clean)) (becomes clean) c.change_tables.ensures.crash clean;
    })
