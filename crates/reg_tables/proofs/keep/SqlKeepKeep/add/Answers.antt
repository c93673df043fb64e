use Rattle.std.proofs.Common.{Err, rules, arith, ℕ, List, ◌≡◌, ◌<◌, false, length, refl, sym, ap, subst, ◌+◌, ◌++◌, ◌∷◌, [], ◌∙◌}
use Rattle.std.proofs.lemmas.List.{length_push}
use Rattle.sqlite.specs.Effect.{Database}
use Rattle.sqlite.specs.State.{HasCleanDisk, Survives}
use Rattle.sqlite.specs.Held.{state}
use Rattle.reg_store.specs.Deposit.{Deposit, sents, new_deposit}
use Rattle.reg_store.specs.Sent.{Sent}
use Rattle.reg_tables.specs.Private.Errors.{is_of_database, keep_error}
use Rattle.reg_store.specs.Fit.{IsFileOf, kept_rows}
use Rattle.reg_tables.proofs.QuietLaws.{clean_before}
use Rattle.reg_tables.specs.Rows.{deposit_from}
use Rattle.reg_tables.specs.Private.Inserts.{AddsFile}
use Rattle.reg_tables.specs.Private.Heads.{IsKnownOf, KnowsFile}
use Rattle.reg_tables.proofs.ExamineLemmas.{known_of}
use Rattle.reg_tables.specs.Private.Memory.{Agrees, IsComing}
use Rattle.reg_tables.specs.Register.{KeepsRegister, deposits_in, text_in}
use Rattle.reg_tables.proofs.RegisterLemmas.{IsReady}
use Rattle.reg_tables.specs.Private.KeepLaws.{ChangesOf, PutsOf}
use Rattle.reg_tables.proofs.KeepLemmas.{HoldsNext, BecomesNext, counted_at, crash_at, idle_at, keeps_same, next_at, put_next}
use Rattle.reg_tables.proofs.KeepLemmas.{schema_at, settled_of, text_committed, whole_next}
use Rattle.reg_tables.proofs.AddsLemmas.{opened_at}
use Rattle.reg_tables.proofs.ReadsLemmas.{adds_as, error_fails}
use Rattle.reg_tables.proofs.keep.SqlKeepKeep.add.Given.{Over}
use Rattle.reg_tables.proofs.keep.SqlKeepKeep.add.Goals as goal

pub add_checked-added-requires : goal.add_checked-added-requires
add_checked-added-requires g c =
    let keep = c.args.self.now in
    record { rows = search rules; few = search rules; idle = idle_at (state g.S.Store keep.connection) keep.idle (keep.kept c.requires.working); schema = λ clean. schema_at (keep.kept c.requires.working clean); is_open = λ clean. opened_at (keep.kept c.requires.working clean) }

-- ---- where no memory is left, or the store refused

pub invariant_of-self-clause-kept : goal.invariant_of-self-clause-kept
invariant_of-self-clause-kept g c works clean = subst (λ n. ∥ KeepsRegister (state g.S.Store c.args.self.now.connection) c.args.self.now.dictionary n ∥₁) (sym c.make_room-room.ensures.same) (c.args.self.now.kept works clean)

pub invariant_of-self-clause-agrees : goal.invariant_of-self-clause-agrees
invariant_of-self-clause-agrees g c works clean = c.make_room-room.ensures.agrees _ _ (c.args.self.now.agrees works clean)

pub invariant_of-self-in-Err-clause-kept : goal.invariant_of-self-in-Err-clause-kept
invariant_of-self-in-Err-clause-kept g c works clean =
    let keep = c.args.self.now in
    let old = state g.S.Store keep.connection in
    let new = state g.S.Store c.add_checked-added.new.conn in
    let first = clean_before old new c.add_checked-added.ensures.crash clean in
    let bare : is_of_database c.in-Err.error ≡ false = sym c.answer.ensures.failing ∙ works in
    let was = keep.kept c.requires.working first in
    let undone = c.in-Err.ensures.undone clean bare in
    subst (λ n. ∥ KeepsRegister new keep.dictionary n ∥₁) (sym c.make_room-room.ensures.same) (keeps_same {old = old} {new = new} was (c.in-Err.ensures.open clean bare) (undone.0 ∙ settled_of was) undone.1)

pub invariant_of-self-in-Err-clause-agrees : goal.invariant_of-self-in-Err-clause-agrees
invariant_of-self-in-Err-clause-agrees g c works clean =
    let keep = c.args.self.now in
    let old = state g.S.Store keep.connection in
    let new = state g.S.Store c.add_checked-added.new.conn in
    let first = clean_before old new c.add_checked-added.ensures.crash clean in
    let bare : is_of_database c.in-Err.error ≡ false = sym c.answer.ensures.failing ∙ works in
    subst (λ (db : Database). Agrees c.make_room-room.new.self keep.dictionary (deposits_in db.trees)) (sym (c.in-Err.ensures.undone clean bare).1)
    (c.make_room-room.ensures.agrees keep.dictionary (deposits_in old.committed.trees) (keep.agrees c.requires.working first))

-- ---- where the file was added

abbrev added : (g : Over) → goal.After-push g → Sent
added g c = deposit_from c.args.firm.now c.args.project.now c.args.embargo c.args.checked.now.bytes

-- what was held, and the list with the deposit
abbrev held : (g : Over) → goal.After-push g → List Deposit
held g c = deposits_in (state g.S.Store c.args.self.now.connection).committed.trees

abbrev next : (g : Over) → goal.After-push g → List Deposit
next g c = held g c ++ new_deposit (added g c) ∷ []

-- the change of the tables
abbrev Change : (g : Over) → goal.After-push g → Database → Database → Type 0
Change g c = AddsFile (length c.args.self.now.memory.known.items + 1) (added g c) (kept_rows c.args.checked.now.groups) c.args.checked.now.graph.steps

becomes : (g : Over) (c : goal.After-push g) → HasCleanDisk (state g.S.Store c.add_checked-added.new.conn)
    → BecomesNext (state g.S.Store c.args.self.now.connection) c.args.self.now.dictionary (length c.args.self.now.memory.known.items) (Change g c) (next g c)
becomes g c clean =
    let first = clean_before (state g.S.Store c.args.self.now.connection) (state g.S.Store c.add_checked-added.new.conn) c.add_checked-added.ensures.crash clean in
    let low : length c.args.self.now.memory.known.items < 999999 = omega (arith, c.count-count.ensures) in
    let fit : IsFileOf c.args.self.now.dictionary (added g c) c.args.checked.now = record { given = c.requires.dictionary; bytes = refl; clean = c.bytes.ensures.clean; short = c.requires.short } in
    let ready : IsReady c.args.self.now.dictionary (sents (held g c)) (added g c) c.args.checked.now = record { its = fit; named = c.add_checked-added.ensures.fit; fresh = c.requires.fresh first } in
    put_next {old = state g.S.Store c.args.self.now.connection} (added g c) c.args.checked.now low ready

crash : (g : Over) (c : goal.After-push g) → Survives (state g.S.Store c.args.self.now.connection) (state g.S.Store c.add_checked-added.new.conn) (ChangesOf (Change g c) (state g.S.Store c.args.self.now.connection))
crash g c =
    let old = state g.S.Store c.args.self.now.connection in
    let new = state g.S.Store c.add_checked-added.new.conn in
    subst (λ n. Survives old new (PutsOf old (n + 1) (added g c) (kept_rows c.args.checked.now.groups) c.args.checked.now.graph.steps)) c.count-count.ensures c.add_checked-added.ensures.crash

-- the store that held the list holds it with the deposit
more : (g : Over) (c : goal.After-push g) → HasCleanDisk (state g.S.Store c.add_checked-added.new.conn)
    → HoldsNext (state g.S.Store c.add_checked-added.new.conn) c.args.self.now.dictionary (length (next g c)) (next g c)
more g c clean =
    let keep = c.args.self.now in
    let old = state g.S.Store keep.connection in
    let new = state g.S.Store c.add_checked-added.new.conn in
    let first = clean_before old new c.add_checked-added.ensures.crash clean in
    let put = subst (λ n. AddsFile (n + 1) (added g c) (kept_rows c.args.checked.now.groups) c.args.checked.now.graph.steps old.now new.now) c.count-count.ensures (c.in-Ok-added.ensures.put clean).change in
    next_at {old = old} {new = new} (Change g c) (next g c) (keep.kept c.requires.working first) (becomes g c clean) put (c.in-Ok-added.ensures.put clean).sound (c.in-Ok-added.ensures.settled clean) (c.in-Ok-added.ensures.open clean refl)

-- it counts one more
counts : (g : Over) (c : goal.After-push g) → HasCleanDisk (state g.S.Store c.add_checked-added.new.conn) → length (next g c) ≡ length c.args.self.now.memory.known.items + 1
counts g c clean =
    let old = state g.S.Store c.args.self.now.connection in
    let first = clean_before old (state g.S.Store c.add_checked-added.new.conn) c.add_checked-added.ensures.crash clean in
    length_push (held g c) (new_deposit (added g c)) ∙ ap (λ n. n + 1) (sym (counted_at {s = old} (c.args.self.now.kept c.requires.working first)))

pub invariant_of-self-in-Ok-added-clause-kept : goal.invariant_of-self-in-Ok-added-clause-kept
invariant_of-self-in-Ok-added-clause-kept g c works clean =
    let keep = c.args.self.now in
    let long = c.push.ensures.long ∙ ap (λ n. n + 1) c.make_room-room.ensures.same in
    subst (λ n. ∥ KeepsRegister (state g.S.Store c.add_checked-added.new.conn) keep.dictionary n ∥₁) (counts g c clean ∙ sym long) (more g c clean).kept

pub invariant_of-self-in-Ok-added-clause-agrees : goal.invariant_of-self-in-Ok-added-clause-agrees
invariant_of-self-in-Ok-added-clause-agrees g c works clean =
    let keep = c.args.self.now in
    let old = state g.S.Store keep.connection in
    let first = clean_before old (state g.S.Store c.add_checked-added.new.conn) c.add_checked-added.ensures.crash clean in
    let its : IsComing c.make_room-room.new.self (added g c) c.in-Ok.coming = subst (λ (bytes : List ℕ). IsComing c.make_room-room.new.self (deposit_from c.args.firm.now c.args.project.now c.args.embargo bytes) c.in-Ok.coming) c.bytes.ensures.bytes c.in-Ok.ensures.coming in
    let fit : IsFileOf keep.dictionary (added g c) c.args.checked.now = record { given = c.requires.dictionary; bytes = refl; clean = c.bytes.ensures.clean; short = c.requires.short } in
    let read : KnowsFile keep.dictionary (added g c) c.in-Ok.coming.known.file = known_of keep.dictionary (added g c) c.args.checked.now c.in-Ok.coming.known.file fit (subst (IsKnownOf c.args.checked.now) (sym c.in-Ok.ensures.file) c.in_ok-file.ensures) in
    subst (λ (all : List Deposit). Agrees c.push.new.self keep.dictionary all) (sym (more g c clean).list)
    (c.push.ensures.agrees keep.dictionary (held g c) (added g c) its read (c.make_room-room.ensures.agrees keep.dictionary (held g c) (keep.agrees c.requires.working first)))

pub returns-in-Ok-added : goal.returns-in-Ok-added
returns-in-Ok-added g c =
    let keep = c.args.self.now in
    let old = state g.S.Store keep.connection in
    let new = state g.S.Store c.add_checked-added.new.conn in
    let base = c.before.before in
    let low : length keep.memory.known.items < 999999 = omega (arith, c.count-count.ensures) in
    let before = λ (clean : HasCleanDisk new). clean_before old new c.add_checked-added.ensures.crash clean in
    record {
      number = λ clean. ap (λ n. n + 1) c.count-count.ensures ∙ sym (counts g base clean) ∙ sym (ap length (more g base clean).list);
      room = λ clean. subst (λ n. n < 999999) (counted_at {s = old} (keep.kept c.requires.working (before clean))) low;
      full = λ clean e. absurd cc;
      leaves = record {
        sound = before;
        same_dictionary = refl;
        same_limit = refl;
        failing = c.requires.working;
        added = λ clean. (more g base clean).list;
        refused = λ clean well. tt;
        same_text = λ clean well. text_committed old new (keep.kept c.requires.working (before clean)) (c.in-Ok-added.ensures.settled clean) (c.in-Ok-added.ensures.put clean).change.meta;
        crash = λ clean. crash_at {old = old} {new = new} (Change g base) (next g base) (keep.kept c.requires.working (before clean)) (becomes g base clean) (λ db put. put.meta) (crash g base) clean;
        whole = λ clean. whole_next {old = old} {new = new} (Change g base) (next g base) (keep.kept c.requires.working (before clean)) (becomes g base clean) (crash g base) clean;
      };
    }

pub returns-clause-leaves : goal.returns-clause-leaves
returns-clause-leaves g c =
    let keep = c.args.self.now in
    let old = state g.S.Store keep.connection in
    let new = state g.S.Store c.add_checked-added.new.conn in
    let file = c.args.checked.now in
    let count = length keep.memory.known.items in
    let d = deposit_from c.args.firm.now c.args.project.now c.args.embargo file.bytes in
    let list = deposits_in old.committed.trees in
    let low : count < 999999 = omega (arith, c.count-count.ensures) in
    let before = λ (clean : HasCleanDisk new). clean_before old new c.add_checked-added.ensures.crash clean in
    let fit : IsFileOf keep.dictionary d file = record { given = c.requires.dictionary; bytes = refl; clean = c.bytes.ensures.clean; short = c.requires.short } in
    let ready = λ (clean : HasCleanDisk new). (let is : IsReady keep.dictionary (sents list) d file = record { its = fit; named = c.add_checked-added.ensures.fit; fresh = c.requires.fresh (before clean) } in is) in
    let becomes = λ (clean : HasCleanDisk new). put_next {old = old} d file low (ready clean) in
    let Change = AddsFile (count + 1) d (kept_rows file.groups) file.graph.steps in
    let crash = subst (λ n. Survives old new (PutsOf old (n + 1) d (kept_rows file.groups) file.graph.steps)) c.count-count.ensures c.add_checked-added.ensures.crash in
    let same = error_fails c.in-Err.error in
    adds_as _ _ _ (Err (keep_error c.in-Err.error)) c.answer.result c.answer.ensures.answer (record {
      sound = before;
      same_dictionary = refl;
      same_limit = refl;
      failing = c.answer.ensures.failing ∙ sym same;
      added = λ clean. tt;
      refused = λ clean well. ap (λ (db : Database). deposits_in db.trees) (c.in-Err.ensures.undone clean (sym same ∙ well)).1;
      same_text = λ clean well. ap (λ (db : Database). text_in db.trees) (c.in-Err.ensures.undone clean (sym same ∙ well)).1;
      crash = λ clean. crash_at {old = old} {new = new} Change (list ++ new_deposit d ∷ []) (keep.kept c.requires.working (before clean)) (becomes clean) (λ db put. put.meta) crash clean;
      whole = λ clean. whole_next {old = old} {new = new} Change (list ++ new_deposit d ∷ []) (keep.kept c.requires.working (before clean)) (becomes clean) crash clean;
    })

pub returns-then-count-ge-MOST-clause-full : goal.returns-then-count-ge-MOST-clause-full
returns-then-count-ge-MOST-clause-full g c clean is =
    let keep = c.args.self.now in
    let most : length keep.memory.known.items ≡ 999999 = omega (arith, c.count-count.ensures, keep.memory.few) in
    sym (counted_at {s = state g.S.Store keep.connection} (keep.kept c.requires.working clean)) ∙ most
