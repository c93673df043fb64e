-- Lemmas on the definitions of specs/Quiet.antt.
use Rattle.std.specs.Prelude.{◌≡◌, Bool, false, IsTrue}
use Rattle.std.proofs.Common.{sym, subst, ◌∙◌, refl, arith, inl, inr}
use Rattle.sqlite.specs.Tree.{Trees}
use Rattle.sqlite.specs.Effect.{Database}
use Rattle.sqlite.specs.State.{State, HasCleanDisk, Survives}
use Rattle.sqlite.proofs.StateLemmas.{survives_then}
use Rattle.reg_tables.specs.Tables.{HasTables}
use Rattle.reg_tables.specs.Quiet.{IsIdle, IsStill, ShowsTheSame}

-- a store that is sound after a call was sound before it
pub clean_before : {P : Trees → Type 0} (old new : State) → Survives old new P → HasCleanDisk new → HasCleanDisk old
clean_before old new survives clean = omega (arith, survives.clean)

-- what is read of what the store held before a call
pub read_before : (old new : State) {failed : Bool} {Held Is Read : Type 0} → IsStill old new failed → (HasCleanDisk old → Held) → (HasCleanDisk old → Is) → (Is → Held → Read) → HasCleanDisk new → Read
read_before old new quiet held is read clean =
    let first = clean_before old new quiet.survives clean in
    read (is first) (held first)

-- the tables that a call read
pub tables_before : {old new : State} {failed : Bool} → IsIdle old → IsStill old new failed → HasCleanDisk new → HasTables old.now.schema
tables_before {old} {new} idle quiet clean = idle.schema (clean_before old new quiet.survives clean)

-- what is read of the rows changes nothing more
pub quiet_read : (old new : State) (failed : Bool) → IsStill old new false → IsStill old new failed
quiet_read old new failed quiet = record {
  idle = quiet.idle;
  is_open = λ clean _. quiet.is_open clean refl;
  same = λ clean _. quiet.same clean refl;
  still = quiet.still;
  survives = quiet.survives;
}

-- no call, no crash
pub survives_same : {P : Trees → Type 0} (s : State) → Survives s s P
survives_same s = record { clean = omega arith; shield = λ is. is; counts = omega arith; limit = refl; closes = λ clean o. inl o; crash = λ clean db may. inl may }

pub same_itself : (s : State) → ShowsTheSame s s
same_itself s = (refl, refl, inl refl)

-- two calls show the same if each does, where no transaction ran
pub same_then : (a b c : State) → a.in_transaction ≡ false → ShowsTheSame a b → ShowsTheSame b c → ShowsTheSame a c
same_then a b c idle one two = (two.0 ∙ one.0, two.1 ∙ one.1, elim two.2 [ inl is ↦ elim one.2 [ inl was ↦ inl (is ∙ was) | inr none ↦ inr (idle, is ∙ none.1) ] | inr none ↦ inr (idle, none.1) ])

-- no call, no change
pub quiet_none : (s : State) (failed : Bool) → s.in_transaction ≡ false → IsStill s s failed
quiet_none s failed idle = record {
  idle = idle;
  is_open = λ clean _. refl;
  same = λ clean _. same_itself s;
  still = λ clean o. (o, same_itself s);
  survives = survives_same s;
}

pub quiet_then : (a b c : State) (failed : Bool) → a.in_transaction ≡ false → IsStill a b false → IsStill b c failed → IsStill a c failed
quiet_then a b c failed idle one two = record {
  idle = two.idle;
  is_open = λ clean well. two.is_open clean well ∙ one.is_open (clean_before b c two.survives clean) refl;
  same = λ clean well. same_then a b c idle (one.same (clean_before b c two.survives clean) refl) (two.same clean well);
  still = λ clean o.
      (let next = two.still clean o in let first = one.still (clean_before b c two.survives clean) next.0 in
      (first.0, same_then a b c idle first.1 next.1));
  survives = survives_then a b c _ _ (λ _. ⊥) (λ _ db none. none) (λ _ db none. none) one.survives two.survives;
}

pub idle_then : (a b : State) → IsIdle a → IsStill a b false → IsIdle b
idle_then a b idle quiet = record {
  idle = quiet.idle;
  schema = λ clean. subst (λ (db : Database). HasTables db.schema) (sym (quiet.same clean refl).0)
      (idle.schema (clean_before a b quiet.survives clean));
  settled = λ clean is_open.
      (let same = quiet.same clean refl in same.1 ∙ idle.settled (clean_before a b quiet.survives clean)
      (subst IsTrue (quiet.is_open clean refl) is_open) ∙ sym same.0);
}
