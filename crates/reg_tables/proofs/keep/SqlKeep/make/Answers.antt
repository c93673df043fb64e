use Rattle.std.proofs.Common.{List, length, refl, subst, sym, ap}
use Rattle.sqlite.specs.Held.{state}
use Rattle.reg_store.specs.Deposit.{Deposit}
use Rattle.reg_tables.specs.Private.Memory.{Agrees}
use Rattle.reg_tables.specs.Register.{KeepsRegister}
use Rattle.reg_tables.proofs.CreateLemmas.{new_list, new_keeps}
use Rattle.reg_tables.proofs.keep.SqlKeep.make.Goals as goal

pub fill-requires : goal.fill-requires
fill-requires g c = record { short = c.requires.short; reads = (c.args.dictionary, c.requires.read) }

pub invariant_of-result : goal.invariant_of-result
invariant_of-result g c =
    let new = state g.S.Store c.fill.new.conn in
    let made = c.in-Ok.ensures in
    record {
      idle = made.mode;
      kept = λ _ clean. subst (λ n. ∥ KeepsRegister new c.args.dictionary n ∥₁) (sym (ap length c.new.ensures.none))
          (new_keeps c.args.bytes.now c.args.dictionary new (made.put clean) (made.open clean) (made.settled clean) c.requires.read);
      agrees = λ _ clean. subst (λ (list : List Deposit). Agrees c.new.result c.args.dictionary list) (sym (new_list c.args.bytes.now new (made.put clean) (made.settled clean))) (c.new.ensures.agrees c.args.dictionary);
    }

pub returns-in-Ok : goal.returns-in-Ok
returns-in-Ok g c =
    let new = state g.S.Store c.fill.new.conn in
    let made = c.in-Ok.ensures in
    record {
      empty = λ clean. new_list c.args.bytes.now new (made.put clean) (made.settled clean);
      dictionary = refl;
      register = made.put;
      blank = made.blank;
      refused = tt;
      working = refl;
      not_empty = tt;
      vacant = tt;
      made = made.made;
      left = tt;
      same = tt;
      still = tt;
    }

pub returns-in-Err : goal.returns-in-Err
returns-in-Err g c =
    let fault = c.in-Err.ensures in
    record {
      empty = tt;
      dictionary = tt;
      register = tt;
      blank = tt;
      refused = fault.refused;
      working = tt;
      not_empty = fault.not_empty;
      vacant = fault.vacant;
      made = tt;
      left = fault.left;
      same = fault.same;
      still = fault.still;
    }
