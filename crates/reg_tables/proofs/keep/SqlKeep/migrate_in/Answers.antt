use Rattle.std.proofs.Common.{length, refl, sym, subst}
use Rattle.sqlite.specs.Effect.{Database}
use Rattle.sqlite.specs.Held.{state}
use Rattle.reg_tables.proofs.KeepLemmas.{adopted_keeps}
use Rattle.reg_tables.specs.Private.Memory.{Agrees}
use Rattle.reg_tables.specs.Register.{deposits_in}
use Rattle.reg_tables.proofs.keep.SqlKeep.migrate_in.Goals as goal

pub invariant_of-result : goal.invariant_of-result
invariant_of-result g c =
    let new = state g.S.Store c.migrate_tables.new.conn in
    let made = c.in-Ok.ensures in
    record {
      idle = made.mode;
      kept = λ _ clean. adopted_keeps new new c.in-Ok.dictionary (length c.in-Ok.memory.known.items) (made.open clean) refl (made.settled clean) (made.found clean).register;
      agrees = λ _ clean. subst (λ (db : Database). Agrees c.in-Ok.memory c.in-Ok.dictionary (deposits_in db.trees)) (sym (made.settled clean)) (made.found clean).agrees;
    }
