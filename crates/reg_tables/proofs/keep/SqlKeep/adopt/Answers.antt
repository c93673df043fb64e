use Rattle.std.proofs.Common.{◌≡◌, Err, IsTrue, length, refl, sym, ap, subst, ◌∙◌}
use Rattle.sqlite.specs.Effect.{Database}
use Rattle.sqlite.specs.State.{HasCleanDisk}
use Rattle.sqlite.specs.Held.{state}
use Rattle.reg_tables.specs.declared.schema.format.Format.TheVariants.{Second}
use Rattle.reg_tables.specs.Adoption.{Adopts}
use Rattle.reg_tables.proofs.KeepLemmas.{adopted_keeps, adopted_list}
use Rattle.reg_tables.specs.Private.Memory.{Agrees}
use Rattle.reg_tables.proofs.QuietLaws.{clean_before}
use Rattle.reg_tables.specs.Register.{IsRegister, deposits_in, text_in}
use Rattle.reg_tables.proofs.keep.SqlKeep.adopt.Goals as goal

pub invariant_of-result : goal.invariant_of-result
invariant_of-result g c =
    let mid = state g.S.Store c.examine_tables.new.conn in
    let new = state g.S.Store c.recall.new.conn in
    let made = c.in-Ok-recall.ensures in
    let settled = λ (clean : HasCleanDisk new).
    (let is : mid.committed ≡ mid.now = c.in-Ok.ensures.idle.settled (clean_before mid new made.quiet.survives clean) (subst IsTrue (made.quiet.is_open clean refl) (made.open clean refl)) in is) in
    record {
      idle = made.quiet.idle;
      kept = λ _ clean. (let same = made.quiet.same clean refl in
          adopted_keeps mid new c.in-Ok-recall.dictionary (length c.in-Ok-recall.memory.known.items) (made.open clean refl) same.0 (same.1 ∙ settled clean ∙ sym same.0) (made.found clean).register);
      agrees = λ _ clean. (let same = made.quiet.same clean refl in
          subst (λ (db : Database). Agrees c.in-Ok-recall.memory c.in-Ok-recall.dictionary (deposits_in db.trees)) (sym (same.1 ∙ settled clean)) (made.found clean).agrees);
    }

pub returns-in-Ok-recall-clause-adopted : goal.returns-in-Ok-recall-clause-adopted
returns-in-Ok-recall-clause-adopted g c clean =
    let mid = state g.S.Store c.examine_tables.new.conn in
    let new = state g.S.Store c.recall.new.conn in
    let made = c.in-Ok-recall.ensures in
    let same = made.quiet.same clean refl in
    let settled : mid.committed ≡ mid.now = c.in-Ok.ensures.idle.settled (clean_before mid new made.quiet.survives clean) (subst IsTrue (made.quiet.is_open clean refl) (made.open clean refl)) in
    subst (λ h. ∥ IsRegister (state g.S.Store h).now c.in-Ok-recall.dictionary (deposits_in new.committed.trees) ∥₁ × (text_in (state g.S.Store h).now.trees ≡ text_in new.committed.trees)) c.in-Ok.ensures.unchanged (
      adopted_list mid new c.in-Ok-recall.dictionary (length c.in-Ok-recall.memory.known.items) same.0 (same.1 ∙ settled ∙ sym same.0) (made.found clean).register,
      ap (λ (db : Database). text_in db.trees) (sym (same.1 ∙ settled)),
    )

pub returns-in-Err-recall-clause-refused : goal.returns-in-Err-recall-clause-refused
returns-in-Err-recall-clause-refused g c clean =
    subst (λ h. Adopts Second (state g.S.Store h).now (Err c.in-Err-recall.error)) c.in-Ok.ensures.unchanged (c.in-Err-recall.ensures.refused clean)
