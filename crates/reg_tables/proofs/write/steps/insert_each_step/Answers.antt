use Rattle.std.proofs.Common.{rules, arith, ◌∙◌}
use Rattle.sqlite.specs.Held.{state}
use Rattle.sqlite.proofs.StateLemmas.{survives_then}
use Rattle.reg_tables.proofs.AddsLemmas.{kept_then, steps_more}
use Rattle.reg_tables.proofs.write.steps.insert_each_step.Goals as goal

pub loop-step-preserved : goal.loop-step-preserved
loop-step-preserved g c =
    let first = state g.S.Store c.args.tx.now.conn.now in
    let was = state g.S.Store c.loop-step.tx.conn.now in
    let now = state g.S.Store c.insert_step.new.tx.conn.now in
    let kept = c.loop-step.invariant in (
      c.insert_step.ensures.same_reference ∙ kept.0,
      survives_then first was now _ _ (λ _. ⊥) (λ _ db none. none) (λ _ db none. none) kept.1 c.insert_step.ensures.survives,
      λ clean. kept_then first was now (kept.2 (omega (arith, c.insert_step.ensures.survives.clean))) (c.insert_step.ensures.kept clean),
      λ clean. steps_more c.args.number c.loop-step.step-index c.args.steps.now _ first was now (search rules) (search rules)
          (kept.3 (omega (arith, c.insert_step.ensures.survives.clean))) (c.in_ok-insert_step.ensures.put clean),
    )

pub insert_step-requires-clause-inside : goal.insert_step-requires-clause-inside
insert_step-requires-clause-inside g c clean = (c.loop-step.invariant.3 clean).goes_on

pub returns-in_err-insert_step-clause-same_reference : goal.returns-in_err-insert_step-clause-same_reference
returns-in_err-insert_step-clause-same_reference g c = c.insert_step.ensures.same_reference ∙ c.loop-step.invariant.0

pub returns-in_err-insert_step-clause-kept : goal.returns-in_err-insert_step-clause-kept
returns-in_err-insert_step-clause-kept g c clean =
    kept_then (state g.S.Store c.args.tx.now.conn.now) (state g.S.Store c.loop-step.tx.conn.now) (state g.S.Store c.insert_step.new.tx.conn.now) (c.loop-step.invariant.2 (omega (arith, c.insert_step.ensures.survives.clean))) (c.insert_step.ensures.kept clean)

pub returns-in_err-insert_step-clause-survives : goal.returns-in_err-insert_step-clause-survives
returns-in_err-insert_step-clause-survives g c =
    survives_then (state g.S.Store c.args.tx.now.conn.now) (state g.S.Store c.loop-step.tx.conn.now) (state g.S.Store c.insert_step.new.tx.conn.now) _ _ (λ _. ⊥) (λ _ db none. none) (λ _ db none. none) c.loop-step.invariant.1 c.insert_step.ensures.survives

pub returns-clause-kept : goal.returns-clause-kept
returns-clause-kept g c = c.loop-step.invariant.2

pub returns-clause-survives : goal.returns-clause-survives
returns-clause-survives g c = c.loop-step.invariant.1
