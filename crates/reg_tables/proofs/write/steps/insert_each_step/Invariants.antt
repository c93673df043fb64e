use Rattle.std.proofs.Common.{◌≡◌, take}
use Rattle.sqlite.specs.State.{HasCleanDisk, KeepsCommit, Survives}
use Rattle.sqlite.specs.Held.{state}
use Rattle.reg_tables.specs.Rows.{step_rows}
use Rattle.reg_tables.specs.Private.Inserts.{AddsSteps}
use Rattle.reg_tables.specs.Private.Inside.{Inside}
use Rattle.reg_tables.proofs.write.steps.insert_each_step.Given as goal

abbrev pub invariant-loop-step : goal.invariant-loop-step
invariant-loop-step g l =
    let old = state g.S.Store l.fn.tx.conn.now in
    let now = state g.S.Store l.tx.conn.now in
    (l.tx.conn.ghost_name ≡ l.initial.tx.conn.ghost_name) × Survives old now (λ _. ⊥) × (HasCleanDisk now → KeepsCommit old now) × (HasCleanDisk now → Inside (AddsSteps (step_rows l.number (take l.step-index l.steps))) old now)
