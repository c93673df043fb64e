use Rattle.std.proofs.Common.{◌≡◌, take}
use Rattle.sqlite.specs.State.{HasCleanDisk, KeepsCommit, Survives}
use Rattle.sqlite.specs.Held.{state}
use Rattle.reg_tables.specs.Rows.{line_rows}
use Rattle.reg_tables.specs.Private.Inserts.{AddsLines}
use Rattle.reg_tables.specs.Private.Inside.{Inside}
use Rattle.reg_tables.proofs.write.lines.insert_each_line.Given as goal

abbrev pub invariant-loop-i : goal.invariant-loop-i
invariant-loop-i g l =
    let old = state g.S.Store l.fn.tx.conn.now in
    let now = state g.S.Store l.tx.conn.now in
    (l.tx.conn.ghost_name ≡ l.initial.tx.conn.ghost_name) × Survives old now (λ _. ⊥) × (HasCleanDisk now → KeepsCommit old now) × (HasCleanDisk now → Inside (AddsLines (line_rows l.number l.from (take l.i l.rows))) old now)
