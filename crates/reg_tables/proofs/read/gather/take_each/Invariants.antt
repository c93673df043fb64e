use Rattle.std.proofs.Common.{◌≡◌, List, false}
use Rattle.sqlite.specs.Order.{Row}
use Rattle.sqlite.specs.Values.{bound}
use Rattle.sqlite.specs.State.{HasCleanDisk, IsUnchanged, Survives}
use Rattle.sqlite.specs.Held.{state}
use Rattle.sqlite.specs.Given.{HasGiven}
use Rattle.reg_tables.proofs.read.gather.take_each.Given as goal

abbrev pub invariant-rows : goal.invariant-rows
invariant-rows g l =
    let old = state g.S.Store l.fn.conn in
    let now = state g.S.Store l.rows.conn.now in
    (l.rows.conn.ghost_name ≡ l.initial.rows.conn.ghost_name) × Survives old now (λ _. ⊥) × (now.in_transaction ≡ false)
    × (HasCleanDisk now → (given : List Row) × HasGiven g.S.Store l.sql (bound l.params) l.rows.conn.now given × IsUnchanged old now × g.G.Gather.holds l.fn.into l.into given)
