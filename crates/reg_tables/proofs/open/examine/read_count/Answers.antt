use Rattle.std.proofs.Common.{rules, ◌≡◌}
use Rattle.sqlite.specs.Held.{state}
use Rattle.reg_tables.proofs.ExamineLemmas.{counts_by}
use Rattle.reg_tables.proofs.open.examine.read_count.Goals as goal

pub returns-clause-counted : goal.returns-clause-counted
returns-clause-counted g c clean =
    let same : c.deref.result.now ≡ c.in_ok-rows.rows.items = search rules in
    counts_by (state g.S.Store c.args.conn.now).now c.in_ok-rows.rows.items c.count_numbers.result (c.in_ok-rows.ensures.all clean) (c.in_ok-rows.ensures.found clean) c.count_numbers.ensures.few (rw same at c.count_numbers.ensures.found) (rw same at c.count_numbers.ensures.none)
