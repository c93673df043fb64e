use Rattle.std.proofs.Common.{rules, ◌≡◌}
use Rattle.reg_tables.proofs.ReadingLemmas.{kept_from}
use Rattle.reg_tables.proofs.read.read_deposit.Goals as goal

pub returns-clause-found : goal.returns-clause-found
returns-clause-found g c clean =
    let same : c.deref.result.now ≡ c.in_ok-rows.rows.items = search rules in
    kept_from c.args.number c.in_ok-rows.rows.items _ c.deposit_in.result (c.in_ok-rows.ensures.found clean) (rw same at c.deposit_in.ensures.read)
