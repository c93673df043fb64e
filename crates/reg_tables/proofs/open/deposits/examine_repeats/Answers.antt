use Rattle.std.proofs.Common.{rules, ◌≡◌, Ok, ap}
use Rattle.sqlite.specs.Held.{state}
use Rattle.reg_store.specs.Keep.{sent_of}
use Rattle.reg_tables.proofs.ExamineLemmas.{repeat_tests}
use Rattle.reg_tables.proofs.open.deposits.examine_repeats.Goals as goal

pub returns-clause-tested : goal.returns-clause-tested
returns-clause-tested g c clean =
    let d = sent_of c.args.kept.now in
    let same : c.as_slice.result.now ≡ d.bytes = search rules in
    let found = c.in_ok-repeat.ensures in
    repeat_tests (state g.S.Store c.args.conn.now).now c.args.numbers.now d c.as_slice.result.now c.in_ok-repeat.repeat c.is_none.result same c.is_none.ensures (found.equal clean) found.among (λ e. found.none clean (ap Ok e))
