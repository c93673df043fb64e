use Rattle.reg_store.specs.Keep.{sent_of}
use Rattle.reg_tables.proofs.read.equal.compare_deposit.Goals as goal

pub returns-clause-equal : goal.returns-clause-equal
returns-clause-equal g c clean = (sent_of c.in_ok-kept.kept, c.in_ok-kept.ensures.found clean, c.is_equal.ensures)

pub returns-clause-quiet : goal.returns-clause-quiet
returns-clause-quiet g c = c.in_ok-kept.ensures.quiet
