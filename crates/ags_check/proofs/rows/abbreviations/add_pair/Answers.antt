use Rattle.ags_check.proofs.PairSets.{pair_added}
use Rattle.ags_check.proofs.rows.abbreviations.add_pair.Goals as goal

pub returns : goal.returns
returns c = pair_added c.args.heading c.args.text c.args.held.now c.insert.new.self c.in_ok-insert.ensures.updates
