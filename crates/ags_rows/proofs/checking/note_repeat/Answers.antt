use Rattle.ags_rows.proofs.Repeats.{met_after}
use Rattle.ags_rows.proofs.checking.note_repeat.Goals as goal

pub returns-in_ok-note-clause-met : goal.returns-in_ok-note-clause-met
returns-in_ok-note-clause-met c = met_after c.args.name.now c.args.met.now c.insert.new.self c.in_ok-before.ensures.updates

pub returns-else-is_some-clause-met : goal.returns-else-is_some-clause-met
returns-else-is_some-clause-met c = met_after c.args.name.now c.args.met.now c.insert.new.self c.in_ok-before.ensures.updates
