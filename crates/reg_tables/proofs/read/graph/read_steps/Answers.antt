use Rattle.sqlite.specs.Held.{state}
use Rattle.reg_tables.proofs.QuietLaws.{tables_before}
use Rattle.reg_tables.proofs.MeaningLaws.{steps_read as steps_text}
use Rattle.reg_tables.proofs.ReadingLemmas.{steps_read, steps_held}
use Rattle.reg_tables.proofs.read.graph.read_steps.Goals as goal

pub take_shown-requires-clause-plain : goal.take_shown-requires-clause-plain
take_shown-requires-clause-plain g c schema has = (steps_text schema has).plain

pub returns-clause-found : goal.returns-clause-found
returns-clause-found g c clean =
    steps_read (state g.S.Store c.args.conn.now) (state g.S.Store c.take_shown.new.conn) c.args.number c.take_shown.new.into.steps.items (tables_before c.requires.idle c.take_shown.ensures.quiet clean) (rw (c.params-to_sql.ensures) at (c.in_ok-take_shown.ensures.shown clean))

pub returns-clause-held : goal.returns-clause-held
returns-clause-held g c clean =
    steps_held (state g.S.Store c.args.conn.now) (state g.S.Store c.take_shown.new.conn) c.args.number c.take_shown.new.into.steps.items (tables_before c.requires.idle c.take_shown.ensures.quiet clean) (rw (c.params-to_sql.ensures) at (c.in_ok-take_shown.ensures.shown clean))
