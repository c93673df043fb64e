use Rattle.std.proofs.Common.{◌≡◌, true, false, ap, sym, ◌∙◌}
use Rattle.sqlite.specs.Held.{state}
use Rattle.reg_tables.proofs.QueryLemmas.{is_input, probed, refused_text}
use Rattle.reg_tables.proofs.read.queries.probe.Goals as goal
use Rattle.reg_tables.proofs.read.queries.probe.Goals.{in-Err-SqlInputError, in_default, in_default-2}

pub returns-clause-known : goal.returns-clause-known
returns-clause-known g c clean said = elim c.match-prepare.branch [
  | in-Err-SqlInputError w ↦ refused_text _ (state g.S.Store c.args.conn.now) (state g.S.Store c.prepare.new.self) w.in-Err-SqlInputError.field-0 (w.in-Err-SqlInputError.ensures.err clean) (ap is_input w.in-Err-SqlInputError.field-0-is)
  | in_default w ↦ absurd (let no : true ≡ false = sym said ∙ w.result-is in cc)
  | in_default-2 w ↦ absurd (let no : true ≡ false = sym said ∙ w.result-is in cc)
]

pub returns-clause-still : goal.returns-clause-still
returns-clause-still g c clean is_open = probed _ _ (state g.S.Store c.args.conn.now) (state g.S.Store c.prepare.new.self) c.prepare.result (c.prepare.ensures.ok clean) (c.prepare.ensures.err clean)
