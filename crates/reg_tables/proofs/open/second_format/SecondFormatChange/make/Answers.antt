use Rattle.std.proofs.Common.{rules, arith, ◌≡◌, IsTrue, sym, ◌∙◌}
use Rattle.sqlite.specs.State.{HasCleanDisk}
use Rattle.sqlite.specs.Held.{state}
use Rattle.reg_tables.proofs.MigrateLemmas.{raised_inside}
use Rattle.reg_tables.proofs.open.second_format.SecondFormatChange.make.Goals as goal

pub returns-then-is_raised-clause-made : goal.returns-then-is_raised-clause-made
returns-then-is_raised-clause-made g c clean =
    let seen = state g.S.Store c.read_meta_inside.new.tx.conn.now in
    let changed = state g.S.Store c.add_marks.new.tx.conn.now in
    let late : HasCleanDisk changed = omega (arith, c.read_meta_inside-2.ensures.survives.clean) in
    let early : HasCleanDisk seen = omega (arith, c.add_marks.ensures.survives.clean) in
    let before : c.deref.result.now ≡ c.in_ok-before.before.items = search rules in
    let after : c.deref-2.result.now ≡ c.in_ok-after.after.items = search rules in
    let yes : IsTrue c.is_raised.result = search rules in
    let is = c.is_raised.ensures yes in
    raised_inside (state g.S.Store c.args.tx.now.conn.now) seen changed (state g.S.Store c.read_meta_inside-2.new.tx.conn.now) is.0 c.in_ok-before.before.items c.in_ok-after.after.items
    (c.in_ok-before.ensures.same early) (c.in_ok-add_marks.ensures.changed late) (c.in_ok-after.ensures.same clean)
    (c.in_ok-before.ensures.shown early) (c.in_ok-after.ensures.shown clean) (sym before ∙ is.1) (sym after ∙ is.2)
