use Rattle.std.proofs.Common.{rules, arith, ◌≡◌, ◌<◌, [], true, length, get_or}
use Rattle.reg_tables.specs.Rows.{placed_rows}
use Rattle.reg_tables.proofs.CompareLemmas.{compares_next, compares_other}
use Rattle.reg_tables.proofs.RowsLemmas.{not_true, places_long}
use Rattle.reg_tables.proofs.open.compare.SameLinesGather.take.Goals as goal

pub returns-then-is_line_at : goal.returns-then-is_line_at
returns-then-is_line_at c first rows was =
    let it = c.args.self.now in
    let its = c.if-is_line_at.ensures.0 (search rules) in
    let held : it.is ≡ true = search rules in
    (was.0, compares_next (placed_rows 0 it.lines.now) rows c.args.row.now it.at it.is (omega (arith, its.0, places_long 0 it.lines.now)) its.1 held was.1)

pub returns-else-is_line_at : goal.returns-else-is_line_at
returns-else-is_line_at c first rows was =
    let it = c.args.self.now in
    let held : it.is ≡ true = search rules in
    let mine = placed_rows 0 it.lines.now in
    let other : it.at < length mine → get_or mine it.at [] ≡ c.args.row.now → ⊥ = λ low here.
    absurd (not_true (c.if-is_line_at.ensures.1 (omega (arith, low, places_long 0 it.lines.now), here))) in
    (was.0, compares_other mine rows c.args.row.now it.at it.is other held was.1)
