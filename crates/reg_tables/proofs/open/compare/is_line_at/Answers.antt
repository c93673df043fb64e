use Rattle.std.proofs.Common.{rules, ◌≡◌, ◌<◌, ◌∙◌, length, get_or, sym}
use Rattle.reg_tables.proofs.RowsLemmas.{place_first}
use Rattle.reg_tables.proofs.open.compare.is_line_at.Goals as goal

pub returns-in-Some : goal.returns-in-Some
returns-in-Some c =
    let lines = c.args.lines.now in
    let line = c.in-Some.line.now in
    let at = c.args.at in
    let low : at < length lines = search rules in
    let there : get_or lines at line ≡ line = search rules in
    let here = place_first lines at line low there in
    (λ h. (low, here ∙ sym (c.is_line.ensures.0 h)), λ both. c.is_line.ensures.1 (sym both.1 ∙ here))
