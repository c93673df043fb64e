use Rattle.std.proofs.Common.{rules, ◌≡◌, ◌++◌, ◌∷◌, []}
use Rattle.reg_tables.proofs.ReadersLemmas.{line_more}
use Rattle.reg_tables.proofs.read.rows.KeptLinesGather.take.Goals as goal

pub returns : goal.returns
returns c first rows before =
    let old = c.args.self.now.lines.items in
    let line = c.in_ok-line.line in
    let pushed : c.push.new.self.items ≡ old ++ line ∷ [] = search rules in
    line_more rows c.args.row.now _ old c.push.new.self.items line (search rules) before c.in_ok-line.ensures.read pushed
