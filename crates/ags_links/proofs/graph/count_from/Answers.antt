use Rattle.std.proofs.Common.{◌<◌, ◌^◌, length, subst, sym}
use Rattle.ags_links.specs.Stepped.{stepped_rows}
use Rattle.ags_links.proofs.Stepping.{few_steps}
use Rattle.ags_links.proofs.graph.count_from.Goals as goal

pub returns-clause-few : goal.returns-clause-few
returns-clause-few c =
    subst (λ rows. length rows < 2 ^ 32) (sym c.rows.ensures) (few_steps c.args.index.now c.args.row (stepped_rows c.in_ok-targets.targets) c.requires.rows c.in_ok-targets.ensures)
