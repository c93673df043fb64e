use Rattle.ags_links.proofs.Growing.{map_more}
use Rattle.ags_links.proofs.graph.add_steps.Goals as goal

pub loop-target-preserved : goal.loop-target-preserved
loop-target-preserved c =
    map_more (λ target. (c.args.row, target)) c.args.steps.now.items c.loop-target.steps.items c.push.new.self.items c.args.targets.now c.loop-target.target-index 0 c.loop-target-test.true c.loop-target.invariant c.in_ok-push.ensures.items
