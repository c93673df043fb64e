use Rattle.std.proofs.lemmas.Bool.Decides.{same_from_decides}
use Rattle.reg_policy.specs.Decision.{matches}
use Rattle.reg_policy.proofs.Chosen.{matches-Decides}
use Rattle.reg_policy.proofs.rule.Rule.matches.Goals as goal

pub returns-clause-test : goal.returns-clause-test
returns-clause-test c = same_from_decides _ (matches c.args.self.now c.args.subject.now) c.meets.ensures (matches-Decides c.args.self.now c.args.subject.now)
