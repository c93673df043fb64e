use Rattle.std.proofs.Common.{rules}
use Rattle.reg_store.specs.Project.{project_group}
use Rattle.reg_store.proofs.project.is_project_group.Goals as goal

pub returns : goal.returns
unfolding project_group
returns c = search rules
