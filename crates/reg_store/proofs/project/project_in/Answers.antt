use Rattle.std.proofs.Common.{arith, refl}
use Rattle.reg_store.proofs.project.project_in.Goals as goal

pub loop-row-init : goal.loop-row-init
loop-row-init c = record { found = refl; few = omega arith }
