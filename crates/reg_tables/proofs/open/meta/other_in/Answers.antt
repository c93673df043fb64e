use Rattle.std.proofs.Common.{refl}
use Rattle.reg_tables.proofs.open.meta.other_in.Goals as goal

pub returns-in-None-clause-none : goal.returns-in-None-clause-none
returns-in-None-clause-none c _ n format = absurd (c.in-None.ensures.none refl n format)
