use Rattle.std.proofs.Common.{refl}
use Rattle.reg_policy.proofs.Keys.{day_some}
use Rattle.reg_policy.proofs.rules.day_at.Goals as goal

pub returns-in-Some-read : goal.returns-in-Some-read
returns-in-Some-read c =
    let text = rw c.in-Some.is at c.in_ok-text.ensures in
    day_some _ c.in-Some.text c.in-Some-read.day text ((c.in-Some-read.ensures.written c.in-Some-read.day).0 refl)
