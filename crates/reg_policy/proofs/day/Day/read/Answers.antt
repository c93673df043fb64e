use Rattle.std.proofs.Common.{◌≡◌, true}
use Rattle.reg_policy.specs.Days.{Writes, day_of, is_day_number}
use Rattle.reg_policy.proofs.Days.{day_of-Writes, same_option}
use Rattle.reg_policy.proofs.day.Day.read.Goals as goal

pub returns-clause-value : goal.returns-clause-value
returns-clause-value c =
    let text = c.args.text.now in
    rw (← c.as_bytes.ensures.value) (same_option (λ n. Writes c.as_bytes.result.now n × (is_day_number n ≡ true)) c.day_in.result (day_of c.as_bytes.result.now) c.day_in.ensures (day_of-Writes c.as_bytes.result.now))
