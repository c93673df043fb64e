use Rattle.std.proofs.Common.{◌≡◌, ◌<◌, ◌^◌, take}
use Rattle.reg_policy.specs.Days.{number_in}
use Rattle.reg_request.proofs.number.number_from_digits.Given as goal

abbrev pub invariant-loop-b : goal.invariant-loop-b
invariant-loop-b l = record {
  value : l.number ≡ number_in (take l.b-index l.text);
  small : l.number < 10 ^ l.b-index;
}
