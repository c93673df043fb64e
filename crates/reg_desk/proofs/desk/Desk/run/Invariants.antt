use Rattle.std.proofs.Common.{◌≡◌, ◌≤◌, length, map, take, vec_len}
use Rattle.std.specs.Vec.{vec_capacity}
use Rattle.reg_desk.specs.Asked.{asked}
use Rattle.reg_desk.specs.Desks.{AreAnsweredBy}
use Rattle.reg_desk.proofs.desk.Desk.run.Given as goal

abbrev pub invariant-loop-request : goal.invariant-loop-request
invariant-loop-request g l = record {
  count : vec_len l.answers ≡ l.request-index;
  room : length l.requests ≤ vec_capacity l.answers;
  answered : AreAnsweredBy g.K.Keep l.fn.self (map asked (take l.request-index l.requests)) l.answers.items l.self;
}
