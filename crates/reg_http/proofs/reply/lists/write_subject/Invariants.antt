use Rattle.std.proofs.Common.{◌≡◌, ◌++◌, take}
use Rattle.json.specs.Print.{escape}
use Rattle.reg_http.specs.Bodies.{printed}
use Rattle.reg_http.proofs.reply.lists.write_subject.Given as goal

abbrev pub invariant-loop-byte : goal.invariant-loop-byte
invariant-loop-byte l = l.out.items ≡ l.initial.out.items ++ escape (printed (take l.byte-index l.subject))
