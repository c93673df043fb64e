use Rattle.std.proofs.Common.{◌≡◌, take}
use Rattle.reg_tables.proofs.Known.{with_marks}
use Rattle.reg_tables.proofs.memory.Memory.of.Given as goal

-- the first deposits have their marks
abbrev pub invariant-loop-at : goal.invariant-loop-at
invariant-loop-at l = l.known.items ≡ with_marks (take l.at l.marks) l.fn.found.known.items
