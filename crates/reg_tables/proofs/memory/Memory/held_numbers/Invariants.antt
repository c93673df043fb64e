use Rattle.std.proofs.Common.{◌≡◌, ◌+◌, ◌++◌, map, drop}
use Rattle.reg_tables.proofs.Known.{bare_of}
use Rattle.reg_store.specs.Sent.{numbers_from}
use Rattle.reg_tables.proofs.memory.Memory.held_numbers.Given as goal

-- the numbers so far, and those of what is left of the list
abbrev pub invariant-loop-one : goal.invariant-loop-one
invariant-loop-one l = record {
  at : l.number ≡ l.one-index;
  rest : l.numbers.items ++ numbers_from (l.number + 1) l.project (map bare_of (drop l.one-index l.self.known.items)) ≡ numbers_from 1 l.project (map bare_of l.self.known.items);
}
