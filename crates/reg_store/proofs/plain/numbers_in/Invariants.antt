use Rattle.std.proofs.Common.{◌≡◌, ◌+◌, ◌++◌, map, drop}
use Rattle.reg_store.specs.Keep.{deposit_of}
use Rattle.reg_store.specs.Sent.{numbers_from}
use Rattle.reg_store.specs.Deposit.{sents}
use Rattle.reg_store.proofs.plain.numbers_in.Given as goal

-- the numbers so far, and those of what is left of the list
abbrev pub invariant-loop-one : goal.invariant-loop-one
invariant-loop-one l = record {
  at : l.number ≡ l.one-index;
  rest : l.numbers.items ++ numbers_from (l.number + 1) l.project (sents (map deposit_of (drop l.one-index l.kept))) ≡ numbers_from 1 l.project (sents (map deposit_of l.kept));
}
