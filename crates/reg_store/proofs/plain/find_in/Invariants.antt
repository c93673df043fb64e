use Rattle.std.proofs.Common.{◌≡◌, ◌+◌, map, drop}
use Rattle.std.specs.List.{position_from}
use Rattle.reg_store.specs.Keep.{deposit_of}
use Rattle.reg_store.specs.Sent.{is_repeat, number_of}
use Rattle.reg_store.specs.Deposit.{sents}
use Rattle.reg_store.proofs.plain.find_in.Given as goal

-- what is left of the list is searched from the next number on
abbrev pub invariant-loop-one : goal.invariant-loop-one
invariant-loop-one l = record {
  at : l.number ≡ l.one-index;
  rest : position_from (is_repeat l.firm l.project l.bytes) (l.number + 1) (sents (map deposit_of (drop l.one-index l.kept))) ≡ number_of l.firm l.project l.bytes (sents (map deposit_of l.kept));
}
