use Rattle.std.proofs.Common.{length}
use Rattle.reg_policy.proofs.RowEntries.{NoEntryBelow}
use Rattle.reg_policy.proofs.rule.has_entry.Given as goal

abbrev pub invariant-loop-heading : goal.invariant-loop-heading
invariant-loop-heading l = NoEntryBelow l.entry l.headings l.cells (length l.yielded)
