use Rattle.std.proofs.Common.{◌≡◌, ◌++◌, drop}
use Rattle.reg_tables.proofs.memory.copied_rows.Given as goal

abbrev pub invariant-loop-row : goal.invariant-loop-row
invariant-loop-row l = l.copied.items ++ drop l.row-index l.rows ≡ l.rows
