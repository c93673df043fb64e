use Rattle.std.proofs.Common.{◌≡◌, ◌<◌, ℕ, ℤ, pos, get_or}
use Rattle.sqlite.specs.Order.{Row}
use Rattle.reg_tables.specs.Formats.{IsFormatRow}
use Rattle.reg_tables.proofs.open.meta.other_format.Given as goal

abbrev pub invariant-loop-row : goal.invariant-loop-row
invariant-loop-row l = (n : ℤ) (r : Row) (k : ℕ) → k < l.row-index → get_or l.rows k r ≡ r → IsFormatRow n r → n ≡ pos l.format
