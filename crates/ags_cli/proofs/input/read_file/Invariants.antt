use Rattle.std.proofs.Common.{◌≡◌, ◌+◌, ◌-◌, ◌≤◌, length, vec_len}
use Rattle.std.specs.Io.KnownBytes.{Consumes}
use Rattle.ags_rows.specs.declared.TheConstants.{LIMIT}
use Rattle.ags_cli.specs.declared.input.TheConstants.{PIECE}
use Rattle.ags_cli.proofs.input.read_file.Given as goal

-- what was read are the first bytes, and no more than the one after LIMIT
abbrev pub invariant-loop-bytes : goal.invariant-loop-bytes
invariant-loop-bytes g l = record {
  within : length l.bytes.items ≤ LIMIT + 1;
  wide : vec_len l.piece ≡ PIECE;
  noted : l.input.failed ≡ l.initial.input.failed;
  taken : Consumes (g.R.Read.remaining l.initial.input.inner) (g.R.Read.remaining l.input.inner) l.bytes.items;
}

abbrev pub decreases-loop-bytes : goal.decreases-loop-bytes
decreases-loop-bytes g l = LIMIT + 1 - length l.bytes.items
