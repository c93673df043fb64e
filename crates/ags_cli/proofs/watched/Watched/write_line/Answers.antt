use Rattle.std.proofs.Common.{rules}
use Rattle.ags_cli.proofs.Telling.{writes_both, writes_first}
use Rattle.ags_cli.proofs.watched.Watched.write_line.Goals as goal

pub returns-in_err-write_text-clause-bytes : goal.returns-in_err-write_text-clause-bytes
returns-in_err-write_text-clause-bytes g c = writes_first _ _ _ _ c.from_residual.result (search rules) c.in_err-write_text.ensures.bytes

pub returns-in_err-write_text-2-clause-bytes : goal.returns-in_err-write_text-2-clause-bytes
returns-in_err-write_text-2-clause-bytes g c =
    writes_both _ _ _ _ _ c.from_residual-in_err-write_text-2.result c.in_ok-write_text.ensures.bytes
    (writes_first _ _ _ _ c.from_residual-in_err-write_text-2.result (search rules) c.in_err-write_text-2.ensures.bytes)

pub returns-clause-bytes : goal.returns-clause-bytes
returns-clause-bytes g c =
    writes_both _ _ _ _ _ _ c.in_ok-write_text.ensures.bytes (writes_both _ _ _ _ _ _ c.in_ok-write_text-2.ensures.bytes c.write_text-3.ensures.bytes)
