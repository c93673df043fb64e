use Rattle.std.proofs.Common.{subst}
use Rattle.ags_cli.specs.Faults.{Tells}
use Rattle.ags_cli.specs.Streams.{has_failed, inner_of}
use Rattle.reg_cli.specs.Failures.{unwritten_text}
use Rattle.reg_cli.proofs.error.tell_unwritten.Goals as goal

pub returns : goal.returns
returns g c =
    subst (λ text. Tells (g.E.Write.contents (inner_of c.args.err.now)) (g.E.Write.contents (inner_of c.tell_line.new.out)) (unwritten_text text) (has_failed c.args.err.now) (has_failed c.tell_line.new.out) 6 c.tell_line.result)
    c.as_bytes.ensures.value c.tell_line.ensures
