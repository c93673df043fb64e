use Rattle.std.proofs.Common.{rules, subst, to_z-of_z, w64}
use Rattle.ags_cli.specs.Faults.{Tells}
use Rattle.ags_cli.specs.Streams.{has_failed, inner_of}
use Rattle.reg_cli.specs.Failures.{version_text}
use Rattle.reg_cli.proofs.error.Failure.tell.Goals as goal

pub returns-in-Version : goal.returns-in-Version
returns-in-Version g c = rw c.in-Version.is
    (subst (λ number. Tells (g.E.Write.contents (inner_of c.args.err.now)) (g.E.Write.contents (inner_of c.tell_version.new.err)) (version_text number) (has_failed c.args.err.now) (has_failed c.tell_version.new.err) 4 c.tell_version.result)
    (to_z-of_z {w = w64} (search rules)) c.tell_version.ensures)

pub returns-in-CannotListen : goal.returns-in-CannotListen
returns-in-CannotListen g c = rw c.in-CannotListen.is c.tell-in-CannotListen.ensures
