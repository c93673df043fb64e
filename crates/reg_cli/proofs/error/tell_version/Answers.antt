use Rattle.std.proofs.Common.{◌++◌, codes, ap, subst, to_z-of_z, ◌∙◌}
use Rattle.std.specs.Fmt.{signed_decimal}
use Rattle.ags_cli.specs.Faults.{Tells}
use Rattle.ags_cli.specs.Streams.{has_failed, inner_of}
use Rattle.reg_cli.proofs.error.tell_version.Goals as goal

pub returns : goal.returns
returns g c =
    subst (λ digits. Tells (g.E.Write.contents (inner_of c.args.err.now)) (g.E.Write.contents (inner_of c.tell_line.new.out)) (codes "groundreg: register version " ++ (digits ++ codes "\n")) (has_failed c.args.err.now) (has_failed c.tell_line.new.out) 4 c.tell_line.result)
    (c.as_bytes-digits.ensures.value ∙ (c.format.ensures.text ∙ ap signed_decimal (to_z-of_z c.ranges.number))) c.tell_line.ensures
