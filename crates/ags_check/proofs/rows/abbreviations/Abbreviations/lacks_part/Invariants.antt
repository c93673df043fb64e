use Rattle.std.proofs.Common.{◌≡◌, length}
use Rattle.ags_check.specs.CodeLists.{lacks_part}
use Rattle.ags_check.proofs.rows.abbreviations.Abbreviations.lacks_part.Given as goal

abbrev pub invariant-cutting : goal.invariant-cutting
invariant-cutting l = lacks_part l.self.held l.separator l.heading l.rest ≡ lacks_part l.self.held l.separator l.heading l.fn.text

abbrev pub decreases-cutting : goal.decreases-cutting
decreases-cutting l = length l.rest
