use Rattle.std.proofs.Common.{◌≡◌, ◌++◌, length, map}
use Rattle.ags_rows.specs.Parts.{parts_at}
use Rattle.ags_links.proofs.texts.push_parts.Given as goal

abbrev pub invariant-cutting : goal.invariant-cutting
invariant-cutting l = map (λ p. p.now) l.out.items ++ parts_at l.separator l.rest ≡ map (λ p. p.now) l.fn.out.items ++ parts_at l.separator l.fn.text

abbrev pub decreases-cutting : goal.decreases-cutting
decreases-cutting l = length l.rest
