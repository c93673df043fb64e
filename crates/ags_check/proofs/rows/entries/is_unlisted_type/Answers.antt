use Rattle.std.proofs.Common.{◌∙◌, sym}
use Rattle.std.proofs.lemmas.Bool.{false≢true}
use Rattle.ags_check.proofs.rows.entries.is_unlisted_type.Goals as goal

pub returns-else-is_of_type : goal.returns-else-is_of_type
returns-else-is_of_type c =
    (λ yes. absurd (false≢true (sym c.if-is_of_type.false ∙ yes)), λ rule. absurd (false≢true (sym c.if-is_of_type.false ∙ c.is_of_type.ensures.1 rule.0)))
