use Rattle.std.proofs.Common.{◌∙◌, Bool, ap, sym}
use Rattle.std.specs.Prelude.{◌&&◌, ◌||◌}
use Rattle.std.specs.List.{list_all}
use Rattle.ags_text.specs.Names.{is_capital, is_digit}
use Rattle.ags_text.proofs.names.is_group_name.Goals as goal

pub returns-then-is_within : goal.returns-then-is_within
returns-then-is_within c = c.has_group_letters.ensures ∙ ap (λ (b : Bool). b && list_all (λ x. is_capital x || is_digit x) c.args.name.now) (sym c.if-is_within.true ∙ c.is_within.ensures)

pub returns-else-is_within : goal.returns-else-is_within
returns-else-is_within c = c.if-is_within.false ∙ ap (λ (b : Bool). b && list_all (λ x. is_capital x || is_digit x) c.args.name.now) (sym c.if-is_within.false ∙ c.is_within.ensures)
