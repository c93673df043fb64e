use Rattle.std.proofs.Common.{◌∙◌, ap, sym, if◌then◌else◌}
use Rattle.ags_rows.specs.declared.code.Code.TheVariants.{Rule9, Rule18}
use Rattle.ags_check.proofs.header.groups.unknown_code.Goals as goal

pub returns-then-has_dict : goal.returns-then-has_dict
returns-then-has_dict c = ap (λ found. if found then Rule9 else Rule18) (sym c.if-has_dict.true ∙ c.has_dict.ensures)

pub returns-else-has_dict : goal.returns-else-has_dict
returns-else-has_dict c = ap (λ found. if found then Rule9 else Rule18) (sym c.if-has_dict.false ∙ c.has_dict.ensures)
