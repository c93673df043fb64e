use Rattle.std.proofs.Common.{codes, rules}
use Rattle.reg_tables.proofs.SchemaLemmas.{one_item}
use Rattle.reg_tables.proofs.schema.is_to_number.Goals as goal

pub returns-in-len1 : goal.returns-in-len1
returns-in-len1 c = one_item c.args.reference.now.parent_columns c.column-item.result (codes "number") c.eq.result (search rules) (search rules) (search rules) (cc)
