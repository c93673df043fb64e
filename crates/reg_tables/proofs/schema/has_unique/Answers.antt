use Rattle.std.proofs.Common.{rules}
use Rattle.reg_tables.proofs.SchemaLemmas.{one_item}
use Rattle.reg_tables.proofs.schema.has_unique.Goals as goal

pub returns-in-len1 : goal.returns-in-len1
returns-in-len1 c = one_item c.args.table.now.uniques c.unique-item.result c.args.places.now c.eq.result (search rules) (search rules) (search rules) (cc)
