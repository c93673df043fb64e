-- The tables of either format begin with the four that both have.
use Rattle.std.proofs.Common.{◌≡◌, [], ◌∷◌, ap}
use Rattle.sqlite.specs.Schema.{Schema}
use Rattle.reg_tables.specs.declared.schema.format.Format.{Format}
use Rattle.reg_tables.specs.declared.schema.format.Format.TheVariants.{First, Second}
use Rattle.reg_tables.specs.Formats.{StartsWithMeta}
use Rattle.reg_tables.specs.Tables.{HasTables, register_schema, schema_of, withdrawals}
use Rattle.reg_tables.specs.Tables as tables

pub format_tables : (format : Format) (schema : Schema) → schema ≡ schema_of format → HasTables schema
format_tables First schema is = ([], ap (λ (s : Schema). s.tables) is)
format_tables Second schema is = (withdrawals ∷ [], ap (λ (s : Schema). s.tables) is)

pub register_tables : (schema : Schema) → schema ≡ register_schema → HasTables schema
register_tables = format_tables Second

pub tables_first : (schema : Schema) → HasTables schema → StartsWithMeta schema
tables_first schema has = (tables.deposits ∷ tables.lines ∷ tables.steps ∷ has.0, has.1)
