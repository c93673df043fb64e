-- The number of a register's format, in the row `format` of the table `meta`.
use Rattle.std.specs.Prelude.{◌≡◌, ℤ, List, [], ◌∷◌, map, codes, Contains}
use Rattle.sqlite.specs.declared.types.Value.{Value}
use Rattle.sqlite.specs.declared.types.Value.TheVariants.{Int, Text as Words}
use Rattle.sqlite.specs.Order.{Row}
use Rattle.sqlite.specs.Effect.{Database}
use Rattle.sqlite.specs.Table.{Table}
use Rattle.sqlite.specs.Schema.{Schema}
use Rattle.reg_tables.specs.Tables.{meta}
use Rattle.reg_tables.specs.Rows.{columns_3}

-- A row of meta, by its columns, that is named `format` and has this number.
abbrev pub IsFormatRow : ℤ → Row → Type 0
IsFormatRow n row = (body : Value) × (row ≡ Words (codes "format") ∷ Int n ∷ body ∷ [])

-- The first table is meta as a register has it, whatever the other tables, the indexes and the views are.
abbrev pub StartsWithMeta : Schema → Type 0
StartsWithMeta schema = (more : List Table) × (schema.tables ≡ meta ∷ more)

-- The first table is meta, and it has such a row.
abbrev pub HasFormat : Database → ℤ → Type 0
HasFormat db n =
    StartsWithMeta db.schema × ((row : Row) × Contains (map columns_3 (db.trees 0)) row × IsFormatRow n row)
