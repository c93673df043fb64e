-- Schemas while a register is made, and texts of plain statements.
use Rattle.std.specs.Prelude.{List, ℕ}
use Rattle.sqlite.specs.Change.{created}
use Rattle.sqlite.specs.Schema.{Schema}
use Rattle.sqlite.specs.Listing.{understood}
use Rattle.sqlite.proofs.Callers.{IsPlain}
use Rattle.reg_tables.specs.Tables.{HasTables, meta, deposits, no_schema}

-- The schema with one table, and with two.
abbrev pub with_meta : Schema
with_meta = created no_schema meta

abbrev pub with_deposits : Schema
with_deposits = created with_meta (record deposits { tree = 0 })

-- In each schema that begins with the tables of a register, the text is a statement that has no RETURNING and does not
-- read the time.
abbrev pub IsPlainText : List ℕ → Type 0
IsPlainText text = (schema : Schema) → HasTables schema → IsPlain (understood schema text)
