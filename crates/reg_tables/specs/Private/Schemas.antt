-- The tables that the test of a schema expects, as a schema has them.
use Rattle.std.specs.Prelude.{◌≡◌, ℕ, true, false, List, [], ◌∷◌, map, Option, Some, None}
use Rattle.sqlite.specs.Table.{Table}
use Rattle.sqlite.specs.Schema.{Schema}
use Rattle.sqlite.specs.Kind.TheVariants.{Integer}
use Rattle.sqlite_schema.specs.declared.schema.Column.{Column}
use Rattle.sqlite_schema.specs.declared.schema.Index.{Index}
use Rattle.sqlite_schema.specs.declared.schema.Reference.{Reference}
use Rattle.sqlite_value.specs.declared.keys.Order.{Order}
use Rattle.reg_tables.specs.declared.schema.expected.ExpectedColumn.{ExpectedColumn}
use Rattle.reg_tables.specs.declared.schema.expected.ExpectedColumn.TheVariants.{Filled, RowNumber}
use Rattle.reg_tables.specs.declared.schema.expected.ExpectedIndex.{ExpectedIndex}
use Rattle.reg_tables.specs.declared.schema.expected.ExpectedKey.{ExpectedKey}
use Rattle.reg_tables.specs.declared.schema.expected.ExpectedKey.TheVariants as keys
use Rattle.reg_tables.specs.declared.schema.expected.ExpectedKey.TheVariants.{Columns}
use Rattle.reg_tables.specs.declared.schema.expected.ExpectedTable.{ExpectedTable}
use Rattle.reg_tables.specs.Tables.{column, simple, of_a_deposit, register_indexes}

abbrev pub column_of : ExpectedColumn → Column
column_of (Filled name kind) = column name.now kind
column_of (RowNumber name) = record (column name.now Integer) { not_null = false }

-- the column at this place refers to the number of a deposit
abbrev pub reference_at : ℕ → Reference
reference_at place = record of_a_deposit { columns = place ∷ [] }

abbrev pub references_of : Option ℕ → List Reference
references_of None = []
references_of (Some place) = reference_at place ∷ []

-- The key of a table: the column that is the number of a row, the places of the key, and its index's places and order.
abbrev pub row_number_of : ExpectedKey → Option ℕ
row_number_of (Columns places order) = None
row_number_of keys.RowNumber = Some 0

abbrev pub places_of : ExpectedKey → List ℕ
places_of (Columns places order) = places.now
places_of keys.RowNumber = 0 ∷ []

abbrev pub uniques_of : ExpectedKey → List (List ℕ)
uniques_of (Columns places order) = places.now ∷ []
uniques_of keys.RowNumber = []

abbrev pub orders_of : ExpectedKey → List Order
orders_of (Columns places order) = order ∷ []
orders_of keys.RowNumber = []

pub record HasKey (t : Table) (key : ExpectedKey) : Type 0 where
  pub row_number : t.key ≡ row_number_of key
  pub primary : t.primary ≡ places_of key
  pub uniques : t.uniques ≡ uniques_of key
  pub orders : t.orders ≡ orders_of key

abbrev pub table_of : ExpectedTable → Table
table_of t = simple t.name.now t.tree (map column_of t.columns.now) (row_number_of t.key) (places_of t.key)
    (uniques_of t.key) (orders_of t.key) (references_of t.deposit)

abbrev pub index_of : ExpectedIndex → Index
index_of i = record {
  name = i.name.now;
  tree = i.tree;
  table = i.table;
  columns = i.columns.now;
  order = i.order;
  is_unique = true;
}

-- the schema of these tables, in which each key of columns has an index
abbrev pub schema_with : List ExpectedTable → Schema
schema_with expected = record { tables = map table_of expected; indexes = register_indexes; views = [] }
