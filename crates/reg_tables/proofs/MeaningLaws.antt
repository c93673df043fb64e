-- Lemmas on the definitions of specs/Meaning.antt.
use Rattle.std.specs.Prelude.{false, [], ◌∷◌, ◌++◌, None, Ok, codes, List, ℕ, pos, negsuc, ◌≡◌, refl}
use Rattle.std.proofs.Common.{sym, subst}
use Rattle.sqlite.specs.Table.{Table}
use Rattle.sqlite_schema.specs.declared.schema.Index.{Index}
use Rattle.sqlite_schema.specs.declared.schema.View.{View}
use Rattle.sqlite.specs.Compile.{table_defined_by}
use Rattle.sqlite.specs.Change.{created}
use Rattle.sqlite.specs.Does.{lacks_sequence}
use Rattle.sqlite.specs.Schema.{Schema}
use Rattle.sqlite.specs.Term.{Term, lit, col, op2}
use Rattle.sqlite_sql.specs.declared.ops.BinaryOp.TheVariants.{Compare}
use Rattle.sqlite_sql.specs.declared.ops.CompareOp.TheVariants.{Eq}
use Rattle.sqlite.specs.Collation.TheVariants.{Binary}
use Rattle.sqlite.specs.Query.{Query, Join, inner, end}
use Rattle.sqlite_value.specs.declared.keys.Key.{Key}
use Rattle.sqlite.specs.declared.types.Value.TheVariants.{Null, Int, Text as Words, Blob as Bytes}
use Rattle.sqlite.specs.Source.TheVariants.{Values}
use Rattle.sqlite.specs.Command.{Command}
use Rattle.sqlite.specs.Command.TheVariants.{Insert, Update, Select, CreateTable}
use Rattle.sqlite_tied.specs.Compute.{everything}
use Rattle.sqlite.specs.Listing.{understood, reads_listing}
use Rattle.sqlite.proofs.Callers.{IsPlain, command_of, statement_of}
use Rattle.reg_tables.specs.Tables.{HasTables, HasMarkTable, meta, deposits, lines, steps, withdrawals, no_schema, first_schema}
use Rattle.reg_tables.specs.Tables.{register_schema}
use Rattle.reg_tables.proofs.Texts.{create_meta, create_deposits, create_lines, create_steps, create_withdrawals}
use Rattle.reg_tables.proofs.Texts.{fill_meta, raise_format, insert_deposit, insert_line, insert_step, insert_mark}
use Rattle.reg_tables.proofs.Texts.{insert_eight_lines, insert_eight_steps, select_deposit, select_lines, select_steps}
use Rattle.reg_tables.proofs.Texts.{select_all_numbers, select_marks, select_meta}
use Rattle.reg_tables.specs.Formats.{StartsWithMeta}
use Rattle.reg_tables.specs.Private.Meaning.{with_meta, with_deposits}

-- ---- the tables

abbrev pub with_lines : Schema
with_lines = created with_deposits (record lines { tree = 0 })

-- Under the first schema, the text makes a table, which makes it the second; it is all of its statement, and plain.
pub record MakesTable (from : Schema) (text : List ℕ) (to : Schema) : Type 0 where
  pub table : Table
  pub defined : table_defined_by text ≡ Ok table
  pub makes : created from table ≡ to
  pub unsequenced : lacks_sequence to ≡ false
  pub asked : command_of (understood from text) ≡ CreateTable
  pub whole : statement_of text (understood from text) ≡ text
  pub plain : IsPlain (understood from text)

pub meta_text : MakesTable no_schema create_meta with_meta
unfolding understood everything
meta_text = record { table = meta; defined = refl; makes = refl; unsequenced = refl; asked = refl; whole = refl; plain = (refl, refl) }

pub deposits_text : MakesTable with_meta create_deposits with_deposits
unfolding understood everything
deposits_text = record { table = record deposits { tree = 0 }; defined = refl; makes = refl; unsequenced = refl; asked = refl; whole = refl; plain = (refl, refl) }

pub lines_text : MakesTable with_deposits create_lines with_lines
unfolding understood everything
lines_text = record { table = record lines { tree = 0 }; defined = refl; makes = refl; unsequenced = refl; asked = refl; whole = refl; plain = (refl, refl) }

pub steps_text : MakesTable with_lines create_steps first_schema
unfolding understood everything
steps_text = record { table = record steps { tree = 0 }; defined = refl; makes = refl; unsequenced = refl; asked = refl; whole = refl; plain = (refl, refl) }

pub withdrawals_text : MakesTable first_schema create_withdrawals register_schema
unfolding understood everything
withdrawals_text = record { table = record withdrawals { tree = 0 }; defined = refl; makes = refl; unsequenced = refl; asked = refl; whole = refl; plain = (refl, refl) }

-- ---- the inserts

-- under the schema of a register, the text adds rows of these terms, so many a row, to the table at this place
abbrev pub InsertsInto : ℕ → List Term → ℕ → List ℕ → Type 0
InsertsInto at terms width text = (command_of (understood register_schema text) ≡ Insert at (Values terms width))
    × IsPlain (understood register_schema text)

abbrev pub fill_terms : List Term
fill_terms = lit Null ∷ lit (Words (codes "format")) ∷ lit (Int (pos 2)) ∷ lit (Bytes []) ∷ lit Null
    ∷ lit (Words (codes "dictionary")) ∷ lit (Int (pos 0)) ∷ col 0 0 ∷ []

pub fill_is : InsertsInto 0 fill_terms 4 fill_meta
unfolding understood everything
fill_is = (refl, (refl, refl))

-- a rowid that is to be chosen, and five columns
abbrev pub row_terms : List Term
row_terms = lit Null ∷ col 0 0 ∷ col 0 1 ∷ col 0 2 ∷ col 0 3 ∷ col 0 4 ∷ []

pub deposit_is : InsertsInto 1 row_terms 6 insert_deposit
unfolding understood everything
deposit_is = (refl, (refl, refl))

pub line_is : InsertsInto 2 row_terms 6 insert_line
unfolding understood everything
line_is = (refl, (refl, refl))

abbrev pub step_terms : List Term
step_terms = lit Null ∷ col 0 0 ∷ col 0 1 ∷ col 0 2 ∷ []

pub step_is : InsertsInto 3 step_terms 4 insert_step
unfolding understood everything
step_is = (refl, (refl, refl))

abbrev pub mark_terms : List Term
mark_terms = col 0 0 ∷ lit Null ∷ []

pub mark_is : InsertsInto 4 mark_terms 2 insert_mark
unfolding understood everything
mark_is = (refl, (refl, refl))

abbrev pub eight_line_terms : List Term
eight_line_terms =
    lit Null ∷ col 0 0 ∷ col 0 1 ∷ col 0 2 ∷ col 0 3 ∷ col 0 4 ∷
    lit Null ∷ col 0 5 ∷ col 0 6 ∷ col 0 7 ∷ col 0 8 ∷ col 0 9 ∷
    lit Null ∷ col 0 10 ∷ col 0 11 ∷ col 0 12 ∷ col 0 13 ∷ col 0 14 ∷
    lit Null ∷ col 0 15 ∷ col 0 16 ∷ col 0 17 ∷ col 0 18 ∷ col 0 19 ∷
    lit Null ∷ col 0 20 ∷ col 0 21 ∷ col 0 22 ∷ col 0 23 ∷ col 0 24 ∷
    lit Null ∷ col 0 25 ∷ col 0 26 ∷ col 0 27 ∷ col 0 28 ∷ col 0 29 ∷
    lit Null ∷ col 0 30 ∷ col 0 31 ∷ col 0 32 ∷ col 0 33 ∷ col 0 34 ∷
    lit Null ∷ col 0 35 ∷ col 0 36 ∷ col 0 37 ∷ col 0 38 ∷ col 0 39 ∷ []

pub eight_lines_are : InsertsInto 2 eight_line_terms 6 insert_eight_lines
unfolding understood everything
eight_lines_are = (refl, (refl, refl))

abbrev pub eight_step_terms : List Term
eight_step_terms =
    lit Null ∷ col 0 0 ∷ col 0 1 ∷ col 0 2 ∷
    lit Null ∷ col 0 3 ∷ col 0 4 ∷ col 0 5 ∷
    lit Null ∷ col 0 6 ∷ col 0 7 ∷ col 0 8 ∷
    lit Null ∷ col 0 9 ∷ col 0 10 ∷ col 0 11 ∷
    lit Null ∷ col 0 12 ∷ col 0 13 ∷ col 0 14 ∷
    lit Null ∷ col 0 15 ∷ col 0 16 ∷ col 0 17 ∷
    lit Null ∷ col 0 18 ∷ col 0 19 ∷ col 0 20 ∷
    lit Null ∷ col 0 21 ∷ col 0 22 ∷ col 0 23 ∷ []

pub eight_steps_are : InsertsInto 3 eight_step_terms 4 insert_eight_steps
unfolding understood everything
eight_steps_are = (refl, (refl, refl))

-- ---- the queries

abbrev pub query : Join → List Term → List Term → List (Term × Key) → Query
query from filter project order = record {
  from = from;
  filter = filter;
  group = None;
  project = project;
  distinct = false;
  collations = [];
  order = order;
  limit = lit (Int (negsuc 0));
  offset = lit (Int (pos 0));
}

abbrev pub plainly : Query → List (List ℕ) → Command
plainly q names = Select (record { lets = []; body = q }) names

abbrev pub rising : Term → Term × Key
rising t = (t, record { collation = Binary; descending = false })

-- Under this schema, the text asks this query of the tables, is plain, and reads nothing else.
pub record AsksIn (schema : Schema) (text : List ℕ) (q : Query) (names : List (List ℕ)) : Type 0 where
  pub asked : command_of (understood schema text) ≡ plainly q names
  pub plain : IsPlain (understood schema text)
  pub alone : reads_listing schema text ≡ false

-- under each schema that begins with the tables of a register, the text asks this query
abbrev pub Asks : List ℕ → Query → List (List ℕ) → Type 0
Asks text q names = (schema : Schema) → HasTables schema → AsksIn schema text q names

-- a schema that begins with these tables
abbrev begun : List Table → List Table → List Index → List View → Schema
begun first more indexes views = record { tables = first ++ more; indexes = indexes; views = views }

-- what a text asks under each schema of this form, it asks under each that begins so
asks : {text : List ℕ} {q : Query} {names : List (List ℕ)} (first : List Table)
    → ((more : List Table) (indexes : List Index) (views : List View) → AsksIn (begun first more indexes views) text q names)
    → (schema : Schema) → (more : List Table) × (schema.tables ≡ first ++ more) → AsksIn schema text q names
asks {text} {q} {names} first each schema has =
    let same : begun first has.0 schema.indexes schema.views ≡ schema =
    λ i. record { tables = sym has.1 i; indexes = schema.indexes; views = schema.views } in
    subst (λ s. AsksIn s text q names) same (each has.0 schema.indexes schema.views)

abbrev all_four : List Table
all_four = meta ∷ deposits ∷ lines ∷ steps ∷ []

abbrev pub by_number : Query
by_number = query (inner 2 end) (op2 (Compare Eq Binary) (col 1 1) (col 0 0) ∷ [])
    (col 1 1 ∷ col 1 2 ∷ col 1 3 ∷ col 1 4 ∷ col 1 5 ∷ []) []

pub deposit_read : Asks select_deposit by_number
    (codes "number" ∷ codes "firm" ∷ codes "project" ∷ codes "embargo" ∷ codes "body" ∷ [])
unfolding understood everything
deposit_read = asks all_four (λ more indexes views. record { asked = refl; plain = (refl, refl); alone = refl })

abbrev pub lines_of_deposit : Query
lines_of_deposit = query (inner 4 end) (op2 (Compare Eq Binary) (col 1 1) (col 0 0) ∷ [])
    (col 1 2 ∷ col 1 3 ∷ col 1 4 ∷ col 1 5 ∷ []) (rising (col 1 2) ∷ [])

pub lines_read : Asks select_lines lines_of_deposit (codes "seq" ∷ codes "grp" ∷ codes "kind" ∷ codes "line" ∷ [])
unfolding understood everything
lines_read = asks all_four (λ more indexes views. record { asked = refl; plain = (refl, refl); alone = refl })

abbrev pub steps_of_deposit : Query
steps_of_deposit = query (inner 6 end) (op2 (Compare Eq Binary) (col 1 1) (col 0 0) ∷ []) (col 1 2 ∷ col 1 3 ∷ [])
    (rising (col 1 2) ∷ rising (col 1 3) ∷ [])

pub steps_read : Asks select_steps steps_of_deposit (codes "child" ∷ codes "target" ∷ [])
unfolding understood everything
steps_read = asks all_four (λ more indexes views. record { asked = refl; plain = (refl, refl); alone = refl })

abbrev pub all_numbers : Query
all_numbers = query (inner 2 end) [] (col 1 1 ∷ []) (rising (col 1 1) ∷ [])

pub all_numbers_read : Asks select_all_numbers all_numbers (codes "number" ∷ [])
unfolding understood everything
all_numbers_read = asks all_four (λ more indexes views. record { asked = refl; plain = (refl, refl); alone = refl })

abbrev pub all_meta : Query
all_meta = query (inner 0 end) [] (col 1 1 ∷ col 1 2 ∷ col 1 3 ∷ []) (rising (col 1 1) ∷ [])

pub all_meta_read : (schema : Schema) → StartsWithMeta schema
    → AsksIn schema select_meta all_meta (codes "name" ∷ codes "num" ∷ codes "body" ∷ [])
unfolding understood everything
all_meta_read = asks (meta ∷ []) (λ more indexes views. record { asked = refl; plain = (refl, refl); alone = refl })

abbrev pub all_marks : Query
all_marks = query (inner 8 end) [] (col 1 0 ∷ []) (rising (col 1 0) ∷ [])

pub all_marks_read : (schema : Schema) → HasMarkTable schema → AsksIn schema select_marks all_marks (codes "deposit" ∷ [])
unfolding understood everything
all_marks_read = asks (meta ∷ deposits ∷ lines ∷ steps ∷ withdrawals ∷ []) (λ more indexes views. record { asked = refl; plain = (refl, refl); alone = refl })

-- ---- the update

-- the row `format` of meta, by its rowid, with the number 2
abbrev pub format_raised : Query
format_raised = query (inner 0 end) (op2 (Compare Eq Binary) (col 1 1) (lit (Words (codes "format"))) ∷ [])
    (col 1 0 ∷ col 1 0 ∷ col 1 1 ∷ lit (Int (pos 2)) ∷ col 1 3 ∷ []) []

pub raise_is : (command_of (understood register_schema raise_format) ≡ Update 0 (record { lets = []; body = format_raised }))
    × IsPlain (understood register_schema raise_format)
unfolding understood everything
raise_is = (refl, (refl, refl))
