-- Lemmas on the definitions of specs/Inserts.antt.
use Rattle.std.proofs.Common.{◌≡◌, ◌≢◌, ◌⊎◌, inl, inr, ℕ, ◌+◌, ◌/◌, drop, pos, List, [], ◌∷◌, ◌++◌, map, length}
use Rattle.std.proofs.Common.{Some, None, slice_get, Ok, Err, Result, refl, sym, ap, subst, ◌∙◌, arith}
use Rattle.std.specs.List.{AllByRecursion}
use Rattle.std.specs.List.Sorted.{IsPermutation}
use Rattle.sqlite.specs.declared.types.Value.TheVariants.{Null, Blob as Bytes}
use Rattle.sqlite.specs.Order.{Row}
use Rattle.sqlite.specs.Term.{Term}
use Rattle.sqlite.specs.Source.TheVariants.{Values}
use Rattle.sqlite.specs.Command.TheVariants.{Insert}
use Rattle.sqlite.specs.Edit.{edit_of}
use Rattle.sqlite.specs.Rowids.TheVariants.{Chosen}
use Rattle.sqlite.specs.Does.{Tally, Does, AtPlace, OnRows}
use Rattle.sqlite.specs.Effect.{Database, value_rows}
use Rattle.sqlite.specs.Rows.{Written, stamped}
use Rattle.sqlite.specs.Tree.{Trees}
use Rattle.sqlite_rules.specs.Cast.{cast_row}
use Rattle.sqlite_rules.specs.Edit.{put_all}
use Rattle.sqlite_rules.specs.Action.{works}
use Rattle.sqlite_schema.specs.declared.schema.Table.{Table}
use Rattle.sqlite_rules.specs.Action as action
use Rattle.sqlite_schema.specs.declared.schema.Keys.TheVariants.{Enforced}
use Rattle.sqlite.specs.Listing.{understood}
use Rattle.sqlite.specs.State.{State, mode_of, Executes}
use Rattle.sqlite.proofs.Callers.{statement_of, runs_as, one_step}
use Rattle.reg_store.specs.declared.keep.KeptRow.{KeptRow}
use Rattle.reg_store.specs.Sent.{Sent}
use Rattle.reg_tables.specs.Tables.{simple, meta, deposits, lines, steps, withdrawals, register_schema}
use Rattle.reg_tables.proofs.Texts.{insert_deposit, insert_line, insert_step, insert_mark, insert_eight_lines}
use Rattle.reg_tables.proofs.Texts.{insert_eight_steps, fill_meta}
use Rattle.reg_tables.proofs.MeaningLaws.{InsertsInto, row_terms, deposit_is, line_is, step_terms}
use Rattle.reg_tables.proofs.MeaningLaws.{step_is, mark_terms, mark_is, eight_line_terms, eight_lines_are}
use Rattle.reg_tables.proofs.MeaningLaws.{eight_step_terms, eight_steps_are, fill_terms, fill_is}
use Rattle.reg_tables.specs.Rows.{columns_5, columns_3, joined, line_row, line_rows, step_row, step_rows, given_deposit}
use Rattle.reg_tables.specs.Rows.{dictionary_row, format_row, first_column, number_row}
use Rattle.reg_tables.proofs.PutLaws.{cast_int, IsBlind, AreSeen, seen_blind, all_seen}
use Rattle.reg_tables.specs.Private.Inserts.{AddsTo, AddsDeposit, AddsLines, AddsSteps, AddsMark}

pub same_value : {B E : Type 0} {a b : B} → ◌≡◌ {A = Result B E} (Ok a) (Ok b) → a ≡ b
same_value e = cc

pub went : {B E R : Type 0} {b : B} {Stops : E → Type 0} → ((stop : E) × Stops stop × (Ok b ≡ Err stop)) ⊎ R → R
went (inl stopped) = absurd (let e = stopped.2 in cc)
went (inr on) = on

-- the two rows of meta, as they are put
abbrev pub meta_rows : ℕ → List ℕ → List Row
meta_rows number text = format_row number ∷ dictionary_row text ∷ []

abbrev pub FillsMeta : List ℕ → Database → Database → Type 0
FillsMeta dictionary = AddsTo 0 columns_3 (meta_rows 2 dictionary)

-- a row's columns after its rowid are the same whatever that is
columns_5_blind : IsBlind columns_5
columns_5_blind id [] = refl
columns_5_blind id (x ∷ row) = refl

columns_3_blind : IsBlind columns_3
columns_3_blind id [] = refl
columns_3_blind id (x ∷ row) = refl

-- the rows that an insert is given, and how the table takes them
abbrev sources : Table → ℕ → List Term → Row → List Row
sources table width terms params = value_rows (stamped table params) width (length terms / width) terms

abbrev taken_as : Table → ℕ → List Term → Row → List Row
taken_as table width terms params = map (λ row. cast_row table (drop 0 row)) (sources table width terms params)

-- no foreign key acts on what is put
abbrev IsLone : Table → ℕ → List Term → Row → Type 0
IsLone table width terms params =
    (db : Trees) → works register_schema Enforced 0 table.tree []
    (edit_of db table [] Chosen 0 (sources table width terms params)).news ≡ []

-- what holds of each list of eight
by_eight : {X : Type 0} (P : List X → Type 0) → ((a b c d e f g i : X) → P (a ∷ b ∷ c ∷ d ∷ e ∷ f ∷ g ∷ i ∷ []))
    → (xs : List X) → length xs ≡ 8 → P xs
by_eight P all (a ∷ b ∷ c ∷ d ∷ e ∷ f ∷ g ∷ i ∷ []) eight = all a b c d e f g i
by_eight P all xs eight = absurd (omega arith)

-- the table of these parts, which has no others
abbrev made_of : Table → Table
made_of t = simple t.name t.tree t.columns t.key t.primary t.uniques t.orders t.references

-- What an insert puts in a table, where no foreign key acts on it.
puts : (at : ℕ) (t : Table) → slice_get register_schema.tables at ≡ Some (made_of t) → (see : Row → Row) (width : ℕ) (sql : List ℕ)
    (terms : List Term) → InsertsInto at terms width sql → (params : Row) → IsLone (made_of t) width terms params
    → AreSeen see (taken_as (made_of t) width terms params) → (more : List Row) → map see (taken_as (made_of t) width terms params) ≡ more
    → (old new : State) (count : ℕ) → old.now.schema ≡ register_schema → Executes sql params old new (Ok count)
    → AddsTo t.tree see more old.now new.now
puts at t here see width sql terms means params lone same_seen more seen_as old new count has h =
    let table = made_of t in
    let tree = t.tree in
    let db = old.now.trees in
    let command = Insert at (Values terms width) in
    let w = runs_as sql params old new register_schema has command means.0 means.1 count h in
    let text = statement_of sql (understood register_schema sql) in
    let mode = mode_of old in
    let known = subst (λ s. Does old.step_limit mode params (record old.now { schema = s }) text None command
    (Ok (w.tally, new.now))) has w.changed in
    let done =
    went (subst (λ o. AtPlace (λ t. OnRows (record {
      limit = old.step_limit;
      keys = mode.keys;
      schema = register_schema;
      table = t;
      params = params;
    }) mode None command db) o (Ok (w.tally, new.now))) here known) in
    let now = ap (λ (p : Tally × Database). p.1) (same_value (went (went done.2).2).2) in
    let given = went done.1 in
    let written = went (went given.2).2 in
    let counted = went written.2 in
    let trees : done.0.trees ≡ written.0 =
    ap (λ (it : Written). it.trees) (same_value counted.2) ∙ same_value counted.1 in
    let same : new.now.trees ≡ written.0 = ap (λ (d : Database). d.trees) now ∙ trees in
    let edit = edit_of db table [] Chosen 0 (sources table width terms params) in
    let wrote : action.Writes register_schema Enforced db edit (Ok written.0) = subst (λ all.
    action.Writes register_schema Enforced db (edit_of db table [] Chosen 0 all) (Ok written.0)) given.1.1 written.1 in
    let step = one_step register_schema Enforced db written.0 edit (lone db) wrote in
    let seen = subst (λ rows. IsPermutation (map see (db tree) ++ rows) (map see (put_all (db tree) edit.news))) seen_as
    (all_seen see (db tree) (taken_as table width terms params) same_seen step.fresh) in
    record {
      schema = ap (λ (d : Database). d.schema) now;
      sound = w.sound;
      rows = subst (λ rows. IsPermutation (map see (db tree) ++ more) (map see rows))
          (sym (ap (λ (t : Trees). t tree) same ∙ step.rows)) seen;
      others = subst (λ (t : Trees). AllByRecursion (λ k. k.tree ≢ tree → t k.tree ≡ db k.tree) register_schema.tables)
          (sym same) step.tables;
    }

-- the same, where the rows are seen without their rowids
puts_blind : (at : ℕ) (t : Table) → slice_get register_schema.tables at ≡ Some (made_of t) → (see : Row → Row) → IsBlind see
    → (width : ℕ) (sql : List ℕ) (terms : List Term) → InsertsInto at terms width sql → (params : Row)
    → IsLone (made_of t) width terms params → (more : List Row) → map see (taken_as (made_of t) width terms params) ≡ more
    → (old new : State) (count : ℕ) → old.now.schema ≡ register_schema → Executes sql params old new (Ok count)
    → AddsTo t.tree see more old.now new.now
puts_blind at t here see blind width sql terms means params lone =
    puts at t here see width sql terms means params lone (seen_blind see blind (taken_as (made_of t) width terms params))

-- rows of a file, as the table takes them
lines_taken : (n at : ℕ) (rows : List KeptRow) → map columns_5
    (map (λ row. cast_row lines (drop 0 row)) (map (λ row. Null ∷ row) (line_rows n at rows))) ≡ line_rows n at rows
lines_taken n at [] = refl
lines_taken n at (row ∷ rows) = rw (cast_int (pos n), cast_int (pos at), cast_int (pos row.kind))
    (ap (λ xs. line_row n at row ∷ xs) (lines_taken n (at + 1) rows))

pub puts_line : (old new : State) (n at : ℕ) (row : KeptRow) (count : ℕ) → old.now.schema ≡ register_schema
    → Executes insert_line (line_row n at row) old new (Ok count) → AddsLines (line_row n at row ∷ []) old.now new.now
puts_line old new n at row =
    puts_blind 2 lines refl columns_5 columns_5_blind 6 insert_line row_terms line_is (line_row n at row) (λ db. refl)
    (line_row n at row ∷ []) (lines_taken n at (row ∷ [])) old new

pub puts_eight_lines : (old new : State) (n at : ℕ) (rows : List KeptRow) (count : ℕ) → length rows ≡ 8
    → old.now.schema ≡ register_schema → Executes insert_eight_lines (joined (line_rows n at rows)) old new (Ok count)
    → AddsLines (line_rows n at rows) old.now new.now
puts_eight_lines old new n at rows count eight has = by_eight (λ all. Executes insert_eight_lines
    (joined (line_rows n at all)) old new (Ok count) → AddsLines (line_rows n at all) old.now new.now)
    (λ a b c d e f g i.
    let all = a ∷ b ∷ c ∷ d ∷ e ∷ f ∷ g ∷ i ∷ [] in
    puts_blind 2 lines refl columns_5 columns_5_blind 6 insert_eight_lines eight_line_terms eight_lines_are (joined (line_rows n at all))
    (λ db. refl) (line_rows n at all) (lines_taken n at all) old new count has)
    rows eight

-- steps, as the table takes them
steps_taken : (n : ℕ) (graph : List (ℕ × ℕ)) → map columns_3
    (map (λ row. cast_row steps (drop 0 row)) (map (λ row. Null ∷ row) (step_rows n graph))) ≡ step_rows n graph
steps_taken n [] = refl
steps_taken n (step ∷ graph) = rw (cast_int (pos n), cast_int (pos step.0), cast_int (pos step.1))
    (ap (λ xs. step_row n step ∷ xs) (steps_taken n graph))

pub puts_step : (old new : State) (n : ℕ) (step : ℕ × ℕ) (count : ℕ) → old.now.schema ≡ register_schema
    → Executes insert_step (step_row n step) old new (Ok count) → AddsSteps (step_row n step ∷ []) old.now new.now
puts_step old new n step =
    puts_blind 3 steps refl columns_3 columns_3_blind 4 insert_step step_terms step_is (step_row n step) (λ db. refl)
    (step_row n step ∷ []) (steps_taken n (step ∷ [])) old new

pub puts_eight_steps : (old new : State) (n : ℕ) (graph : List (ℕ × ℕ)) (count : ℕ) → length graph ≡ 8
    → old.now.schema ≡ register_schema → Executes insert_eight_steps (joined (step_rows n graph)) old new (Ok count)
    → AddsSteps (step_rows n graph) old.now new.now
puts_eight_steps old new n graph count eight has = by_eight (λ all. Executes insert_eight_steps
    (joined (step_rows n all)) old new (Ok count) → AddsSteps (step_rows n all) old.now new.now)
    (λ a b c d e f g i.
    let all = a ∷ b ∷ c ∷ d ∷ e ∷ f ∷ g ∷ i ∷ [] in
    puts_blind 3 steps refl columns_3 columns_3_blind 4 insert_eight_steps eight_step_terms eight_steps_are (joined (step_rows n all))
    (λ db. refl) (step_rows n all) (steps_taken n all) old new count has)
    graph eight

deposit_taken : (n : ℕ) (d : Sent) → map columns_5
    (map (λ row. cast_row deposits (drop 0 row)) ((Null ∷ given_deposit n d) ∷ [])) ≡ given_deposit n d ∷ []
deposit_taken n d = rw (cast_int (pos n), cast_int d.embargo) refl

pub puts_deposit : (old new : State) (n : ℕ) (d : Sent) (count : ℕ) → old.now.schema ≡ register_schema
    → Executes insert_deposit (given_deposit n d) old new (Ok count) → AddsDeposit n d old.now new.now
puts_deposit old new n d =
    puts_blind 1 deposits refl columns_5 columns_5_blind 6 insert_deposit row_terms deposit_is (given_deposit n d) (λ db. refl)
    (given_deposit n d ∷ []) (deposit_taken n d) old new

meta_taken : (dictionary : List ℕ)
    → map columns_3 (taken_as meta 4 fill_terms (Bytes dictionary ∷ [])) ≡ meta_rows 2 dictionary
meta_taken dictionary = rw (cast_int (pos 2), cast_int (pos 0)) refl

pub fills_meta : (old new : State) (dictionary : List ℕ) (count : ℕ) → old.now.schema ≡ register_schema
    → Executes fill_meta (Bytes dictionary ∷ []) old new (Ok count) → FillsMeta dictionary old.now new.now
fills_meta old new dictionary =
    puts_blind 0 meta refl columns_3 columns_3_blind 4 fill_meta fill_terms fill_is (Bytes dictionary ∷ []) (λ db. refl)
    (meta_rows 2 dictionary) (meta_taken dictionary) old new

-- the number is that of the row itself
mark_taken : (n : ℕ) → map first_column (taken_as withdrawals 2 mark_terms (number_row n)) ≡ number_row n ∷ []
mark_taken n = rw (cast_int (pos n)) refl

mark_seen : (n : ℕ) → AreSeen first_column (taken_as withdrawals 2 mark_terms (number_row n))
mark_seen n = rw (cast_int (pos n)) ((λ rows. refl), tt)

pub puts_mark : (old new : State) (n : ℕ) (count : ℕ) → old.now.schema ≡ register_schema
    → Executes insert_mark (number_row n) old new (Ok count) → AddsMark n old.now new.now
puts_mark old new n =
    puts 4 withdrawals refl first_column 2 insert_mark mark_terms mark_is (number_row n) (λ db. refl) (mark_seen n)
    (number_row n ∷ []) (mark_taken n) old new
