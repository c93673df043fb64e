-- What is read of the rows of an answer.
use Rattle.std.proofs.Common.{◌≡◌, ℕ, List, [], ◌∷◌, map, pos, Ok, Err, Result, IfOk, sym, subst, ◌∙◌}
use Rattle.std.specs.List.Sorted.{IsPermutation}
use Rattle.sqlite.specs.declared.types.Value.TheVariants.{Int}
use Rattle.sqlite.specs.Order.{Row}
use Rattle.sqlite.specs.State.{State, Shown}
use Rattle.sqlite.proofs.Callers.{one_permutation}
use Rattle.reg_tables.specs.Tables.{HasTables}
use Rattle.reg_tables.proofs.Texts.{select_lines, select_steps}
use Rattle.ags_links.specs.Steps.{IsBefore}
use Rattle.sqlite.specs.Tree.{IsAscending}
use Rattle.reg_store.specs.declared.keep.Kept.{Kept}
use Rattle.reg_store.specs.declared.keep.KeptRow.{KeptRow}
use Rattle.reg_tables.specs.declared.error.TableError.{TableError}
use Rattle.reg_store.specs.Keep.{sent_of}
use Rattle.reg_tables.specs.Rows.{given_deposit, line_table, step_table, placed_rows, step_pair, rows_under}
use Rattle.reg_tables.proofs.ReadsLaws.{holds_lines, reads_lines}
use Rattle.reg_tables.proofs.ReadsStepsLaws.{holds_steps, reads_steps, same_places, same_pairs}

pub kept_from : (n : ℕ) (rows found : List Row) (r : Result Kept TableError) → IsPermutation rows found → IfOk r (λ kept. rows ≡ given_deposit n (sent_of kept) ∷ []) → IfOk r (λ kept. found ≡ given_deposit n (sent_of kept) ∷ [])
kept_from n rows found (Ok kept) same read = one_permutation (given_deposit n (sent_of kept)) found (subst (λ all. IsPermutation all found) read same)
kept_from n rows found (Err e) same read = tt

pub lines_read : (old new : State) (n : ℕ) (lines : List KeptRow) → HasTables old.now.schema → (rows : List Row) × Shown select_lines (Int (pos n) ∷ []) old new rows × (rows ≡ placed_rows 0 lines)
    → (file : List KeptRow) → IsPermutation (placed_rows 0 file) (rows_under n (line_table old.now.trees)) → lines ≡ file
lines_read old new n lines has shown file are = same_places lines file (sym shown.2 ∙ reads_lines old new n file shown.0 has are shown.1)

pub lines_held : (old new : State) (n : ℕ) (lines : List KeptRow) → HasTables old.now.schema → (rows : List Row) × Shown select_lines (Int (pos n) ∷ []) old new rows × (rows ≡ placed_rows 0 lines)
    → IsPermutation (placed_rows 0 lines) (rows_under n (line_table old.now.trees))
lines_held old new n lines has shown = subst (λ all. IsPermutation all (rows_under n (line_table old.now.trees))) shown.2 (holds_lines old new n shown.0 has shown.1)

pub steps_read : (old new : State) (n : ℕ) (steps : List (ℕ × ℕ)) → HasTables old.now.schema → (rows : List Row) × Shown select_steps (Int (pos n) ∷ []) old new rows × (rows ≡ map step_pair steps)
    → (others : List (ℕ × ℕ)) → IsAscending IsBefore others → IsPermutation (map step_pair others) (rows_under n (step_table old.now.trees)) → steps ≡ others
steps_read old new n steps has shown others up are = same_pairs steps others (sym shown.2 ∙ reads_steps old new n others shown.0 has up are shown.1)

pub steps_held : (old new : State) (n : ℕ) (steps : List (ℕ × ℕ)) → HasTables old.now.schema → (rows : List Row) × Shown select_steps (Int (pos n) ∷ []) old new rows × (rows ≡ map step_pair steps)
    → IsPermutation (map step_pair steps) (rows_under n (step_table old.now.trees))
steps_held old new n steps has shown = subst (λ all. IsPermutation all (rows_under n (step_table old.now.trees))) shown.2 (holds_steps old new n shown.0 has shown.1)
