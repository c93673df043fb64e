-- What the query for the steps of a deposit reads, and what the readers of lines and steps give back.
use Rattle.std.proofs.Common.{◌≡◌, ℕ, ◌+◌, pos, List, [], ◌∷◌, map}
use Rattle.std.proofs.Common.{refl, sym, ap, ◌∙◌, arith, Less, Equal, inl, inr, drop}
use Rattle.std.specs.List.Sorted.{IsPermutation}
use Rattle.std.specs.Ordering.{ordering_then}
use Rattle.std.proofs.lemmas.Int.{ints}
use Rattle.std.proofs.lemmas.Bool.Decides.{nat_tests}
use Rattle.sqlite.specs.declared.types.Value.{Value}
use Rattle.sqlite.specs.declared.types.Value.TheVariants.{Int}
use Rattle.sqlite.specs.Order.{Row, bytes, column, value_cmp}
use Rattle.sqlite.specs.Tree.{IsAscending}
use Rattle.sqlite.specs.Query.{Output, output_cmp}
use Rattle.sqlite.specs.State.{State, Shown}
use Rattle.sqlite_value.proofs.OrderLemmas.{value_cmp-Int}
use Rattle.sqlite_keyed.proofs.ListLemmas.{ascending-map, ascending_weaker}
use Rattle.ags_links.specs.Steps.{IsBefore}
use Rattle.reg_store.specs.declared.keep.KeptRow.{KeptRow}
use Rattle.reg_tables.specs.Tables.{HasTables}
use Rattle.reg_tables.proofs.Texts.{select_steps}
use Rattle.reg_tables.proofs.MeaningLaws.{steps_of_deposit, steps_read}
use Rattle.reg_tables.proofs.PutLaws.{less}
use Rattle.reg_tables.specs.Rows.{columns_3, step_table, step_pair, placed_rows, has_number, rows_under}
use Rattle.reg_tables.proofs.AnswersLaws.{answers, reads_rows, shows_rows}
use Rattle.reg_tables.proofs.ReadsLaws.{of_number}

abbrev by_pair : Row → Output
by_pair c = (column c 0 ∷ column c 1 ∷ [], column c 0 ∷ column c 1 ∷ [])

step_entries_show : (steps : List (ℕ × ℕ)) → map (λ (o : Output). o.1) (map by_pair (map step_pair steps)) ≡ map step_pair steps
step_entries_show [] = refl
step_entries_show (step ∷ steps) = ap (λ all. step_pair step ∷ all) (step_entries_show steps)

tied : (m n : ℕ) → m ≡ n → value_cmp (Int (pos m)) (Int (pos n)) ≡ Equal
tied m n e = value_cmp-Int (pos m) (pos n) ∙ grind (arith, ints, nat_tests)

step_below : (p q : ℕ × ℕ) → IsBefore p q → output_cmp steps_of_deposit (by_pair (step_pair p)) (by_pair (step_pair q)) ≡ Less
step_below p q (inl h) =
    ap (λ o. ordering_then o (ordering_then (value_cmp (Int (pos p.1)) (Int (pos q.1))) Equal)) (less p.0 q.0 h)
step_below p q (inr h) = ap (λ o. ordering_then o (ordering_then (value_cmp (Int (pos p.1)) (Int (pos q.1))) Equal))
    (tied p.0 q.0 h.0) ∙ ap (λ o. ordering_then o Equal) (less p.1 q.1 h.1)

steps_rise : (steps : List (ℕ × ℕ)) → IsAscending IsBefore steps
    → IsAscending (λ a b. output_cmp steps_of_deposit a b ≡ Less) (map by_pair (map step_pair steps))
steps_rise steps h =
    ascending-map (λ a b. output_cmp steps_of_deposit a b ≡ Less) by_pair (map step_pair steps)
    (ascending-map (λ a b. output_cmp steps_of_deposit (by_pair a) (by_pair b) ≡ Less) step_pair steps (ascending_weaker IsBefore (λ p q.
    output_cmp steps_of_deposit (by_pair (step_pair p)) (by_pair (step_pair q)) ≡ Less) step_below steps h))

-- where the table holds rising steps under the number, the query shows them in their order
pub reads_steps : (old new : State) (n : ℕ) (steps : List (ℕ × ℕ)) (rows : List Row) → HasTables old.now.schema
    → IsAscending IsBefore steps → IsPermutation (map step_pair steps) (rows_under n (step_table old.now.trees))
    → Shown select_steps (Int (pos n) ∷ []) old new rows → rows ≡ map step_pair steps
reads_steps old new n steps rows has up holds h =
    let a = answers select_steps 6 steps_of_deposit _ old new (Int (pos n) ∷ []) rows (steps_read old.now.schema has) refl h in
    reads_rows a columns_3 (drop 1) by_pair (has_number n) (λ r. of_number (column r 1) n) (λ _. refl) (map step_pair steps) holds
    (steps_rise steps up) ∙ step_entries_show steps

-- Where the query shows these rows, the table holds them under the number, and no others.
pub holds_steps : (old new : State) (n : ℕ) (rows : List Row) → HasTables old.now.schema
    → Shown select_steps (Int (pos n) ∷ []) old new rows → IsPermutation rows (rows_under n (step_table old.now.trees))
holds_steps old new n rows has h =
    let a = answers select_steps 6 steps_of_deposit _ old new (Int (pos n) ∷ []) rows (steps_read old.now.schema has) refl h in
    shows_rows a columns_3 (drop 1) (has_number n) (λ r. of_number (column r 1) n) (λ _. refl)

-- ---- the rows of an answer give back what was kept

abbrev pub nat_in : Value → ℕ
nat_in (Int (pos n)) = n
nat_in _ = 0

abbrev of_place : Row → KeptRow
of_place r = record { group = bytes (column r 1); kind = nat_in (column r 2); line = bytes (column r 3) }

places_back : (at : ℕ) (rows : List KeptRow) → map of_place (placed_rows at rows) ≡ rows
places_back at [] = refl
places_back at (row ∷ rows) = ap (λ all. row ∷ all) (places_back (at + 1) rows)

pub same_places : (rows others : List KeptRow) → placed_rows 0 rows ≡ placed_rows 0 others → rows ≡ others
same_places rows others h = sym (places_back 0 rows) ∙ ap (map of_place) h ∙ places_back 0 others

abbrev of_pair : Row → ℕ × ℕ
of_pair r = (nat_in (column r 0), nat_in (column r 1))

pairs_back : (steps : List (ℕ × ℕ)) → map of_pair (map step_pair steps) ≡ steps
pairs_back [] = refl
pairs_back (step ∷ steps) = ap (λ all. step ∷ all) (pairs_back steps)

pub same_pairs : (steps others : List (ℕ × ℕ)) → map step_pair steps ≡ map step_pair others → steps ≡ others
same_pairs steps others h = sym (pairs_back steps) ∙ ap (map of_pair) h ∙ pairs_back others
