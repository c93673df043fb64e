-- How many turns a closure takes: in each it takes one row from the work list, or looks at one step beside a row taken.
use Rattle.std.specs.Prelude.{ℕ, ◌+◌, List, Bool, true, false, not, slice_index_or, count_by}

-- the marked rows, and the steps that start at them
abbrev pub turns_of : List Bool → List (ℕ × ℕ) → ℕ
turns_of marks steps = count_by (λ m. m) marks + count_by (λ (p : ℕ × ℕ). slice_index_or marks p.0 false) steps

-- the rows that are not marked, and the steps that end at them
abbrev pub hidden_turns : List Bool → List (ℕ × ℕ) → ℕ
hidden_turns marks steps = count_by not marks + count_by (λ (p : ℕ × ℕ). not (slice_index_or marks p.1 true)) steps
