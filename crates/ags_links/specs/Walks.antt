-- Walks over numbered rows: what a row reaches, and which rows lead to permitted rows alone.
-- What is said here holds of any steps, rings included.
use Rattle.std.specs.Prelude.{◌≡◌, ◌↔◌, ℕ, ◌<◌, List, [], ◌∷◌, Bool, true, false, Contains, slice_index_or, All}

-- a graph as contracts see it: how many rows there are, and the steps as they were given
pub record StepGraph : Type 0 where
  pub rows : ℕ
  pub steps : List (ℕ × ℕ)

-- both ends of each step are rows
abbrev pub InRange : ℕ → List (ℕ × ℕ) → Type 0
InRange rows steps = All (λ p. (p.0 < rows) × (p.1 < rows)) steps

-- the list has a step from r to s
abbrev pub HasStep : List (ℕ × ℕ) → ℕ → ℕ → Type 0
HasStep steps r s = Contains steps (r, s)

-- r and then these rows lead to s: each neighbour is one step on
abbrev pub IsWalk : (ℕ → ℕ → Type 0) → ℕ → List ℕ → ℕ → Type 0
IsWalk Step r [] s = r ≡ s
IsWalk Step r (t ∷ rows) s = Step r t × IsWalk Step t rows s

-- there is a finite list of rows from r to s with a step between neighbours; the list of r alone leads to r
abbrev pub Reaches : (ℕ → ℕ → Type 0) → ℕ → ℕ → Type 0
Reaches Step r s = (rows : List ℕ) × IsWalk Step r rows s

-- the row is marked
abbrev pub IsMarked : List Bool → ℕ → Type 0
IsMarked marks r = slice_index_or marks r false ≡ true

-- every row that r reaches, r itself included, is permitted
abbrev pub IsShown : (ℕ → ℕ → Type 0) → (ℕ → Type 0) → ℕ → Type 0
IsShown Step IsPermitted r = (s : ℕ) → Reaches Step r s → IsPermitted s

-- some row of those that the walks start from reaches s
abbrev pub IsReached : (ℕ → ℕ → Type 0) → (ℕ → Type 0) → ℕ → Type 0
IsReached Step IsFrom s = (r : ℕ) × IsFrom r × Reaches Step r s

-- the marked rows are exactly those that some row of those marked in from reaches
abbrev pub AreReachedFrom : List (ℕ × ℕ) → List Bool → List Bool → Type 0
AreReachedFrom steps from marks = (s : ℕ) → IsMarked marks s ↔ IsReached (HasStep steps) (IsMarked from) s

-- of the rows of the graph exactly those are marked from which only permitted rows are reached
abbrev pub AreShownUnder : StepGraph → List Bool → List Bool → Type 0
AreShownUnder graph permitted marks =
    (r : ℕ) → r < graph.rows → IsMarked marks r ↔ IsShown (HasStep graph.steps) (IsMarked permitted) r
