-- What the helpers of the work list promise one another.
use Rattle.std.specs.Prelude.{◌≡◌, ℕ, ◌<◌, ◌+◌, ◌==◌, List, [], ◌∷◌, Bool, Contains, slice_index_or, All, map, filter, length, sum_by, if◌then◌else◌, ◌⊎◌, Vec}
use Rattle.std.specs.declared.alloc.Global.{Global}
use Rattle.ags_links.specs.Walks.{IsMarked}

-- where the steps of a row lead, in their order
abbrev pub targets : List (ℕ × ℕ) → ℕ → List ℕ
targets steps r = map (λ (p : ℕ × ℕ). p.1) (filter (λ (p : ℕ × ℕ). p.0 == r) steps)

-- each row's list has its targets
abbrev pub IsAdjacency : List (ℕ × ℕ) → List (Vec ℕ Global) → Type 0
IsAdjacency steps beside =
    (r : ℕ) (d : Vec ℕ Global) → r < length beside → (slice_index_or beside r d).items ≡ targets steps r

-- the step the other way round
abbrev pub swapped : ℕ × ℕ → ℕ × ℕ
swapped p = (p.1, p.0)

abbrev pub weigh_from : (ℕ → ℕ) → ℕ → List Bool → ℕ
weigh_from w r [] = 0
weigh_from w r (m ∷ marks) = (if m then w r else 0) + weigh_from w (r + 1) marks

-- the weights of the marked rows together
abbrev pub weigh : (ℕ → ℕ) → List Bool → ℕ
weigh w marks = weigh_from w 0 marks

-- each row of the list has been looked at: it is marked, and on the work list if it was not marked before;
-- whatever rows weigh, what is marked and does not wait weighs the same as before
pub record Looked (beside : List ℕ) (old new : List Bool) (before after : List ℕ) : Type 0 where
  pub grows : (r : ℕ) → IsMarked old r → IsMarked new r
  pub each : All (IsMarked new) beside
  pub only : (r : ℕ) → IsMarked new r → IsMarked old r ⊎ (Contains beside r × Contains after r)
  pub work_grows : (r : ℕ) → Contains before r → Contains after r
  pub work_only : (r : ℕ) → Contains after r → Contains before r ⊎ IsMarked new r
  pub balance : (w : ℕ → ℕ) → weigh w old + sum_by w after ≡ weigh w new + sum_by w before
