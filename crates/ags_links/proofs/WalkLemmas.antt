-- Walks put together and taken apart.
use Rattle.std.proofs.Common.{ℕ, List, [], ◌∷◌, refl, sym, subst, ◌↔◌}
use Rattle.ags_links.specs.Walks.{IsWalk, Reaches, IsShown, IsReached}

-- the walk of one row
pub reach_itself : (Step : ℕ → ℕ → Type 0) (r : ℕ) → Reaches Step r r
reach_itself Step r = ([], refl)

-- a step in front
pub reach_first : (Step : ℕ → ℕ → Type 0) (r s t : ℕ) → Step r s → Reaches Step s t → Reaches Step r t
reach_first Step r s t step walk = (s ∷ walk.0, (step, walk.1))

-- what holds of the last row, and of each row from which a step leads to one of which it holds, holds of the first
walk_from : (Step : ℕ → ℕ → Type 0) (P : ℕ → Type 0) (s : ℕ) → P s → ((r t : ℕ) → Step r t → P t → P r) → (r : ℕ) (rows : List ℕ) → IsWalk Step r rows s → P r
walk_from Step P s last back r [] walk = subst P (sym walk) last
walk_from Step P s last back r (x ∷ rows) walk = back r x walk.0 (walk_from Step P s last back x rows walk.1)

-- one walk after another
pub reach_then : (Step : ℕ → ℕ → Type 0) (r s t : ℕ) → Reaches Step r s → Reaches Step s t → Reaches Step r t
reach_then Step r s t walk more = walk_from Step (λ x. Reaches Step x t) s more (λ a b. reach_first Step a b t) r walk.0 walk.1

-- a step at the end
pub reach_last : (Step : ℕ → ℕ → Type 0) (r s t : ℕ) → Reaches Step r s → Step s t → Reaches Step r t
reach_last Step r s t walk step = reach_then Step r s t walk (reach_first Step s t t step (reach_itself Step t))

-- what each step keeps, a walk keeps
pub reach_keeps : (Step : ℕ → ℕ → Type 0) (P : ℕ → Type 0) → ((r s : ℕ) → Step r s → P r → P s) → (r s : ℕ) → Reaches Step r s → P r → P s
reach_keeps Step P closed r s walk = walk_from Step (λ x. P x → P s) s (λ here. here) (λ a b step rest here. rest (closed a b step here)) r walk.0 walk.1

-- steps of a larger relation
pub reach_wider : (Step Wide : ℕ → ℕ → Type 0) → ((r s : ℕ) → Step r s → Wide r s) → (r s : ℕ) → Reaches Step r s → Reaches Wide r s
reach_wider Step Wide wider r s walk = walk_from Step (λ x. Reaches Wide x s) s (reach_itself Wide s) (λ a b step. reach_first Wide a b s (wider a b step)) r walk.0 walk.1

-- ---- under two steps that agree

-- the two steps are the same between any two rows
abbrev pub AreSameSteps : (ℕ → ℕ → Type 0) → (ℕ → ℕ → Type 0) → Type 0
AreSameSteps Step Other = (r s : ℕ) → Step r s ↔ Other r s

pub reaches_same : (Step Other : ℕ → ℕ → Type 0) → AreSameSteps Step Other → (r s : ℕ) → Reaches Step r s ↔ Reaches Other r s
reaches_same Step Other same r s = (reach_wider Step Other (λ a b. (same a b).0) r s, reach_wider Other Step (λ a b. (same a b).1) r s)

pub shown_same : (Step Other : ℕ → ℕ → Type 0) → AreSameSteps Step Other → (IsPermitted : ℕ → Type 0) (r : ℕ) → IsShown Step IsPermitted r ↔ IsShown Other IsPermitted r
shown_same Step Other same IsPermitted r = (λ shown s walk. shown s ((reaches_same Step Other same r s).1 walk), λ shown s walk. shown s ((reaches_same Step Other same r s).0 walk))

pub reached_same : (Step Other : ℕ → ℕ → Type 0) → AreSameSteps Step Other → (IsFrom : ℕ → Type 0) (s : ℕ) → IsReached Step IsFrom s ↔ IsReached Other IsFrom s
reached_same Step Other same IsFrom s = (λ h. (h.0, h.1, (reaches_same Step Other same h.0 s).0 h.2), λ h. (h.0, h.1, (reaches_same Step Other same h.0 s).1 h.2))

-- ---- backwards

-- the walk backwards
pub reach_back : (Step Back : ℕ → ℕ → Type 0) → ((r s : ℕ) → Step r s → Back s r) → (r s : ℕ) → Reaches Step r s → Reaches Back s r
reach_back Step Back back r s walk = walk_from Step (Reaches Back s) s (reach_itself Back s) (λ a b step more. reach_last Back s b a more (back a b step)) r walk.0 walk.1

-- one more row that a reached row leads to is reached
pub reached_more : (Step : ℕ → ℕ → Type 0) (From : ℕ → Type 0) (r s : ℕ) → IsReached Step From r → Step r s → IsReached Step From s
reached_more Step From r s known step = (known.0, known.1, reach_last Step known.0 r s known.2 step)

pub reached_itself : (Step : ℕ → ℕ → Type 0) (From : ℕ → Type 0) (r : ℕ) → From r → IsReached Step From r
reached_itself Step From r from = (r, from, reach_itself Step r)
