-- Shown rows are those that no row which is not permitted is reached from.
use Rattle.std.proofs.Common.{◌≡◌, ℕ, zero, suc, ◌<◌, Bool, true, false, not, cond, List, [], ◌∷◌, length, get_or, map, refl, sym, subst, ap, ◌∙◌, arith, inl, inr, ◌↔◌, Contains, count_by}
use Rattle.std.proofs.lemmas.Bool.{cases_Bool, true≢false}
use Rattle.std.proofs.lemmas.List.{get_or-map}
use Rattle.std.proofs.lemmas.List.Elements.{All-contains, All-map}
use Rattle.std.proofs.lemmas.List.Sums.{sum_by-cons}
use Rattle.ags_links.specs.Walks.{IsMarked, HasStep, Reaches, IsReached, IsShown, InRange}
use Rattle.ags_links.specs.Turns.{turns_of, hidden_turns}
use Rattle.ags_links.specs.Work.{swapped}
use Rattle.ags_links.proofs.Members.{contains_map, map_contains}
use Rattle.ags_links.proofs.WalkLemmas.{reach_back, reach_keeps}

-- in range the other way
pub back_range : (n : ℕ) (steps : List (ℕ × ℕ)) → InRange n steps → InRange n (map swapped steps)
back_range n steps range = All-map (λ (p : ℕ × ℕ). (p.0 < n) × (p.1 < n)) swapped steps (λ k d lt. ((range k d lt).1, (range k d lt).0))

step_back : (steps : List (ℕ × ℕ)) (r s : ℕ) → HasStep steps r s → HasStep (map swapped steps) s r
step_back steps r s step = contains_map swapped steps (r, s) step

back_step : (steps : List (ℕ × ℕ)) (s r : ℕ) → HasStep (map swapped steps) s r → HasStep steps r s
back_step steps s r step =
    let from = map_contains swapped steps (s, r) step in
    let same : from.0 ≡ (r, s) = ap (λ (p : ℕ × ℕ). (p.1, p.0)) from.2 in
    subst (Contains steps) same from.1

-- a mark the other way
not_at : (marks : List Bool) (k : ℕ) → k < length marks → get_or (map not marks) k false ≡ not (get_or marks k false)
not_at marks k lt = get_or-map not marks k false false lt

-- what is reached from a row is a row
reach_below : (n : ℕ) (steps : List (ℕ × ℕ)) → InRange n steps → (r s : ℕ) → Reaches (HasStep steps) r s → r < n → s < n
reach_below n steps range r s walk lt = reach_keeps (HasStep steps) (λ x. x < n) (λ a b step _. (All-contains (λ (p : ℕ × ℕ). (p.0 < n) × (p.1 < n)) steps (a, b) range step).1) r s walk lt

-- shown is where nothing that is denied leads back to the row
pub shown_iff : (n : ℕ) (steps : List (ℕ × ℕ)) (permitted hidden : List Bool) → InRange n steps → length permitted ≡ n → length hidden ≡ n → ((s : ℕ) → IsMarked hidden s ↔ IsReached (HasStep (map swapped steps)) (IsMarked (map not permitted)) s) → (r : ℕ) → r < n → IsMarked (map not hidden) r ↔ IsShown (HasStep steps) (IsMarked permitted) r
shown_iff n steps permitted hidden range rows same_rows back r lt = (
  λ marked s walk. elim (cases_Bool (get_or permitted s false)) [
    | inl is_on ↦ is_on
    | inr is_off ↦
        let below : s < length permitted = omega (arith, reach_below n steps range r s walk lt) in
        let denied : IsMarked (map not permitted) s = not_at permitted s below ∙ ap not is_off in
        let is_hidden : IsMarked hidden r = (back r).1 (s, denied, reach_back (HasStep steps) (HasStep (map swapped steps)) (step_back steps) r s walk) in
        absurd (true≢false (sym marked ∙ not_at hidden r (omega arith) ∙ ap not is_hidden))
  ],
  λ shown. elim (cases_Bool (get_or hidden r false)) [
    | inl is_on ↦
        let from = (back r).0 is_on in
        let walk : Reaches (HasStep steps) r from.0 = reach_back (HasStep (map swapped steps)) (HasStep steps) (back_step steps) from.0 r from.2 in
        let below : from.0 < length permitted = omega (arith, reach_below n steps range r from.0 walk lt) in
        absurd (true≢false (sym from.1 ∙ not_at permitted from.0 below ∙ ap not (shown from.0 walk)))
    | inr is_off ↦ not_at hidden r (omega arith) ∙ ap not is_off
  ],
)

count_not : (marks : List Bool) → count_by not (map not marks) ≡ count_by (λ m. m) marks
count_not [] = refl
count_not (m ∷ marks) = grind (arith, count_not marks, sum_by-cons (λ (x : Bool). cond (not x) 1 0) (not m) (map not marks), sum_by-cons (λ (x : Bool). cond x 1 0) m marks)

not_read : (marks : List Bool) (k : ℕ) → not (get_or (map not marks) k true) ≡ get_or marks k false
not_read [] k = refl
not_read (m ∷ marks) zero = grind arith
not_read (m ∷ marks) (suc k) = not_read marks k

count_ends : (marks : List Bool) (steps : List (ℕ × ℕ)) → count_by (λ (p : ℕ × ℕ). not (get_or (map not marks) p.1 true)) steps ≡ count_by (λ (p : ℕ × ℕ). get_or marks p.0 false) (map swapped steps)
count_ends marks [] = refl
count_ends marks (p ∷ steps) = omega (arith, count_ends marks steps, sum_by-cons (λ (q : ℕ × ℕ). cond (not (get_or (map not marks) q.1 true)) 1 0) p steps, sum_by-cons (λ (q : ℕ × ℕ). cond (get_or marks q.0 false) 1 0) (swapped p) (map swapped steps), ap (λ x. cond {A = ℕ} x 1 0) (not_read marks p.1))

-- the turns backwards are those of the rows that are not shown
pub shown_turns : (marks : List Bool) (steps : List (ℕ × ℕ)) → turns_of marks (map swapped steps) ≡ hidden_turns (map not marks) steps
shown_turns marks steps = omega (arith, count_not marks, count_ends marks steps)
