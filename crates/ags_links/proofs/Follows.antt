-- The work list, from turn to turn.
use Rattle.std.proofs.Common.{◌≡◌, ℕ, ◌+◌, ◌<◌, ◌≤◌, Bool, false, not, cond, List, [], ◌∷◌, ◌++◌, length, get_or, refl, sym, subst, arith, inl, inr, ◌⊎◌, ◌↔◌, Contains, sum_by, count_by}
use Rattle.std.proofs.lemmas.List.{length_push}
use Rattle.std.proofs.lemmas.List.Elements.{All-contains, Contains-push_cases, Contains-append_left, Contains-push}
use Rattle.std.proofs.lemmas.List.Sums.{sum_by_push, sum_by-cons, count_by-le-length}
use Rattle.ags_links.specs.Walks.{IsMarked, HasStep, IsReached}
use Rattle.ags_links.specs.Turns.{turns_of}
use Rattle.ags_links.specs.Work.{Looked, weigh, targets}
use Rattle.ags_links.proofs.Weights.{weigh_turns, weigh_one, degree}
use Rattle.ags_links.proofs.WalkLemmas.{reach_keeps, reached_more}
use Rattle.ags_links.proofs.Members.{target_of_step, step_of_target}

-- one for a row, and one for each step that starts at it
abbrev pub cost : List (ℕ × ℕ) → ℕ → ℕ
cost steps r = 1 + degree steps r

pub record Following (steps : List (ℕ × ℕ)) (from marks : List Bool) (work : List ℕ) (turns : ℕ) : Type 0 where
  pub grows : (r : ℕ) → IsMarked from r → IsMarked marks r
  pub sound : (s : ℕ) → IsMarked marks s → IsReached (HasStep steps) (IsMarked from) s
  pub marked : (r : ℕ) → Contains work r → IsMarked marks r
  pub open' : (r s : ℕ) → HasStep steps r s → IsMarked marks r → Contains work r ⊎ IsMarked marks s
  pub balance : turns + sum_by (cost steps) work ≡ weigh (cost steps) marks

-- one row is taken, and the steps beside it are looked at
pub follow_more : (steps : List (ℕ × ℕ)) (from marks : List Bool) (work : List ℕ) (turns row : ℕ) (more : List Bool) (next : List ℕ) → Following steps from marks (work ++ row ∷ []) turns → Looked (targets steps row) marks more work next → Following steps from more next (turns + 1 + length (targets steps row))
unfolding degree
follow_more steps from marks work turns row more next so_far looked =
    let here : IsMarked marks row = so_far.marked row (Contains-push work row) in
    record {
      grows = λ r h. looked.grows r (so_far.grows r h);
      sound = λ s h. elim (looked.only s h) [
        | inl was ↦ so_far.sound s was
        | inr new ↦ reached_more (HasStep steps) (IsMarked from) row s (so_far.sound row here) (step_of_target steps row s new.0)
      ];
      marked = λ r h. elim (looked.work_only r h) [
        | inl was ↦ looked.grows r (so_far.marked r (Contains-append_left work (row ∷ []) r was))
        | inr new ↦ new
      ];
      open' = λ r s step h. elim (looked.only r h) [
        | inl was ↦ elim (so_far.open' r s step was) [
          | inl waiting ↦ elim (Contains-push_cases work row r waiting) [
            | inl still ↦ inl (looked.work_grows r still)
            | inr e ↦ inr (All-contains (IsMarked more) (targets steps row) s looked.each (target_of_step steps row s (subst (λ x. HasStep steps x s) (sym e) step)))
          ]
          | inr closed ↦ inr (looked.grows s closed)
        ]
        | inr new ↦ inl new.1
      ];
      balance = omega (arith, so_far.balance, looked.balance (cost steps), sum_by_push (cost steps) work row);
    }

-- what the start has, each step keeps and nothing else has is what is reached
pub follow_ends : (steps : List (ℕ × ℕ)) (from marks : List Bool) (turns : ℕ) → Following steps from marks [] turns → (s : ℕ) → IsMarked marks s ↔ IsReached (HasStep steps) (IsMarked from) s
follow_ends steps from marks turns so_far s =
    let closed : (r t : ℕ) → HasStep steps r t → IsMarked marks r → IsMarked marks t =
    λ r t step h. elim (so_far.open' r t step h) [ inl waiting ↦ absurd (omega (arith, waiting.1)) | inr here ↦ here ] in
    (so_far.sound s, λ h. reach_keeps (HasStep steps) (IsMarked marks) closed h.0 s h.2 (so_far.grows h.0 h.1))

pub follow_turns : (steps : List (ℕ × ℕ)) (from marks : List Bool) (turns : ℕ) → Following steps from marks [] turns → turns ≡ turns_of marks steps
follow_turns steps from marks turns so_far = omega (arith, so_far.balance, weigh_turns steps marks)

count_and_not : (marks : List Bool) → count_by (λ m. m) marks + count_by not marks ≡ length marks
count_and_not [] = omega arith
count_and_not (m ∷ marks) = grind (arith, count_and_not marks, sum_by-cons (λ (x : Bool). cond x 1 0) m marks, sum_by-cons (λ (x : Bool). cond (not x) 1 0) m marks)

ones : (rows : List ℕ) → sum_by (λ _. 1) rows ≡ length rows
ones [] = refl
ones (r ∷ rows) = omega (arith, ones rows, sum_by-cons (λ (_ : ℕ). 1) r rows)

-- fewer rows are unmarked or wait
pub follow_falls : (beside : List ℕ) (marks more : List Bool) (work next : List ℕ) (row : ℕ) → length more ≡ length marks → Looked beside marks more work next → count_by not more + length next < count_by not marks + length (work ++ row ∷ [])
follow_falls beside marks more work next row len looked =
    omega (arith, looked.balance (λ _. 1), weigh_one 0 marks, weigh_one 0 more, count_and_not marks, count_and_not more, ones next, ones work, length_push work row)

-- the turns fit
pub follow_fits : (steps : List (ℕ × ℕ)) (from marks : List Bool) (work : List ℕ) (turns row : ℕ) → Following steps from marks (work ++ row ∷ []) turns → turns + 1 + length (targets steps row) ≤ length marks + length steps
unfolding degree
follow_fits steps from marks work turns row so_far =
    omega (arith, so_far.balance, sum_by_push (cost steps) work row, weigh_turns steps marks, count_by-le-length (λ (m : Bool). m) marks, count_by-le-length (λ (p : ℕ × ℕ). get_or marks p.0 false) steps)
