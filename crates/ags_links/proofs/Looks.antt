-- Steps beside a row, looked at one after another.
use Rattle.std.proofs.Common.{◌≡◌, ℕ, ◌+◌, ◌<◌, Bool, true, false, List, [], ◌∷◌, ◌++◌, length, get_or, set, take, sym, subst, arith, inl, inr, Contains}
use Rattle.std.proofs.lemmas.List.Elements.{All-push, All-weaker, Contains-push, Contains-append_left, Contains-push_cases}
use Rattle.std.proofs.lemmas.List.{take_more}
use Rattle.std.proofs.lemmas.List.Sums.{sum_by_push}
use Rattle.ags_links.specs.Walks.{IsMarked}
use Rattle.ags_links.specs.Work.{Looked}
use Rattle.ags_links.proofs.Marks.{mark_grows, mark_cases, mark_same}
use Rattle.ags_links.proofs.Weights.{weigh_set}

-- a step to a marked row
look_over : (seen : List ℕ) (t : ℕ) (old marks : List Bool) (before work : List ℕ) → Looked seen old marks before work → IsMarked marks t → Looked (seen ++ t ∷ []) old marks before work
look_over seen t old marks before work so_far here = record {
  grows = so_far.grows;
  each = All-push (IsMarked marks) seen t so_far.each here;
  only = λ r h. elim (so_far.only r h) [ inl was ↦ inl was | inr new ↦ inr (Contains-append_left seen (t ∷ []) r new.0, new.1) ];
  work_grows = so_far.work_grows;
  work_only = so_far.work_only;
  balance = so_far.balance;
}

-- a step to a row that was not marked
look_marks : (seen : List ℕ) (t : ℕ) (old marks : List Bool) (before work : List ℕ) → Looked seen old marks before work → t < length marks → get_or marks t false ≡ false → Looked (seen ++ t ∷ []) old (set marks t true) before (work ++ t ∷ [])
look_marks seen t old marks before work so_far row new = record {
  grows = λ r h. mark_grows marks t r (so_far.grows r h);
  each = All-push (IsMarked (set marks t true)) seen t (All-weaker (IsMarked marks) (IsMarked (set marks t true)) (mark_grows marks t) seen so_far.each) (mark_same marks t row);
  only = λ r h. elim (mark_cases marks t r h) [
    | inl was ↦ elim (so_far.only r was) [ inl older ↦ inl older | inr newer ↦ inr (Contains-append_left seen (t ∷ []) r newer.0, Contains-append_left work (t ∷ []) r newer.1) ]
    | inr e ↦ inr (subst (λ x. Contains (seen ++ t ∷ []) x × Contains (work ++ t ∷ []) x) (sym e) (Contains-push seen t, Contains-push work t))
  ];
  work_grows = λ r h. Contains-append_left work (t ∷ []) r (so_far.work_grows r h);
  work_only = λ r h. elim (Contains-push_cases work t r h) [
    | inl was ↦ elim (so_far.work_only r was) [ inl older ↦ inl older | inr marked ↦ inr (mark_grows marks t r marked) ]
    | inr e ↦ inr (subst (IsMarked (set marks t true)) e (mark_same marks t row))
  ];
  balance = λ w. omega (arith, so_far.balance w, weigh_set w marks t row new, sum_by_push w work t);
}

-- the same for the next row of a list
pub look_over_next : (beside : List ℕ) (i : ℕ) (old marks : List Bool) (before work : List ℕ) → i < length beside → Looked (take i beside) old marks before work → IsMarked marks (get_or beside i 0) → Looked (take (i + 1) beside) old marks before work
look_over_next beside i old marks before work lt so_far here = subst (λ seen. Looked seen old marks before work) (sym (take_more beside i 0 lt)) (look_over (take i beside) (get_or beside i 0) old marks before work so_far here)

pub look_marks_next : (beside : List ℕ) (i : ℕ) (old marks : List Bool) (before work : List ℕ) → i < length beside → Looked (take i beside) old marks before work → get_or beside i 0 < length marks → get_or marks (get_or beside i 0) false ≡ false → Looked (take (i + 1) beside) old (set marks (get_or beside i 0) true) before (work ++ get_or beside i 0 ∷ [])
look_marks_next beside i old marks before work lt so_far row new = subst (λ seen. Looked seen old (set marks (get_or beside i 0) true) before (work ++ get_or beside i 0 ∷ [])) (sym (take_more beside i 0 lt)) (look_marks (take i beside) (get_or beside i 0) old marks before work so_far row new)
