-- The marked rows below a number.
use Rattle.std.proofs.Common.{◌≡◌, ℕ, ◌+◌, ◌<◌, Bool, true, false, List, [], ◌∷◌, ◌++◌, length, get_or, take, sym, subst, ap, ◌∙◌, arith, inl, inr, Contains, sum_by, below_more}
use Rattle.std.proofs.lemmas.Bool.{true≢false}
use Rattle.std.proofs.lemmas.List.{take_more, length-take-le}
use Rattle.std.proofs.lemmas.List.Elements.{Contains-push, Contains-append_left, Contains-push_cases}
use Rattle.std.proofs.lemmas.List.Sums.{sum_by_push}
use Rattle.ags_links.specs.Walks.{IsMarked}
use Rattle.ags_links.specs.Work.{weigh}
use Rattle.ags_links.proofs.Weights.{weigh_from_push}

pub record RowsSoFar (marks : List Bool) (i : ℕ) (work : List ℕ) : Type 0 where
  pub marked : (r : ℕ) → Contains work r → IsMarked marks r
  pub all : (r : ℕ) → r < i → IsMarked marks r → Contains work r
  pub weight : (w : ℕ → ℕ) → sum_by w work ≡ weigh w (take i marks)

weigh_next : (w : ℕ → ℕ) (marks : List Bool) (i : ℕ) (m : Bool) → i < length marks → get_or marks i false ≡ m → weigh w (take (i + 1) marks) ≡ weigh w (take i marks ++ m ∷ [])
weigh_next w marks i m lt is = ap (weigh w) (take_more marks i false lt) ∙ ap (λ b. weigh w (take i marks ++ b ∷ [])) is

pub rows_over : (marks : List Bool) (i : ℕ) (work : List ℕ) → RowsSoFar marks i work → i < length marks → get_or marks i false ≡ false → RowsSoFar marks (i + 1) work
rows_over marks i work so_far lt is = record {
  marked = so_far.marked;
  all = below_more _ i so_far.all (λ h. absurd (true≢false (sym h ∙ is)));
  weight = λ w. omega (arith, so_far.weight w, weigh_next w marks i false lt is, weigh_from_push w 0 (take i marks) false);
}

pub rows_more : (marks : List Bool) (i : ℕ) (work : List ℕ) → RowsSoFar marks i work → i < length marks → get_or marks i false ≡ true → RowsSoFar marks (i + 1) (work ++ i ∷ [])
rows_more marks i work so_far lt is = record {
  marked = λ r h. elim (Contains-push_cases work i r h) [ inl was ↦ so_far.marked r was | inr e ↦ subst (IsMarked marks) e is ];
  all = below_more _ i (λ r below h. Contains-append_left work (i ∷ []) r (so_far.all r below h)) (λ h. Contains-push work i);
  weight = λ w.
      let len : 0 + length (take i marks) ≡ i = omega (arith, length-take-le i marks (omega arith)) in
      omega (arith, so_far.weight w, weigh_next w marks i true lt is, weigh_from_push w 0 (take i marks) true, ap w len, sum_by_push w work i);
}
