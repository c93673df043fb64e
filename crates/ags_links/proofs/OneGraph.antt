-- A file has one graph: its steps are sorted, so that one list has them.
use Rattle.std.proofs.Common.{◌≡◌, ℕ, suc, ◌+◌, ◌<◌, List, [], ◌∷◌, length, refl, sym, ap, subst, ◌∙◌, arith, inl, inr, Contains}
use Rattle.std.specs.Prelude.{◌⊎◌, slice_index_or}
use Rattle.std.specs.List.{AllByRecursion}
use Rattle.std.proofs.lemmas.List.Elements.{All-from_recursion, recursion_from_All, All-weaker, All-contains}
use Rattle.ags_links.specs.Laws.{OneGraph}
use Rattle.ags_links.specs.Steps.{IsBefore, AreAscending, ListsSteps, StepAt}
use Rattle.ags_links.proofs.Members.{contains_head, contains_tail, contains_cons}

pub before_then : (p q r : ℕ × ℕ) → IsBefore p q → IsBefore q r → IsBefore p r
before_then p q r (inl a) (inl b) = inl (omega (arith, a, b))
before_then p q r (inl a) (inr b) = inl (omega (arith, a, b.0))
before_then p q r (inr a) (inl b) = inl (omega (arith, a.0, b))
before_then p q r (inr a) (inr b) = inr (a.0 ∙ b.0, omega (arith, a.1, b.1))

pub never_before : (p : ℕ × ℕ) → IsBefore p p → ⊥
never_before p (inl a) = absurd (omega (arith, a))
never_before p (inr a) = absurd (omega (arith, a.1))

pub neighbours_ascend : (xs : List (ℕ × ℕ)) → ((k : ℕ) → k + 1 < length xs → IsBefore (slice_index_or xs k (0, 0)) (slice_index_or xs (k + 1) (0, 0))) → AreAscending xs
neighbours_ascend [] h = tt
neighbours_ascend (x ∷ []) h = (tt, tt)
neighbours_ascend (x ∷ y ∷ xs) h =
    let first : IsBefore x y = h 0 (omega arith) in
    let later = λ (k : ℕ) (low : k + 1 < length (y ∷ xs)). (let e : suc k + 1 ≡ suc (k + 1) = omega arith in subst (λ (j : ℕ). IsBefore (slice_index_or (y ∷ xs) k (0, 0)) (slice_index_or (x ∷ y ∷ xs) j (0, 0))) e (h (suc k) (omega (arith, low)))) in
    let rest = neighbours_ascend (y ∷ xs) later in
    ((first, recursion_from_All (IsBefore x) xs (All-weaker (IsBefore y) (IsBefore x) (λ z after. before_then x y z first after) xs (All-from_recursion (IsBefore y) xs rest.0))), rest)

is_before : (x f : ℕ × ℕ) (xs : List (ℕ × ℕ)) → AllByRecursion (IsBefore x) xs → Contains xs f → IsBefore x f
is_before x f xs h k = All-contains (IsBefore x) xs f (All-from_recursion (IsBefore x) xs h) k

in_rest : (x y : ℕ × ℕ) (xs ys : List (ℕ × ℕ)) → x ≡ y → AllByRecursion (IsBefore x) xs → ((f : ℕ × ℕ) → Contains (x ∷ xs) f → Contains (y ∷ ys) f) → (f : ℕ × ℕ) → Contains xs f → Contains ys f
in_rest x y xs ys e less both f h = elim (contains_cons y ys f (both f (contains_tail x xs f h))) [
  | inl k ↦ absurd (never_before x (subst (IsBefore x) (sym (e ∙ k)) (is_before x f xs less h)))
  | inr k ↦ k
]

firsts_same : (x y : ℕ × ℕ) (xs ys : List (ℕ × ℕ)) → AllByRecursion (IsBefore x) xs → AllByRecursion (IsBefore y) ys → (x ≡ y) ⊎ Contains xs y → (y ≡ x) ⊎ Contains ys x → x ≡ y
firsts_same x y xs ys a b (inl e) k = e
firsts_same x y xs ys a b (inr h) (inl e) = sym e
firsts_same x y xs ys a b (inr h) (inr k) = absurd (never_before x (before_then x y x (is_before x y xs a h) (is_before y x ys b k)))

same_ascending : (xs ys : List (ℕ × ℕ)) → AreAscending xs → AreAscending ys → ((f : ℕ × ℕ) → Contains xs f → Contains ys f) → ((f : ℕ × ℕ) → Contains ys f → Contains xs f) → xs ≡ ys
same_ascending [] [] a b there back = refl
same_ascending [] (y ∷ ys) a b there back = absurd (omega (arith, (back y (contains_head y ys)).1))
same_ascending (x ∷ xs) [] a b there back = absurd (omega (arith, (there x (contains_head x xs)).1))
same_ascending (x ∷ xs) (y ∷ ys) a b there back =
    let e = firsts_same x y xs ys a.0 b.0 (contains_cons x xs y (back y (contains_head y ys))) (contains_cons y ys x (there x (contains_head x xs))) in
    let rest = same_ascending xs ys a.1 b.1 (in_rest x y xs ys e a.0 there) (in_rest y x ys xs (sym e) b.0 back) in
    ap (λ (z : ℕ × ℕ). z ∷ xs) e ∙ ap (λ (z : List (ℕ × ℕ)). y ∷ z) rest

pub steps_ascend : (steps : List (ℕ × ℕ)) (IsOne : ℕ → ℕ → Type 0) → ListsSteps steps IsOne → AreAscending steps
steps_ascend steps IsOne h = neighbours_ascend steps h.sorted

-- one relation is listed by one list of steps
pub one_list_of_steps : (steps others : List (ℕ × ℕ)) (IsOne : ℕ → ℕ → Type 0) → ListsSteps steps IsOne → ListsSteps others IsOne → steps ≡ others
one_list_of_steps steps others IsOne a b =
    same_ascending steps others (steps_ascend steps IsOne a) (steps_ascend others IsOne b) (λ f h. (b.exact f.0 f.1).1 ((a.exact f.0 f.1).0 h)) (λ f h. (a.exact f.0 f.1).1 ((b.exact f.0 f.1).0 h))

pub one_graph : OneGraph
one_graph file graph other a b =
    let rows = a.rows ∙ sym b.rows in
    let steps = one_list_of_steps graph.steps other.steps (StepAt file) a.steps b.steps in
    λ i. record { rows = rows i; steps = steps i }
