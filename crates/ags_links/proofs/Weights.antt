-- The weights of marked rows together.
use Rattle.std.proofs.Common.{◌≡◌, ℕ, zero, suc, ◌+◌, ◌<◌, Bool, true, false, cond, List, [], ◌∷◌, ◌++◌, length, get_or, set, refl, ap, ◌∙◌, arith, count_by, eqb}
use Rattle.std.proofs.lemmas.Bool.{eq-eqb, ne_eqb}
use Rattle.std.proofs.lemmas.List.Sums.{sum_by-cons}
use Rattle.ags_links.specs.Turns.{turns_of}
use Rattle.ags_links.specs.Work.{weigh_from, weigh, targets}

-- one more mark adds its weight
pub weigh_from_set : (w : ℕ → ℕ) (r : ℕ) (marks : List Bool) (i : ℕ) → i < length marks → get_or marks i false ≡ false → weigh_from w r (set marks i true) ≡ weigh_from w r marks + w (r + i)
weigh_from_set w r [] i lt new = absurd (omega arith)
weigh_from_set w r (m ∷ marks) zero lt new = let e : r + 0 ≡ r = omega arith in rw new (omega (arith, ap w e))
weigh_from_set w r (m ∷ marks) (suc i) lt new =
    let e : r + suc i ≡ (r + 1) + i = omega arith in
    let lt' : i < length marks = omega arith in
    omega (arith, ap w e, weigh_from_set w (r + 1) marks i lt' new)

pub weigh_set : (w : ℕ → ℕ) (marks : List Bool) (i : ℕ) → i < length marks → get_or marks i false ≡ false → weigh w (set marks i true) ≡ weigh w marks + w i
weigh_set w marks i lt new = let e : 0 + i ≡ i = omega arith in weigh_from_set w 0 marks i lt new ∙ ap (λ k. weigh w marks + w k) e

-- one more row at the end
pub weigh_from_push : (w : ℕ → ℕ) (r : ℕ) (marks : List Bool) (m : Bool) → weigh_from w r (marks ++ m ∷ []) ≡ weigh_from w r marks + cond m (w (r + length marks)) 0
weigh_from_push w r [] m = let e : r + 0 ≡ r = omega arith in omega (arith, ap (λ k. cond m (w k) 0) e)
weigh_from_push w r (x ∷ marks) m =
    let e : r + suc (length marks) ≡ (r + 1) + length marks = omega arith in
    omega (arith, ap (λ k. cond m (w k) 0) e, weigh_from_push w (r + 1) marks m)

weigh_from_add : (u v : ℕ → ℕ) (r : ℕ) (marks : List Bool) → weigh_from (λ k. u k + v k) r marks ≡ weigh_from u r marks + weigh_from v r marks
weigh_from_add u v r [] = omega arith
weigh_from_add u v r (m ∷ marks) = grind (arith, weigh_from_add u v (r + 1) marks)

-- each weight 1: the number of marked rows
pub weigh_one : (r : ℕ) (marks : List Bool) → weigh_from (λ _. 1) r marks ≡ count_by (λ m. m) marks
weigh_one r [] = refl
weigh_one r (m ∷ marks) = omega (arith, weigh_one (r + 1) marks, sum_by-cons (λ (x : Bool). cond x 1 0) m marks)

-- weight on one row alone
abbrev at_row : ℕ → ℕ → ℕ
at_row a r = cond (eqb a r) 1 0

weigh_from_past : (a r : ℕ) (marks : List Bool) → a < r → weigh_from (at_row a) r marks ≡ 0
weigh_from_past a r [] lt = refl
weigh_from_past a r (m ∷ marks) lt = rw (ne_eqb a r (λ e. omega arith)) (grind (arith, weigh_from_past a (r + 1) marks (omega arith)))

weigh_from_at : (a k r : ℕ) (marks : List Bool) → a ≡ r + k → weigh_from (at_row a) r marks ≡ cond (get_or marks k false) 1 0
weigh_from_at a k r [] e = refl
weigh_from_at a zero r (m ∷ marks) e = rw (eq-eqb a r (omega arith)) (omega (arith, weigh_from_past a (r + 1) marks (omega arith)))
weigh_from_at a (suc k) r (m ∷ marks) e = rw (ne_eqb a r (λ d. omega arith)) (grind (arith, weigh_from_at a k (r + 1) marks (omega arith)))

-- how many steps start at a row
unfoldable pub degree : List (ℕ × ℕ) → ℕ → ℕ
degree steps r = length (targets steps r)

degree_cons : (p : ℕ × ℕ) (steps : List (ℕ × ℕ)) (r : ℕ) → degree (p ∷ steps) r ≡ at_row p.0 r + degree steps r
unfolding degree
degree_cons p steps r = grind arith

weigh_degree : (steps : List (ℕ × ℕ)) (marks : List Bool) → weigh (degree steps) marks ≡ count_by (λ (p : ℕ × ℕ). get_or marks p.0 false) steps
unfolding degree
weigh_degree [] marks = omega (arith, weigh_from_add (λ _. 0) (λ _. 0) 0 marks)
weigh_degree (p ∷ steps) marks =
    let zero_more : p.0 ≡ 0 + p.0 = omega arith in
    let split : degree (p ∷ steps) ≡ (λ r. at_row p.0 r + degree steps r) = (λ i r. degree_cons p steps r i) in
    omega (arith, ap (λ w. weigh w marks) split, weigh_from_add (at_row p.0) (degree steps) 0 marks, weigh_from_at p.0 p.0 0 marks zero_more, weigh_degree steps marks, sum_by-cons (λ (q : ℕ × ℕ). cond (get_or marks q.0 false) 1 0) p steps)

-- one for each marked row, and one for each step that starts at one
pub weigh_turns : (steps : List (ℕ × ℕ)) (marks : List Bool) → weigh (λ r. 1 + degree steps r) marks ≡ turns_of marks steps
weigh_turns steps marks = omega (arith, weigh_from_add (λ _. 1) (degree steps) 0 marks, weigh_one 0 marks, weigh_degree steps marks)
