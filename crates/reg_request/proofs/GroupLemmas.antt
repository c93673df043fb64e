-- The pieces of a text between its commas.
use Rattle.std.proofs.Common.{◌≡◌, ◌≢◌, ℕ, suc, ◌+◌, ◌<◌, ◌==◌, List, [], ◌∷◌, length, take, drop, sym, refl, ap, ◌∙◌, subst, ⊎_elim, arith}
use Rattle.std.specs.List.{position_or_len, before_first, after_first}
use Rattle.std.proofs.lemmas.Bool.{cond-true, cond-false, cases_eq, eq-eqb, ne_eqb}
use Rattle.form_urlencoded.specs.Form.{split_once, onto_first, split}
use Rattle.form_urlencoded.proofs.FormLemmas.{split_once_before_same, split_once_after_same, split_once_before_other, split_once_after_other}

split-nil : (s : ℕ) → split s [] ≡ [] ∷ []
unfolding split
split-nil s = refl

split_same : (s : ℕ) (bs : List ℕ) → split s (s ∷ bs) ≡ [] ∷ split s bs
unfolding split
split_same s bs = cond-true _ _ _ (eq-eqb s s refl)

split_other : (s b : ℕ) (bs : List ℕ) → b ≢ s → split s (b ∷ bs) ≡ onto_first b (split s bs)
unfolding split
split_other s b bs other = cond-false _ _ _ (ne_eqb b s other)

position_other : (s b : ℕ) (bs : List ℕ) → b ≢ s → position_or_len (λ x. x == s) (b ∷ bs) ≡ suc (position_or_len (λ x. x == s) bs)
position_other s b bs other = rw (ne_eqb b s other) (omega arith)

position_same : (s : ℕ) (bs : List ℕ) → position_or_len (λ x. x == s) (s ∷ bs) ≡ 0
position_same s bs = rw (eq-eqb s s refl) refl

-- the piece before the first separator, and the pieces after it
pub split_at : (s : ℕ) (bs : List ℕ) → position_or_len (λ x. x == s) bs < length bs
    → split s bs ≡ before_first (λ x. x == s) bs ∷ split s (after_first (λ x. x == s) bs)
split_at s [] inside = absurd (omega arith)
split_at s (b ∷ bs) inside = ⊎_elim
    (λ same.
    let P : ℕ → Type 0 = λ x. split s (x ∷ bs) ≡ (split_once s (x ∷ bs)).0 ∷ split s ((split_once s (x ∷ bs)).1) in
    subst P (sym same) (rw (split_once_before_same s bs, split_once_after_same s bs) (split_same s bs)))
    (λ other.
    let shorter : position_or_len (λ x. x == s) bs < length bs = omega (arith, position_other s b bs other) in
    let later : split s bs ≡ (split_once s bs).0 ∷ split s ((split_once s bs).1) = split_at s bs shorter in
    split_other s b bs other ∙ ap (onto_first b) later
    ∙ ap (λ t. t ∷ split s ((split_once s bs).1)) (sym (split_once_before_other s b bs other))
    ∙ ap (λ t. (split_once s (b ∷ bs)).0 ∷ split s t) (sym (split_once_after_other s b bs other)))
    (cases_eq b s)

-- no separator, one piece
pub split_whole : (s : ℕ) (bs : List ℕ) → position_or_len (λ x. x == s) bs ≡ length bs → split s bs ≡ bs ∷ []
split_whole s [] none = split-nil s
split_whole s (b ∷ bs) none = ⊎_elim
    (λ same.
    let at = subst (λ (x : ℕ). position_or_len (λ y. y == s) (x ∷ bs) ≡ suc (length bs)) same none in
    absurd (omega (arith, position_same s bs, at)))
    (λ other. split_other s b bs other ∙ ap (onto_first b) (split_whole s bs (omega (arith, position_other s b bs other, none))))
    (cases_eq b s)

-- the piece before the first separator, by its place
pub split_here : (s : ℕ) (bs : List ℕ) (i : ℕ) → position_or_len (λ x. x == s) bs ≡ i → i < length bs
    → split s bs ≡ take i bs ∷ split s (drop (i + 1) bs)
split_here s bs i is inside =
    subst (λ (n : ℕ). split s bs ≡ take n bs ∷ split s (drop (n + 1) bs)) is (split_at s bs (omega arith))
