-- A reader takes a part off the front of a text: laws of readers one after another.
use Rattle.std.proofs.Common.{◌≡◌, ℕ, Bool, true, false, cond, eqb, ◌||◌, ◌≤◌, List, [], ◌∷◌, ◌++◌, codes, Option, Some, None, Decides, refl, sym, ap, ◌∙◌, subst, ◌⊎◌, inl, inr, append_assoc, append-nil, arith}
use Rattle.std.proofs.lemmas.Bool.{false≢true}
use Rattle.std.proofs.lemmas.Bool.Decides.{eqb_tells, nat_tests}
use Rattle.std.specs.Char.{is_ascii_digit, char_set_contains}
use Rattle.ags_cells.specs.Bytes.{plus_sign, hyphen, digit}
use Rattle.ags_cells.specs.Parts.{◌⨾◌, Optional, OneByteOf, Sign}
use Rattle.ags_cells.specs.Readers.{◌>>=◌, then_rest, is_empty, after_sign, after_mark}

-- s takes a text of P off the front of a text, where what follows is of Stop
pub record Strips (s : List ℕ → Option (List ℕ)) (P Stop : List ℕ → Type 0) : Type 0 where
  pub sound : (t r : List ℕ) → s t ≡ Some r → (a : List ℕ) × (t ≡ a ++ r) × P a
  pub complete : (a r : List ℕ) → P a → Stop r → s (a ++ r) ≡ Some r

seq_sound : {P Q Stop Later : List ℕ → Type 0} (s u : List ℕ → Option (List ℕ)) → Strips s P Stop → Strips u Q Later
    → (t r : List ℕ) (o : Option (List ℕ)) → s t ≡ o → (o >>= u) ≡ Some r → (a : List ℕ) × (t ≡ a ++ r) × (P ⨾ Q) a
seq_sound s u h k t r None e f = cc
seq_sound s u h k t r (Some m) e f =
    let (a, ta, pa) = h.sound t m e in
    let (b, mb, qb) = k.sound m r f in
    (a ++ b, ta ∙ ap (λ x. a ++ x) mb ∙ sym (append_assoc a b r), (a, b, refl, pa, qb))

-- one reader after another
pub seq : {P Q Stop Later : List ℕ → Type 0} (s u : List ℕ → Option (List ℕ)) → Strips s P Stop → Strips u Q Later
    → ((a r : List ℕ) → Q a → Later r → Stop (a ++ r)) → Strips (λ t. s t >>= u) (P ⨾ Q) Later
seq s u h k join = record {
  sound = λ t r e. seq_sound s u h k t r (s t) refl e;
  complete = λ c r w stop.
      let (a, b, split, pa, qb) = w in
      let e : s (c ++ r) ≡ Some (b ++ r) =
      ap s (ap (λ x. x ++ r) split ∙ append_assoc a b r) ∙ h.complete a (b ++ r) pa (join b r qb stop) in
      rw e (k.complete b r qb stop);
}

whole_yes : {P Stop : List ℕ → Type 0} (s : List ℕ → Option (List ℕ)) → Strips s P Stop → (t : List ℕ) (o : Option (List ℕ)) → s t ≡ o → then_rest o is_empty ≡ true → P t
whole_yes s h t None e f = absurd (false≢true f)
whole_yes {P} s h t (Some []) e f =
    let (a, ta, pa) = h.sound t [] e in
    subst P (sym (ta ∙ append-nil a)) pa
whole_yes s h t (Some (c ∷ cs)) e f = absurd (false≢true f)

-- a reader that reaches the end
pub whole : {P Stop : List ℕ → Type 0} (s : List ℕ → Option (List ℕ)) → Strips s P Stop → Stop [] → (t : List ℕ) → Decides (then_rest (s t) is_empty) (P t)
whole s h stop t = (
  λ yes. whole_yes s h t (s t) refl yes,
  λ p. let e : s t ≡ Some [] = ap s (sym (append-nil t)) ∙ h.complete t [] p stop in rw e,
)

-- the text does not begin with a byte that passes
abbrev pub NotFirst : (ℕ → Bool) → List ℕ → Type 0
NotFirst p [] = Unit {0}
NotFirst p (c ∷ cs) = p c ≡ false

abbrev pub Anything : List ℕ → Type 0
Anything t = Unit {0}

abbrev pub Nothing : List ℕ → Type 0
Nothing t = t ≡ []

-- the one byte of a mark
pub only : (m c : ℕ) → char_set_contains (m ∷ []) c ≡ true → c ≡ m
only m c is = grind (arith, nat_tests)

itself : (m c : ℕ) → c ≡ m → char_set_contains (m ∷ []) c ≡ true
itself m c e = grind (arith, nat_tests)

abbrev pub is_sign : ℕ → Bool
is_sign c = eqb c plus_sign || eqb c hyphen

signs : (c : ℕ) → (c ≡ plus_sign) ⊎ (c ≡ hyphen) → char_set_contains (codes "+-") c ≡ true
signs c (inl e) = rw e
signs c (inr e) = rw e

signs_are : (c : ℕ) → char_set_contains (codes "+-") c ≡ true → is_sign c ≡ true
signs_are c is = grind (arith, nat_tests)

sign_sound : (c : ℕ) (cs r : List ℕ) → cond (is_sign c) cs (c ∷ cs) ≡ r → (a : List ℕ) × (c ∷ cs ≡ a ++ r) × Optional Sign a
sign_sound c cs r e = elim (eqb_tells c plus_sign) [
  | inl y ↦ (c ∷ [], ap (λ x. c ∷ x) (rw y.0 at e), inr (c, signs c (inl y.1), refl))
  | inr n ↦ elim (eqb_tells c hyphen) [
    | inl y ↦ (c ∷ [], ap (λ x. c ∷ x) (rw (n.0, y.0) at e), inr (c, signs c (inr y.1), refl))
    | inr m ↦ ([], (rw (n.0, m.0) at e), inl refl)
  ]
]

after_sign_not : (r : List ℕ) → NotFirst is_sign r → after_sign r ≡ r
unfolding after_sign
after_sign_not [] h = refl
after_sign_not (c ∷ cs) h = rw h

sign_step : (t r : List ℕ) → Some (after_sign t) ≡ Some r → (a : List ℕ) × (t ≡ a ++ r) × Optional Sign a
unfolding after_sign
sign_step [] r e = let f : [] ≡ r = cc in ([], f, inl refl)
sign_step (c ∷ cs) r e = let f : cond (is_sign c) cs (c ∷ cs) ≡ r = cc in sign_sound c cs r f

sign_done : (a r : List ℕ) → Optional Sign a → NotFirst is_sign r → after_sign (a ++ r) ≡ r
unfolding after_sign
sign_done a r (inl e) stop = rw e (after_sign_not r stop)
sign_done a r (inr (c, is, e)) stop = rw (e, signs_are c is)

pub sign : Strips (λ t. Some (after_sign t)) (Optional Sign) (NotFirst is_sign)
sign = record { sound = sign_step; complete = λ a r p stop. ap Some (sign_done a r p stop) }

mark_sound : (m : ℕ) (t r : List ℕ) → after_mark m t ≡ Some r → (a : List ℕ) × (t ≡ a ++ r) × OneByteOf (m ∷ []) a
unfolding after_mark
mark_sound m [] r e = cc
mark_sound m (c ∷ cs) r e = elim (eqb_tells c m) [
  | inl y ↦ let f : Some cs ≡ Some r = rw y.0 at e in (c ∷ [], cc, (c, itself m c y.1, refl))
  | inr n ↦ let f : None ≡ Some r = rw n.0 at e in cc
]

pub mark : (m : ℕ) → Strips (after_mark m) (OneByteOf (m ∷ [])) Anything
unfolding after_mark
mark m = record {
  sound = mark_sound m;
  complete = λ a r w _. rw (w.2, only m w.0 w.1) (grind (arith, nat_tests));
}

pub is_digit_yes : (c : ℕ) → (digit 0 ≤ c) × (c ≤ digit 9) → is_ascii_digit c ≡ true
is_digit_yes c h = grind (arith, nat_tests)

pub is_digit_tells : (c : ℕ) → is_ascii_digit c ≡ true → (digit 0 ≤ c) × (c ≤ digit 9)
is_digit_tells c h = (grind (arith, nat_tests), grind (arith, nat_tests))
