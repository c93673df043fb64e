-- A text cut at a separator, and the key text of its parts.
use Rattle.std.proofs.Common.{◌≡◌, ◌≢◌, ℕ, zero, suc, ◌+◌, ◌<◌, ◌≤◌, Bool, true, false, cond, eqb, List, [], ◌∷◌, ◌++◌, take, drop, length, get_or, flat_map, Some, None, refl, sym, ap, ◌∙◌, append_assoc, arith, position, ◌-◌, ltb, inl, inr}
use Rattle.std.proofs.lemmas.List.Quantifiers.{position-Some}
use Rattle.std.specs.List.{position_or_len, onto_first}
use Rattle.std.proofs.lemmas.Bool.{cases_Bool, cases_lt, lt-ltb, cond-true, eq-eqb}
use Rattle.std.proofs.lemmas.Bool.Decides.{eqb_tells}
use Rattle.std.proofs.lemmas.List.{take_rest}
use Rattle.std.proofs.lemmas.List.Sums.{fails_before_first}
use Rattle.ags_rows.specs.Parts.{parts_at}
use Rattle.ags_links.specs.KeyTexts.{end_mark, byte_text, ended_text, key_text}

-- no separator is in the text
none_cut : (s : ℕ) (text : List ℕ) → ((j : ℕ) → j < length text → eqb (get_or text j 0) s ≡ false) → parts_at s text ≡ text ∷ []
none_cut s [] h = refl
none_cut s (b ∷ text) h = rw (h 0 (omega arith), none_cut s text (λ j lt. h (suc j) (omega (arith, lt)))) refl

-- the first separator is at k
first_cut : (s : ℕ) (text : List ℕ) (k : ℕ) → k < length text → eqb (get_or text k 0) s ≡ true → ((j : ℕ) → j < k → eqb (get_or text j 0) s ≡ false)
    → parts_at s text ≡ take k text ∷ parts_at s (drop (suc k) text)
first_cut s [] k lt at before = absurd (omega (arith, lt))
first_cut s (b ∷ text) zero lt at before = rw at refl
first_cut s (b ∷ text) (suc k) lt at before =
    rw (before 0 (omega arith), first_cut s text k (omega (arith, lt)) at (λ j l. before (suc j) (omega (arith, l)))) refl

pub parts_cut : (s : ℕ) (text : List ℕ) (k : ℕ) → position (λ b. eqb b s) text ≡ Some k → parts_at s text ≡ take k text ∷ parts_at s (drop (k + 1) text)
parts_cut s text k e =
    let h = position-Some (λ b. eqb b s) text k 0 e in
    let n : suc k ≡ k + 1 = omega arith in
    first_cut s text k h.0 h.1 h.2 ∙ ap (λ (m : ℕ). take k text ∷ parts_at s (drop m text)) n

-- one more part is taken
pub part_taken : (s : ℕ) (front : List (List ℕ)) (rest : List ℕ) (all : List (List ℕ)) (part : List ℕ) (k : ℕ) → position (λ b. eqb b s) rest ≡ Some k → part ≡ take k rest → front ++ parts_at s rest ≡ all
    → (front ++ part ∷ []) ++ parts_at s (take (length rest - (k + 1)) (drop (k + 1) rest)) ≡ all
part_taken s front rest all part k e is so_far =
    ap (λ r. (front ++ part ∷ []) ++ parts_at s r) (take_rest rest (k + 1))
    ∙ append_assoc front (part ∷ []) (parts_at s (drop (k + 1) rest))
    ∙ ap (λ p. front ++ p ∷ parts_at s (drop (k + 1) rest)) is
    ∙ ap (λ l. front ++ l) (sym (parts_cut s rest k e)) ∙ so_far

-- the last part is taken
pub part_left : (s : ℕ) (front : List (List ℕ)) (rest : List ℕ) (all : List (List ℕ)) → position (λ b. eqb b s) rest ≡ None → front ++ parts_at s rest ≡ all → front ++ rest ∷ [] ≡ all
part_left s front rest all e so_far =
    let p : ℕ → Bool = λ b. eqb b s in
    let n = position_or_len p rest in
    let far : length rest ≤ n = elim (cases_lt n (length rest)) [
      | inl lt ↦ let q : Some n ≡ None = sym (cond-true (ltb n (length rest)) (Some n) None (lt-ltb n (length rest) lt)) ∙ e in absurd cc
      | inr le ↦ le
    ] in
    let cut : parts_at s rest ≡ rest ∷ [] = none_cut s rest (λ j lt. fails_before_first p rest j 0 (omega (arith, lt, far))) in
    ap (λ l. front ++ l) (sym cut) ∙ so_far

-- ---- the key text of the parts

-- what a byte of a text that is cut adds to it
abbrev pub piece_byte : ℕ → ℕ → List ℕ
piece_byte s b = cond (eqb b s) (end_mark ∷ []) (byte_text b)

-- the separator, and any other byte
pub piece_end : (s b : ℕ) → b ≡ s → piece_byte s b ≡ end_mark ∷ []
piece_end s b e = rw (eq-eqb b s e) refl

pub piece_other : (s b : ℕ) → b ≢ s → piece_byte s b ≡ byte_text b
piece_other s b other = elim (eqb_tells b s) [
  | inl h ↦ absurd (other h.1)
  | inr h ↦ rw h.0 refl
]

-- a list has a first item
abbrev HasFirst : List (List ℕ) → Type 0
HasFirst parts = (part : List ℕ) × (more : List (List ℕ)) × (parts ≡ part ∷ more)

-- there is a first part
first_part : (s : ℕ) (text : List ℕ) → HasFirst (parts_at s text)
first_part s [] = ([], [], refl)
first_part s (b ∷ text) = let h = first_part s text in elim (cases_Bool (eqb b s)) [ inl e ↦ ([], parts_at s text, rw e refl) | inr e ↦ (b ∷ h.0, h.1, rw (e, h.2) refl) ]

onto_text : (b : ℕ) (parts : List (List ℕ)) (part : List ℕ) (more : List (List ℕ)) → parts ≡ part ∷ more → key_text (onto_first b parts) ≡ byte_text b ++ key_text parts
onto_text b parts part more e =
    rw e (ap (λ l. l ++ flat_map ended_text more) (append_assoc (byte_text b) (flat_map byte_text part) (end_mark ∷ [])) ∙ append_assoc (byte_text b) (ended_text part) (flat_map ended_text more))

pub pieces_key_text : (s : ℕ) (text : List ℕ) → flat_map (piece_byte s) text ++ end_mark ∷ [] ≡ key_text (parts_at s text)
pieces_key_text s [] = refl
pieces_key_text s (b ∷ text) = let h = first_part s text in elim (cases_Bool (eqb b s)) [
  | inl e ↦ rw e (ap (λ l. end_mark ∷ l) (pieces_key_text s text))
  | inr e ↦ rw e (append_assoc (byte_text b) (flat_map (piece_byte s) text) (end_mark ∷ []) ∙ ap (λ l. byte_text b ++ l) (pieces_key_text s text) ∙ sym (onto_text b (parts_at s text) h.0 h.1 h.2))
]
