-- From what is written, text by text, to what is reported.
use Rattle.std.proofs.Common.{◌≡◌, ℕ, suc, ◌++◌, [], ◌∷◌, List, length, Bool, true, false, ◌||◌, inl, inr, Option, Result, Ok, Err, refl, sym, ap, ◌∙◌, append_assoc, arith, rules}
use Rattle.std.specs.Result.{is_err}
use Rattle.std.specs.Io.KnownBytes.{Appends}
use Rattle.std.proofs.KnownBytes.{Appends-trans}
use Rattle.ags_cli.specs.Faults.{Tells, ended_with}
use Rattle.ags_cli.specs.Writing.{TakesPart, WritesText}

second_nil : (first second : List ℕ) → first ++ second ≡ [] → second ≡ []
second_nil [] second none = none
second_nil (x ∷ first) second none = let bad : suc (length (first ++ second)) ≡ 0 = ap length none in absurd (omega (arith, bad))

first_nil : (first second : List ℕ) → first ++ second ≡ [] → first ≡ []
first_nil [] second none = refl
first_nil (x ∷ first) second none = let bad : suc (length (first ++ second)) ≡ 0 = ap length none in absurd (omega (arith, bad))

-- a text was taken, and then another was written
pub writes_both : {T E : Type 0} (a b c : Option (List ℕ)) (first second : List ℕ) (r : Result T E) → Appends a b first → WritesText b c r second
    → WritesText a c r (first ++ second)
writes_both a b c first second (Ok v) one two = Appends-trans _ _ _ _ _ one two
writes_both a b c first second (Err e) one two = record {
  part = first ++ two.part;
  rest = two.rest;
  parts = ap (λ t. first ++ t) two.parts ∙ sym (append_assoc first two.part two.rest);
  some = λ none. two.some (second_nil first second none);
  taken = Appends-trans _ _ _ _ _ one two.taken;
}

-- a first part of a text was taken, and then no more
takes_first : (a b : Option (List ℕ)) (first second : List ℕ) → TakesPart a b first → TakesPart a b (first ++ second)
takes_first a b first second one = record {
  part = one.part;
  rest = one.rest ++ second;
  parts = ap (λ t. t ++ second) one.parts ∙ append_assoc one.part one.rest second;
  some = λ none. one.some (first_nil first second none);
  taken = one.taken;
}

-- the same, of what was to be written
pub writes_first : {T E : Type 0} (a b : Option (List ℕ)) (first second : List ℕ) (r : Result T E) → is_err r ≡ true → TakesPart a b first
    → WritesText a b r (first ++ second)
writes_first a b first second (Ok v) failed one = absurd (search rules)
writes_first a b first second (Err e) failed one = takes_first a b first second one

or_false : (b : Bool) → (b || false) ≡ b
or_false true = refl
or_false false = refl

or_true : (b : Bool) → (b || true) ≡ true
or_true true = refl
or_true false = refl

-- what was written is reported
pub ended_tells : {T E : Type 0} (old new : Option (List ℕ)) (text : List ℕ) (before after : Bool) (r : Result T E) (status ended : ℕ)
    → WritesText old new r text → after ≡ (before || is_err r) → ended ≡ ended_with r status → Tells old new text before after status ended
ended_tells old new text before after (Ok v) status ended writes noted is = inl (writes, noted ∙ or_false before, is)
ended_tells old new text before after (Err e) status ended writes noted is = inr (writes, noted ∙ or_true before, is)
