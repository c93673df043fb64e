-- The bytes of a connection are read as one thing.
use Rattle.std.proofs.Common.{◌≡◌, ℕ, ℤ, List, length, take, cond, Result, Ok, Err, refl, sym, ap, ◌∙◌, arith}
use Rattle.std.specs.Prelude.{ltb}
use Rattle.std.proofs.lemmas.Bool.{cond-true, cond-false, lt-ltb, le-ltb}
use Rattle.httparse.specs.Grammar.{RequestHead}
use Rattle.httparse.proofs.GrammarLemmas.{request_unique}
use Rattle.reg_policy.specs.declared.callers.Credential.{Credential}
use Rattle.reg_http.specs.Asks.{Asking, ask_of, asked_with}
use Rattle.reg_http.specs.Heads.{IsHead}
use Rattle.reg_http.specs.HeadParts.{head_parts}
use Rattle.reg_http.specs.Reading.{HasOneReading, Heard, ReadAs, bad_head, refusal, refused, request, short_body, silent, whole}
use Rattle.reg_http.specs.declared.error.Refusal.{Refusal}
use Rattle.reg_http.specs.declared.error.Refusal.TheVariants.{ShortBody}
use Rattle.reg_http.proofs.HeadLemmas.{none_of_nothing}

-- what a head and the bytes after it are read as
abbrev heard : ℤ → Result Asking Refusal → List ℕ → Heard
heard day (Err r) rest = refusal r
heard day (Ok a) rest = cond (ltb (length rest) a.length) (refusal ShortBody) (request (asked_with a (take a.length rest) day))

module _ (callers : List Credential) (day : ℤ) (bytes : List ℕ) where
  -- two heads of the same bytes are read as the same
  same_heard : (h k : RequestHead) (rest more : List ℕ) (a : Result Asking Refusal) → IsHead bytes h rest → IsHead bytes k more
      → ask_of callers day (head_parts k) ≡ a → heard day (ask_of callers day (head_parts h)) rest ≡ heard day a more
  same_heard h k rest more a x y q =
      let same = request_unique bytes h k rest more x.reads y.reads in
      ap (λ (n : RequestHead). heard day (ask_of callers day (head_parts n)) rest) same.0
      ∙ ap (λ (t : List ℕ). heard day (ask_of callers day (head_parts k)) t) same.1 ∙ ap (λ (b : Result Asking Refusal). heard day b more) q

  -- bytes with a head are read as the head says
  by_head : (h : RequestHead) (rest : List ℕ) (b : Heard) → IsHead bytes h rest → ReadAs callers day bytes b → heard day (ask_of callers day (head_parts h)) rest ≡ b
  by_head h rest b x (silent q) = absurd (none_of_nothing bytes h rest q x)
  by_head h rest b x (bad_head q n) = absurd (n h rest x)
  by_head h rest b x (refused k more r y q) = same_heard h k rest more (Err r) x y q
  by_head h rest b x (short_body k more c y q l) = same_heard h k rest more (Ok c) x y q ∙ cond-true _ _ _ (lt-ltb (length more) c.length l)
  by_head h rest b x (whole k more c y q l) = same_heard h k rest more (Ok c) x y q ∙ cond-false _ _ _ (le-ltb (length more) c.length l)

  -- case by case
  one_reading_of : (a b : Heard) → ReadAs callers day bytes a → ReadAs callers day bytes b → a ≡ b
  one_reading_of a b (silent p) (silent q) = refl
  one_reading_of a b (silent p) (bad_head q n) = absurd (omega (arith, ap length p))
  one_reading_of a b (bad_head p n) (silent q) = absurd (omega (arith, ap length q))
  one_reading_of a b (bad_head p n) (bad_head q m) = refl
  one_reading_of a b (refused h rest r x p) y = sym (by_head h rest _ x (refused h rest r x p)) ∙ by_head h rest b x y
  one_reading_of a b (short_body h rest c x p l) y = sym (by_head h rest _ x (short_body h rest c x p l)) ∙ by_head h rest b x y
  one_reading_of a b (whole h rest c x p l) y = sym (by_head h rest _ x (whole h rest c x p l)) ∙ by_head h rest b x y
  one_reading_of a b y (refused h rest r x p) = sym (by_head h rest _ x y) ∙ by_head h rest _ x (refused h rest r x p)
  one_reading_of a b y (short_body h rest c x p l) = sym (by_head h rest _ x y) ∙ by_head h rest _ x (short_body h rest c x p l)
  one_reading_of a b y (whole h rest c x p l) = sym (by_head h rest _ x y) ∙ by_head h rest _ x (whole h rest c x p l)

-- the law
pub one_reading : HasOneReading
one_reading callers day bytes a b x y = one_reading_of callers day bytes a b x y
