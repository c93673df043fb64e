-- A text that begins with another.
use Rattle.std.proofs.Common.{◌≡◌, ℕ, ◌+◌, true, false, Option, Some, None, List, [], ◌∷◌, ◌++◌, length, take, drop, refl, sym, ap, ◌∙◌}
use Rattle.std.specs.Prelude.{◌↔◌, IsTrue, is_some, MatchOption}
use Rattle.std.specs.Borrow.{Bor}
use Rattle.std.specs.Str.{bytes_eq}
use Rattle.std.proofs.lemmas.Bool.{true≢false}
use Rattle.std.proofs.lemmas.List.{take-append-drop, take_at}
use Rattle.std.proofs.lemmas.List.Prefix.{front_rest}
use Rattle.std.proofs.lemmas.Slice.Eq.{bytes_eq-Decides}
use Rattle.ags_text.specs.Bytes.{low_line}
use Rattle.ags_check.specs.Header.{BeginsWithName}

-- the text is its front and the rest
pub front_there : (text front : List ℕ) → bytes_eq (take (length front) text) front ≡ true → text ≡ front ++ drop (length front) text
front_there text front e =
    sym (take-append-drop (length front) text) ∙ ap (λ (x : List ℕ). x ++ drop (length front) text) ((bytes_eq-Decides (take (length front) text) front).0 e)

pub front_absent : (text front : List ℕ) → bytes_eq (take (length front) text) front ≡ false → (rest : List ℕ) → text ≡ front ++ rest → ⊥
front_absent text front e rest parts =
    let same : take (length front) text ≡ front = ap (take (length front)) parts ∙ take_at front rest (length front) refl in
    true≢false (sym ((bytes_eq-Decides (take (length front) text) front).1 same) ∙ e)

-- the rest begins with a low line
pub with_low_line : (group heading rest : List ℕ) (found : Option (Bor (List ℕ))) → heading ≡ group ++ rest
    → MatchOption found ((more : List ℕ) → rest ≡ (low_line ∷ []) ++ more → ⊥) (λ more. rest ≡ (low_line ∷ []) ++ more.now)
    → IsTrue (is_some found) ↔ BeginsWithName group heading
with_low_line group heading rest None parts h = (
  λ e. absurd (true≢false (sym e)),
  λ b. absurd (h b.0 (sym (front_rest heading group rest parts) ∙ front_rest heading group (low_line ∷ b.0) b.1)),
)
with_low_line group heading rest (Some more) parts h = (λ e. (more.now, parts ∙ ap (λ (x : List ℕ). group ++ x) h), λ b. refl)

-- what `strip_prefix` finds
pub stripped : (text front : List ℕ) (found : Option (Bor (List ℕ)))
    → MatchOption found (bytes_eq (take (length front) text) front ≡ false) (λ x. (bytes_eq (take (length front) text) front ≡ true) × (x.now ≡ drop (length front) text) × (length x.now + length front ≡ length text))
    → MatchOption found ((rest : List ℕ) → text ≡ front ++ rest → ⊥) (λ rest. text ≡ front ++ rest.now)
stripped text front None h = front_absent text front h
stripped text front (Some rest) h = front_there text front h.0 ∙ ap (λ (x : List ℕ). front ++ x) (sym h.1)
