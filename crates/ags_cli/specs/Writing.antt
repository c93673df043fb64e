-- What a writer has taken of a text.
use Rattle.std.specs.Prelude.{◌≡◌, ◌≢◌, ℕ, ◌++◌, List, [], codes, Option, Result, MatchResult}
use Rattle.std.specs.Io.KnownBytes.{Appends}

-- a line that begins with one text and goes on with another, with LF at its end
abbrev pub two_part_line : List ℕ → List ℕ → List ℕ
two_part_line first second = first ++ (second ++ codes "\n")

-- a first part of a text that is not empty was taken
pub record TakesPart (old new : Option (List ℕ)) (text : List ℕ) : Type 0 where
  pub part : List ℕ
  pub rest : List ℕ
  pub parts : text ≡ part ++ rest
  pub some : text ≢ []
  pub taken : Appends old new part

-- all of the text was taken, or the writer failed
abbrev pub WritesText : {T E : Type 0} → Option (List ℕ) → Option (List ℕ) → Result T E → List ℕ → Type 0
WritesText old new result text = MatchResult result (λ _. Appends old new text) (λ _. TakesPart old new text)
