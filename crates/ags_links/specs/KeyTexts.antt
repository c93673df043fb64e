-- Lists of texts as one text, in which no two lists are alike: a zero ends each text, and a one comes before each
-- zero or one of a text itself.
use Rattle.std.specs.Prelude.{ℕ, List, [], ◌∷◌, ◌++◌, nat_le, flat_map, if◌then◌else◌}

abbrev pub end_mark : ℕ
end_mark = 0

abbrev pub escape_mark : ℕ
escape_mark = 1

abbrev pub byte_text : ℕ → List ℕ
byte_text b = if nat_le b escape_mark then escape_mark ∷ b ∷ [] else b ∷ []

abbrev pub ended_text : List ℕ → List ℕ
ended_text text = flat_map byte_text text ++ end_mark ∷ []

abbrev pub key_text : List (List ℕ) → List ℕ
key_text texts = flat_map ended_text texts
