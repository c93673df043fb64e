-- What one read into the rest of a buffer did.
use Rattle.std.specs.Prelude.{◌≡◌, ℕ, ◌+◌, ◌<◌, ◌≤◌, List, ◌++◌, length, take, Option, Some, None, ⊤}
use Rattle.std.specs.Io.KnownBytes.{Consumes, IsAtEnd}

-- the buffer has n bytes more, which the reader lost; none came only at the end or with no room
pub record FillsMore (old new : Option (List ℕ)) (before after : List ℕ) (filled n : ℕ) : Type 0 where
  pub more : List ℕ
  pub grown : take (filled + n) after ≡ take filled before ++ more
  pub count : length more ≡ n
  pub fits : filled + n ≤ length after
  pub taken : Consumes old new more
  pub at_end : n ≡ 0 → filled < length before → IsAtEnd new

-- the same where the read went well
abbrev pub Fills : Option (List ℕ) → Option (List ℕ) → List ℕ → List ℕ → ℕ → Option ℕ → Type 0
Fills old new before after filled None = ⊤
Fills old new before after filled (Some n) = FillsMore old new before after filled n
