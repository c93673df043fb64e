-- What was sent, the first that is equal to it, and the deposits of a project.
use Rattle.std.specs.Prelude.{ℕ, ℤ, ◌+◌, ◌&&◌, Bool, List, [], ◌∷◌, Option, if◌then◌else◌}
use Rattle.std.specs.Str.{bytes_eq}
use Rattle.std.specs.List.{position_from}

-- What was sent of a deposit: the firm that sent it, its project, the first day (from 1970-01-01) on which it is no
-- longer under embargo, and its bytes.
pub record Sent : Type 0 where
  pub firm : List ℕ
  pub project : List ℕ
  pub embargo : ℤ
  pub bytes : List ℕ

-- The deposit is equal to one of this firm, project and bytes, whatever its embargo.
abbrev pub is_repeat : List ℕ → List ℕ → List ℕ → Sent → Bool
is_repeat firm project bytes d = bytes_eq d.firm firm && (bytes_eq d.project project && bytes_eq d.bytes bytes)

-- The number of the first equal deposit, from 1.
abbrev pub number_of : List ℕ → List ℕ → List ℕ → List Sent → Option ℕ
number_of firm project bytes list = position_from (is_repeat firm project bytes) 1 list

-- The numbers of a project's deposits, rising, where the first of the list has the number n.
abbrev pub numbers_from : ℕ → List ℕ → List Sent → List ℕ
numbers_from n project [] = []
numbers_from n project (d ∷ more) =
    if bytes_eq d.project project then n ∷ numbers_from (n + 1) project more else numbers_from (n + 1) project more
