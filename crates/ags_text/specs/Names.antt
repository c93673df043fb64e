-- The names that groups and headings may have (Rules 19 and 19a), and the groups that define.
use Rattle.std.specs.Prelude.{ℕ, List, [], ◌∷◌, ◌==◌, length, nat_le, Bool, ◌&&◌, ◌||◌, codes}
use Rattle.std.specs.List.{list_all, list_any}
use Rattle.std.specs.Str.{bytes_eq}
use Rattle.ags_text.specs.Bytes.{low_line}

-- A to Z
abbrev pub is_capital : ℕ → Bool
is_capital b = nat_le 65 b && nat_le b 90

-- 0 to 9
abbrev pub is_digit : ℕ → Bool
is_digit b = nat_le 48 b && nat_le b 57

-- at least one byte and at most so many
abbrev pub is_within : ℕ → List ℕ → Bool
is_within most text = nat_le 1 (length text) && nat_le (length text) most

-- Rule 19: 1 to 4 of A to Z and 0 to 9.
abbrev pub is_group_name : List ℕ → Bool
is_group_name name = is_within 4 name && list_all (λ b. is_capital b || is_digit b) name

-- Rule 19a: 1 to 9 of A to Z, 0 to 9 and the low line.
abbrev pub is_heading_name : List ℕ → Bool
is_heading_name name = is_within 9 name && list_all (λ b. (is_capital b || is_digit b) || b == low_line) name

-- the groups that define what the others use
abbrev pub is_definition : List ℕ → Bool
is_definition group =
    list_any (bytes_eq group) (codes "TRAN" ∷ codes "ABBR" ∷ codes "UNIT" ∷ codes "TYPE" ∷ codes "DICT" ∷ [])
