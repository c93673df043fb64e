-- The groups that a text lists.
use Rattle.std.specs.Prelude.{ℕ, Bool, List, [], ◌∷◌}
use Rattle.std.specs.List.{list_all}
use Rattle.form_urlencoded.specs.Form.{split}
use Rattle.ags_text.specs.Bytes.{comma}
use Rattle.ags_text.specs.Names.{is_group_name}

-- the groups that a text lists, with commas between them; an empty text lists none, which asks for all
abbrev pub groups_in : List ℕ → List (List ℕ)
groups_in [] = []
groups_in (b ∷ text) = split comma (b ∷ text)

-- each of them is the name of a group
abbrev pub are_group_names : List ℕ → Bool
are_group_names text = list_all is_group_name (groups_in text)
