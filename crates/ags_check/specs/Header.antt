-- The fourth phase: what the GROUP rows and HEADING rows of a file, and the DATA rows of TRAN and PROJ, break. No fact
-- here knows a line: `file` is what the file holds, `given` are the entries of the dictionary passed in, `entries`
-- those of it and of the file's DICT. The rules below the facts say at which line, with which code and which subject a
-- fact is a finding.
use Rattle.std.specs.Prelude.{◌≡◌, ℕ, ◌<◌, List, [], ◌++◌, ◌∷◌, length, codes, true, false, Some, Contains, if◌then◌else◌}
use Rattle.ags_text.specs.Bytes.{low_line}
use Rattle.ags_rows.specs.declared.code.Code.{Code}
use Rattle.ags_rows.specs.declared.code.Code.TheVariants.{Rule7, Rule9, Rule10a, Rule10b, Rule10c, Rule11a, Rule11b, Rule13, Rule14, Rule15, Rule17, Rule18, Rule19b}
use Rattle.ags_rows.specs.declared.finding.Finding.{Finding}
use Rattle.ags_rows.specs.declared.rows.Group.{Group}
use Rattle.ags_rows.specs.declared.rows.Row.{Row}
use Rattle.ags_rows.specs.Collecting.{At, Notes, Among, OneOf}
use Rattle.ags_rows.specs.Contents.{Contents, group_contents, contents_of, fields_of, place_in, under}
use Rattle.ags_dict.specs.Entries.{Entries, order_of, keys_of, required_of, has_group, has_dict, parent_of, elsewhere}
use Rattle.ags_check.specs.Placing.{AtHeading, InSome}

-- a group of this name is in the file
abbrev pub HasGroup : List Contents → List ℕ → Type 0
HasGroup file name = (group : Contents) × Contains file group × (group.name ≡ name)

-- ---- of a GROUP row

-- Rules 9 and 18: the dictionary has no entry for the group.
abbrev pub IsUnknownGroup : Entries → Contents → Type 0
IsUnknownGroup entries group = has_group entries group.name ≡ false

-- Rule 10c: the parent group is not in the file.
abbrev pub LacksParentGroup : Entries → List Contents → Contents → Type 0
LacksParentGroup entries file group =
    (parent : List ℕ) × (parent_of entries group.name ≡ Some parent) × ¬ (HasGroup file parent)

-- ---- of a HEADING row, where the dictionary has an entry for the group

-- both are in the order, the one before the other
abbrev pub StandsBefore : List (List ℕ) → List ℕ → List ℕ → Type 0
StandsBefore order one other =
    (first : ℕ) × (second : ℕ) × (place_in order one ≡ Some first) × (place_in order other ≡ Some second)
    × (first < second)

-- Rule 7: the heading is in the group's order, and an earlier heading of the row comes later in that order.
abbrev pub IsMisplaced : List (List ℕ) → List (List ℕ) → List ℕ → Type 0
IsMisplaced order headings heading =
    (place : ℕ) × (earlier : ℕ) × (other : List ℕ) × At headings place heading
    × At headings earlier other × (earlier < place) × StandsBefore order heading other

-- the heading begins with the group's name and a low line
abbrev pub BeginsWithName : List ℕ → List ℕ → Type 0
BeginsWithName group heading = (rest : List ℕ) × (heading ≡ group ++ low_line ∷ rest)

-- a user-defined heading of the group: its entry came from the file's DICT
abbrev pub IsUserDefined : Entries → Entries → List ℕ → List ℕ → Type 0
IsUserDefined given entries group heading =
    Contains (order_of entries group) heading × ¬ (Contains (order_of given group) heading)

-- Rule 19b: a user-defined heading that does not begin with the group's name and a low line, and that no other group
-- has.
abbrev pub IsMisnamed : Entries → Entries → Contents → List ℕ → Type 0
IsMisnamed given entries group heading =
    Contains group.headings heading × IsUserDefined given entries group.name heading
    × ¬ (BeginsWithName group.name heading) × (elsewhere entries group.name heading ≡ false)

-- ---- of a DATA row, by its place in the group

-- Rules 11a and 11b: it is the first DATA row of TRAN, and its entry under the heading has more than one character.
abbrev pub IsLongSign : Contents → ℕ → List (List ℕ) → List ℕ → Type 0
IsLongSign group place fields heading =
    (group.name ≡ codes "TRAN") × (place ≡ 0) × (1 < length (under group.headings fields heading))

-- ---- the rules

-- What the dictionary does not know is a finding of Rule 9 where the file has a group DICT, else of Rule 18.
abbrev pub unknown_code : List Contents → Code
unknown_code file = if has_dict file then Rule9 else Rule18

-- the rules on a heading of a group that the dictionary knows. Rules 9 and 18: a heading of the row is not in the
-- group's order. Rules 10a and 10b: a KEY heading, and a REQUIRED heading, of the group is not in the row.
abbrev pub heading_row_rules : Entries → Entries → Code → Group → List (Finding → Type 0)
heading_row_rules given entries unknown group =
    let name = group.name in
    AtHeading Rule7 (IsMisplaced (order_of entries name) group.headings) group
    ∷ AtHeading unknown (λ h. Contains group.headings h × ¬ (Contains (order_of entries name) h)) group
    ∷ AtHeading Rule10a (λ h. Contains (keys_of entries name) h × ¬ (Contains group.headings h)) group
    ∷ AtHeading Rule10b (λ h. Contains (required_of entries name) h × ¬ (Contains group.headings h)) group
    ∷ AtHeading Rule19b (IsMisnamed given entries (group_contents group)) group
    ∷ []

-- the rules on a DATA row of TRAN and of PROJ, by its place in the group. Rules 11a and 11b: TRAN_DLIM and TRAN_RCON
-- are one character at most. Rules 13 and 14: PROJ and TRAN have one DATA row.
abbrev pub tran_and_proj_rules : Group → ℕ → Row → List (Finding → Type 0)
tran_and_proj_rules group place row =
    let contents = group_contents group in
    Notes row.line Rule11a (codes "TRAN_DLIM") (IsLongSign contents place (fields_of row) (codes "TRAN_DLIM"))
    ∷ Notes row.line Rule11b (codes "TRAN_RCON") (IsLongSign contents place (fields_of row) (codes "TRAN_RCON"))
    ∷ Notes row.line Rule13 (codes "PROJ") ((group.name ≡ codes "PROJ") × (0 < place))
    ∷ Notes row.line Rule14 (codes "TRAN") ((group.name ≡ codes "TRAN") × (0 < place))
    ∷ []

-- the rules on one group. Rules 9 and 18: the dictionary has no entry for the group; then no other rule that asks the
-- dictionary has a finding, since the group has no parent either. Rule 10c: its parent group is not in the file.
abbrev pub group_header_rules : Entries → Entries → List Contents → Code → Group → List (Finding → Type 0)
group_header_rules given entries file unknown group =
    Notes group.line unknown group.name (IsUnknownGroup entries (group_contents group))
    ∷ Notes group.line Rule10c group.name (LacksParentGroup entries file (group_contents group))
    ∷ (λ found. (has_group entries group.name ≡ true) × OneOf (heading_row_rules given entries unknown group) found)
    ∷ Among group.rows (λ place row. OneOf (tran_and_proj_rules group place row))
    ∷ []

-- the rules on the groups that each file has (Rules 13, 14, 15 and 17): the group is absent. Such a finding has no
-- line.
abbrev pub file_rules : List Contents → List (Finding → Type 0)
file_rules file =
    Notes 0 Rule13 (codes "PROJ") (¬ (HasGroup file (codes "PROJ")))
    ∷ Notes 0 Rule14 (codes "TRAN") (¬ (HasGroup file (codes "TRAN")))
    ∷ Notes 0 Rule15 (codes "UNIT") (¬ (HasGroup file (codes "UNIT")))
    ∷ Notes 0 Rule17 (codes "TYPE") (¬ (HasGroup file (codes "TYPE")))
    ∷ []

-- the findings on the groups of a file against its dictionary
abbrev pub StandsInDictionary : Entries → Entries → List Group → Finding → Type 0
StandsInDictionary given entries groups =
    let file = contents_of groups in
    OneOf (InSome groups (group_header_rules given entries file (unknown_code file)) ∷ file_rules file)
