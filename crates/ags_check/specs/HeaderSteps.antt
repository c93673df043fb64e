-- What the functions of the fourth phase compute on the way.
use Rattle.std.specs.Prelude.{◌≡◌, ℕ, ◌<◌, List, Bool, true, false, map, nat_lt, max, Option, Some, None, IsSome}
use Rattle.std.specs.Borrow.{Bor}
use Rattle.ags_rows.specs.declared.code.Code.{Code}
use Rattle.ags_rows.specs.declared.finding.Finding.{Finding}
use Rattle.ags_rows.specs.declared.rows.Group.{Group}
use Rattle.ags_rows.specs.Collecting.{At, Notes, Among, OneOf}
use Rattle.ags_rows.specs.Contents.{Contents, group_contents, contents_of, fields_of, place_in}
use Rattle.ags_dict.specs.Entries.{Entries, order_of, has_group, elsewhere}
use Rattle.ags_check.specs.Header.{LacksParentGroup, StandsBefore, BeginsWithName, IsLongSign, heading_row_rules, tran_and_proj_rules, group_header_rules}
use Rattle.ags_check.specs.Placing.{AtNames}

-- the group's parent group is not among these groups
abbrev pub LacksParentAmong : Entries → List Group → Contents → Type 0
LacksParentAmong entries groups = LacksParentGroup entries (contents_of groups)

-- ---- the rules on a group

-- of the GROUP row; the subject is the group's name
abbrev pub AtGroup : Code → (Contents → Type 0) → Group → Finding → Type 0
AtGroup code Breaks group = Notes group.line code group.name (Breaks (group_contents group))

-- what the HEADING row of a group breaks, where the dictionary has an entry for the group
abbrev pub InKnownHeadingRow : Entries → Entries → Code → Group → Finding → Type 0
InKnownHeadingRow given entries unknown group found =
    (has_group entries group.name ≡ true) × OneOf (heading_row_rules given entries unknown group) found

-- each DATA row with a long sign under this heading; the subject is the heading
abbrev pub AtLongSign : Code → List ℕ → Group → Finding → Type 0
AtLongSign code heading group =
    Among group.rows (λ place row.
    Notes row.line code heading (IsLongSign (group_contents group) place (fields_of row) heading))

-- each DATA row after the first, where the group has this name; the subject is the name
abbrev pub AtFurtherRows : Code → List ℕ → Group → Finding → Type 0
AtFurtherRows code name group =
    Among group.rows (λ place row. Notes row.line code name ((group.name ≡ name) × (0 < place)))

-- what the DATA rows of a group break, if it is TRAN or PROJ
abbrev pub InOnlyRows : Group → Finding → Type 0
InOnlyRows group = Among group.rows (λ place row. OneOf (tran_and_proj_rules group place row))

-- the fourth phase's rules on one of these groups of a file
abbrev pub header_rules_of : Entries → Entries → List Group → Code → Group → List (Finding → Type 0)
header_rules_of given entries groups = group_header_rules given entries (contents_of groups)

-- ---- places

-- the later of two places
abbrev pub later : Option ℕ → Option ℕ → Option ℕ
later None other = other
later (Some place) None = Some place
later (Some place) (Some other) = Some (max place other)

-- whether a place is before the latest one so far
abbrev pub is_before_latest : Option ℕ → Option ℕ → Bool
is_before_latest None latest = false
is_before_latest (Some place) None = false
is_before_latest (Some place) (Some latest) = nat_lt place latest

-- an earlier name of the list comes later in the order than this one, the name at the place
abbrev pub IsOvertaken : List (List ℕ) → List (List ℕ) → ℕ → List ℕ → Type 0
IsOvertaken order names place name =
    (earlier : ℕ) × (other : List ℕ) × (earlier < place) × At names earlier other × StandsBefore order name other

-- the heading is in the group's order, it is not in the order given, it is not named for the group, and no other group
-- has it
pub record IsMisnamedBy (given entries : Entries) (group heading : List ℕ) : Type 0 where
  pub known : IsSome (place_in (order_of entries group) heading)
  pub own : place_in (order_of given group) heading ≡ None
  pub other_name : ¬ (BeginsWithName group heading)
  pub nowhere_else : elsewhere entries group heading ≡ false

-- ---- at the line of a HEADING row, with the heading as subject

-- a name of the list that is not in the other list
abbrev pub AtAbsent : ℕ → Code → List (List ℕ) → List (List ℕ) → Finding → Type 0
AtAbsent line code names others = AtNames line code names (λ _ name. place_in others name ≡ None)

-- a heading that is not in the group's order
abbrev pub AtUnknown : ℕ → Code → Entries → List ℕ → List (Bor (List ℕ)) → Finding → Type 0
AtUnknown line code entries group headings =
    AtAbsent line code (map (λ name. name.now) headings) (order_of entries group)

-- a heading before which the list has one that comes later in the group's order
abbrev pub AtMisplaced : ℕ → Code → Entries → List ℕ → List (Bor (List ℕ)) → Finding → Type 0
AtMisplaced line code entries group headings =
    let names = map (λ name. name.now) headings in
    AtNames line code names (IsOvertaken (order_of entries group) names)

-- a user-defined heading that is neither named for the group nor another group's
abbrev pub AtMisnamed : ℕ → Code → Entries → Entries → List ℕ → List (Bor (List ℕ)) → Finding → Type 0
AtMisnamed line code given entries group headings =
    AtNames line code (map (λ name. name.now) headings) (λ _ name. IsMisnamedBy given entries group name)
