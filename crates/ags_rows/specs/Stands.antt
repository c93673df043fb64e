-- The findings of each phase of a file, with one sentence for each rule.
use Rattle.std.specs.Prelude.{◌≡◌, ◌≢◌, ℕ, ◌+◌, ◌<◌, ◌≤◌, ◌⊎◌, List, [], ◌∷◌, map, Any, Contains, length, false}
use Rattle.std.specs.List.{AllByRecursion}
use Rattle.ags_rows.specs.declared.rows.Ending.TheVariants.{Lf}
use Rattle.ags_rows.specs.declared.rows.Descriptor.{Descriptor}
use Rattle.ags_rows.specs.declared.rows.Descriptor.TheVariants as kinds
use Rattle.ags_rows.specs.declared.rows.FileRow.{FileRow}
use Rattle.ags_rows.specs.declared.finding.Finding.{Finding}
use Rattle.ags_rows.specs.declared.code.Code.TheVariants.{Rule1, Rule2, Rule2a, Rule2b, Rule3, Rule4, Rule5, Rule6, Rule19, Rule19a, P1, P2}
use Rattle.ags_text.specs.Bytes.{space, carriage_return, ascii_end, Lacks}
use Rattle.ags_rows.specs.declared.rows.Group.{Group}
use Rattle.ags_text.specs.Names.{is_group_name, is_heading_name}
use Rattle.ags_rows.specs.Collecting.{At, Notes, Among, OneOf}
use Rattle.ags_rows.specs.Lines.{TextLine}
use Rattle.ags_rows.specs.Spelling.{Spells, SpellsNoFields}
use Rattle.ags_rows.specs.Rows.{descriptor_text}
use Rattle.ags_rows.specs.Order.{OutOfPlace}

-- ---- the first phase: each line by itself

-- no byte, or spaces only
abbrev pub IsBlank : List ℕ → Type 0
IsBlank content = AllByRecursion (λ b. b ≡ space) content

-- fields spell it, and the first is no descriptor
abbrev pub LacksDescriptor : List ℕ → Type 0
LacksDescriptor content =
    (first : List ℕ) × (fields : List (List ℕ)) × Spells content (first ∷ fields)
    × ((kind : Descriptor) → first ≢ descriptor_text kind)

-- it is not blank, has no CR, and no fields spell it
abbrev pub LacksFields : List ℕ → Type 0
LacksFields content = ¬ (IsBlank content) × Lacks carriage_return content × SpellsNoFields content

-- Rule 1: a byte is no ASCII. Rule 2a: the line ends with LF alone. Rule 3: fields spell it, and the first is no
-- descriptor. Rule 5: it is not blank, has no CR, and no fields spell it. Rule 6: it has a CR.
abbrev pub line_rules : ℕ → TextLine → List (Finding → Type 0)
line_rules number line =
    Notes number Rule1 [] (Any (λ b. ascii_end ≤ b) line.content)
    ∷ Notes number Rule2a [] (line.ending ≡ Lf)
    ∷ Notes number Rule3 [] (LacksDescriptor line.content)
    ∷ Notes number Rule5 [] (LacksFields line.content)
    ∷ Notes number Rule6 [] (Contains line.content carriage_return)
    ∷ []

-- a finding of the lines, which are numbered from 1
abbrev pub StandsInLines : List TextLine → Finding → Type 0
StandsInLines lines = Among lines (λ place line. OneOf (line_rules (place + 1) line))

-- what reading loosely strikes out: a finding of Rule 1 or of Rule 2a
abbrev pub IsStruck : Finding → Type 0
IsStruck found = (found.code ≡ Rule1) ⊎ (found.code ≡ Rule2a)

-- a finding of the lines that is not struck out
abbrev pub StandsInLinesLoosely : List TextLine → Finding → Type 0
StandsInLinesLoosely lines found = StandsInLines lines found × ¬ (IsStruck found)

-- ---- the second phase: each row among the rows

-- Rules 2b, 4: the order of rows, and the one name of a group: a GROUP row has exactly one item.
abbrev pub row_rules : List FileRow → ℕ → FileRow → List (Finding → Type 0)
row_rules rows place row =
    Notes row.line Rule2b [] (OutOfPlace rows place row)
    ∷ Notes row.line Rule4 [] ((row.descriptor ≡ kinds.Group) × (length row.items ≢ 1))
    ∷ []

-- Rule 2: there is a row; then each row.
abbrev pub StandsInOrder : List FileRow → Finding → Type 0
StandsInOrder rows =
    OneOf (Notes 0 Rule2 [] (rows ≡ []) ∷ Among rows (λ place row. OneOf (row_rules rows place row)) ∷ [])

-- ---- the third phase: each group

-- this name of the list is at an earlier place as well
abbrev pub IsRepeat : List (List ℕ) → ℕ → List ℕ → Type 0
IsRepeat names place name = (earlier : ℕ) × (earlier < place) × At names earlier name

-- Rules 2, 4: a group has DATA rows, its HEADING row has items, and each other row has as many as that.
abbrev pub shape_rules : Group → List (Finding → Type 0)
shape_rules group =
    Notes group.line Rule2 group.name (group.rows ≡ [])
    ∷ Notes group.heading_line Rule4 group.name (group.headings ≡ [])
    ∷ Notes group.unit_line Rule4 group.name (length group.units ≢ length group.headings)
    ∷ Notes group.type_line Rule4 group.name (length group.types ≢ length group.headings)
    ∷ Among group.rows (λ place row. Notes row.line Rule4 group.name (length row.cells ≢ length group.headings))
    ∷ []

-- The name of a group, noted at the GROUP row. Rule 19: it is not right. P1: an earlier group has it.
abbrev pub name_rules : List (List ℕ) → ℕ → Group → List (Finding → Type 0)
name_rules names place group =
    Notes group.line Rule19 group.name (is_group_name group.name ≡ false)
    ∷ Notes group.line P1 group.name (IsRepeat names place group.name)
    ∷ []

-- A heading, noted at the HEADING row. Rule 19a: it is not right. P2: it equals an earlier one.
abbrev pub heading_rules : Group → ℕ → List ℕ → List (Finding → Type 0)
heading_rules group place heading =
    Notes group.heading_line Rule19a heading (is_heading_name heading ≡ false)
    ∷ Notes group.heading_line P2 heading (IsRepeat group.headings place heading)
    ∷ []

-- All rules of a group among groups of these names: its shape, its name, and each of its headings.
abbrev pub group_rules : List (List ℕ) → ℕ → Group → List (Finding → Type 0)
group_rules names place group =
    OneOf (shape_rules group)
    ∷ OneOf (name_rules names place group)
    ∷ Among group.headings (λ place heading. OneOf (heading_rules group place heading))
    ∷ []

-- a finding of the groups of a file
abbrev pub StandsInGroups : List Group → Finding → Type 0
StandsInGroups groups = Among groups (λ place group. OneOf (group_rules (map (λ g. g.name) groups) place group))
