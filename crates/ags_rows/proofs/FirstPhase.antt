-- What is read where the first phase finds nothing, the groups or what a later phase finds, and what the first phase finds.
use Rattle.std.proofs.Common.{◌≡◌, ◌≢◌, ℕ, ◌≤◌, List, [], ◌∷◌, length, Contains, Result, OnOk, refl, subst, inl, inr}
use Rattle.std.proofs.lemmas.Result.{IfOk-weaker}
use Rattle.ags_rows.specs.declared.scanning.RowsError.{RowsError}
use Rattle.ags_rows.specs.declared.rows.FileRow.{FileRow}
use Rattle.ags_rows.specs.declared.rows.Group.{Group}
use Rattle.ags_rows.specs.declared.finding.Finding.{Finding}
use Rattle.ags_rows.specs.Lines.{TextLine, Lines, after_byte_order_mark}
use Rattle.ags_rows.specs.Rows.{RowsFrom}
use Rattle.ags_rows.specs.Groups.{Groups}
use Rattle.ags_rows.specs.Collecting.{Adds}
use Rattle.ags_rows.specs.Stands.{StandsInLines, StandsInLinesLoosely}
use Rattle.ags_rows.specs.Findings.{FileParts, ArePartsOf, FirstFound, GroupsOrNone, AreExactly}
use Rattle.ags_rows.specs.Parsing.{StandsInBytes, StandsInSpelling, AreTaken, AreRows, later_phases, LaterFindings}
use Rattle.ags_rows.proofs.Collecting.{adds_same, listed_all, none_listed}
use Rattle.ags_rows.proofs.Breaking.{adds_lines, spelled_loosely, loosely_spelled}
use Rattle.ags_rows.proofs.Cuts.{some_groups}
use Rattle.ags_rows.proofs.FewRows.{rows_within}
use Rattle.ags_rows.proofs.Once.{same_cutting}

-- ---- one phase: what was noted, where nothing was noted before, is returned

pub listed_none : {Stands : Finding → Type 0} {old noted : List Finding} (result : Result (Unit {0}) RowsError) → old ≡ [] → Adds Stands old noted
    → OnOk result (AreExactly (Contains noted) []) → OnOk result (AreExactly Stands [])
listed_none {Stands} {old} {noted} result none adds h = IfOk-weaker result _ _ (λ _ all. listed_all noted [] (subst (λ l. Adds Stands l noted) none adds) all) h

pub listed_some : {Stands : Finding → Type 0} {old noted : List Finding} (found : List Finding) → old ≡ [] → Adds Stands old noted
    → (found ≢ []) × AreExactly (Contains noted) found → (found ≢ []) × AreExactly Stands found
listed_some {Stands} {old} {noted} found none adds h = (h.0, listed_all noted found (subst (λ l. Adds Stands l noted) none adds) h.1)

-- ---- the first phase

-- the rows that the lines spell, with the findings noted of them
taken : (Stands : List TextLine → Finding → Type 0) (bytes : List ℕ) (lines : List TextLine) (noted : List Finding) (rows : List FileRow) (found : List Finding)
    → Lines (after_byte_order_mark bytes) lines → RowsFrom 1 lines rows → Adds (Stands lines) [] noted → AreExactly (Contains noted) found → AreRows Stands bytes rows found
taken Stands bytes lines noted rows found cut read adds lists =
    let groups = some_groups rows in
    (record { lines = lines; rows = rows; groups = groups.0 }, record { lines = cut; rows = read; groups = groups.1 }, refl, listed_all noted found adds lists)

-- the findings noted of the lines' bytes and those in their spelling, together
pub rows_strict : (bytes : List ℕ) (lines : List TextLine) (noted : List Finding) (rows : List FileRow) (found : List Finding)
    → Lines (after_byte_order_mark bytes) lines → Adds (StandsInBytes lines) [] noted → AreTaken lines noted rows found → AreRows StandsInLines bytes rows found
rows_strict bytes lines noted rows found cut first h = taken StandsInLines bytes lines h.1 rows found cut h.0 (adds_lines lines [] noted h.1 first h.2) h.3

-- the findings in the lines' spelling, and none noted before
pub rows_loose : (bytes : List ℕ) (lines : List TextLine) (noted : List Finding) (rows : List FileRow) (found : List Finding)
    → Lines (after_byte_order_mark bytes) lines → noted ≡ [] → AreTaken lines noted rows found → AreRows StandsInLinesLoosely bytes rows found
rows_loose bytes lines noted rows found cut none h =
    let spelled = subst (λ (l : List Finding). Adds (StandsInSpelling lines) l h.1) none h.2 in
    taken StandsInLinesLoosely bytes lines h.1 rows found cut h.0 (adds_same [] h.1 (spelled_loosely lines) (loosely_spelled lines) spelled) h.3

-- ---- the phases together, after a first phase of whichever kind

pub few_rows : (Stands : List TextLine → Finding → Type 0) (bytes : List ℕ) (rows : List FileRow) (found : List Finding) (most : ℕ) → AreRows Stands bytes rows found → length bytes ≤ most → length rows ≤ most
few_rows Stands bytes rows found most h le = rows_within bytes h.0.lines rows most h.1.lines (subst (λ (r : List FileRow). RowsFrom 1 h.0.lines r) h.2 h.1.rows) le

pub found_later : (Stands : List TextLine → Finding → Type 0) (bytes : List ℕ) (rows : List FileRow) (found : List Finding) → AreRows Stands bytes rows []
    → LaterFindings rows found
    → (file : FileParts) × ArePartsOf bytes file × FirstFound (Stands file.lines ∷ later_phases file.rows file.groups) found
found_later Stands bytes rows found h later =
    let file = h.0 in
    let first = later file.groups (subst (λ (r : List FileRow). GroupsOrNone r file.groups) h.2 h.1.groups) in
    (file, h.1, inr (none_listed [] h.3 refl, rw h.2 first))

pub groups_later : (Stands : List TextLine → Finding → Type 0) (bytes : List ℕ) (rows : List FileRow) (groups : List Group) → AreRows Stands bytes rows []
    → Groups rows groups × FirstFound (later_phases rows groups) []
    → (file : FileParts) × ArePartsOf bytes file × FirstFound (Stands file.lines ∷ later_phases file.rows file.groups) [] × Groups file.rows groups × (file.groups ≡ groups)
groups_later Stands bytes rows groups h later =
    let file = h.0 in
    let cut : Groups file.rows groups = rw h.2 later.0 in
    let same = same_cutting file.rows file.groups groups h.1.groups (inl cut) in
    (file, h.1, inr (none_listed [] h.3 refl, rw (h.2, same) later.1), cut, same)
