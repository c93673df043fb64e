-- The contents of a file without findings are well formed.
use Rattle.std.proofs.Common.{◌≡◌, ◌≢◌, ℕ, ◌+◌, ◌<◌, ◌≤◌, List, [], ◌∷◌, ◌++◌, get_or, map, flat_map, refl, sym, ap, subst, ◌∙◌, arith, inl, inr}
use Rattle.std.specs.Prelude.{Any, nat_le, replicate}
use Rattle.std.specs.List.{AllByRecursion, list_any}
use Rattle.std.proofs.lemmas.Bool.{false_from_ne_true, leb-false}
use Rattle.ags_rows.specs.declared.rows.FileRow.{FileRow}
use Rattle.ags_rows.specs.declared.rows.Row.{Row}
use Rattle.ags_rows.specs.declared.rows.Group.{Group}
use Rattle.ags_rows.specs.declared.code.Code.{Code}
use Rattle.ags_rows.specs.declared.code.Code.TheVariants as codes
use Rattle.ags_rows.specs.declared.finding.Finding.{Finding}
use Rattle.ags_text.specs.Bytes.{Lacks}
use Rattle.ags_rows.specs.Spelling.{Spells, IsPiece, quoted}
use Rattle.ags_rows.specs.Lines.{TextLine}
use Rattle.ags_rows.specs.Rows.{descriptor_text, IsRow, RowsFrom}
use Rattle.ags_rows.specs.Groups.{as_file_row, rows_of}
use Rattle.ags_rows.specs.Collecting.{At}
use Rattle.ags_rows.specs.Stands.{StandsInLines, StandsInOrder, StandsInGroups}
use Rattle.ags_rows.specs.Findings.{FirstFound, FileGroups}
use Rattle.ags_rows.specs.Parsing.{later_phases}
use Rattle.ags_rows.specs.Contents.{contents_of, fields_of}
use Rattle.ags_rows.specs.Writing.{IsPlainByte, ArePlain, IsPlainGroup, AreDistinct}
use Rattle.ags_rows.proofs.AtPlaces.{all_from_at, all_left, all_right, at_read, at_from_read, none_by_test}
use Rattle.ags_rows.proofs.Breaking.{high_any}
use Rattle.ags_rows.proofs.Fields.{lacks_return, lacks_feed}
use Rattle.ags_rows.proofs.Pieces.{quoted_back}

-- ---- the bytes of a field are bytes of its line

piece_back : (P : ℕ → Type 0) (piece f : List ℕ) → IsPiece piece f → AllByRecursion P piece → AllByRecursion P f
piece_back P piece f p h =
    let front = replicate p.0 32 in
    let back = replicate p.1 32 in
    let parts = subst (AllByRecursion P) p.2 h in
    quoted_back P f (all_right P front (quoted f) (all_left P (front ++ quoted f) back parts))

fields_back : (P : ℕ → Type 0) (t : List ℕ) (fs : List (List ℕ)) → Spells t fs → AllByRecursion P t → AllByRecursion (λ f. AllByRecursion P f) fs
fields_back P t [] s h = absurd s
fields_back P t (f ∷ []) s h = (piece_back P t f s h, tt)
fields_back P t (f ∷ g ∷ fs) s h =
    let parts = subst (AllByRecursion P) s.2 h in
    (piece_back P s.0 f s.3 (all_left P s.0 (44 ∷ s.1) parts), fields_back P s.1 (g ∷ fs) s.4 (all_right P s.0 (44 ∷ s.1) parts).1)

-- ASCII
abbrev pub IsLow : List ℕ → Type 0
IsLow text = AllByRecursion (λ b. b < 128) text

text_plain : (t : List ℕ) → IsLow t → Lacks 13 t → Lacks 10 t → AllByRecursion IsPlainByte t
text_plain [] a b c = tt
text_plain (x ∷ t) a b c = (record { ascii = a.0; no_return = b.0; no_feed = c.0 }, text_plain t a.1 b.1 c.1)

row_plain : (line : TextLine) (row : FileRow) → IsRow line row → IsLow line.content → ArePlain row.items
row_plain line row r low =
    let t = line.content in
    let fields = descriptor_text row.descriptor ∷ row.items in
    (fields_back IsPlainByte t fields r (text_plain t low (lacks_return t fields r) (lacks_feed t fields r))).1

-- ---- lines that break nothing are ASCII

low_text : (t : List ℕ) → (Any (λ b. 128 ≤ b) t → ⊥) → IsLow t
low_text t none =
    none_by_test (λ b. b < 128) (λ b. nat_le 128 b) (λ b. leb-false 128 b) t (false_from_ne_true (list_any (λ b. nat_le 128 b) t) (λ e. none (high_any t e)))

-- a finding about a line or a file
abbrev noted : ℕ → Code → Finding
noted line code = record { line = line; code = code; subject = [] }

low_lines : (lines : List TextLine) → ((f : Finding) → StandsInLines lines f → ⊥) → AllByRecursion (λ l. IsLow l.content) lines
low_lines lines clear = all_from_at (λ l. IsLow l.content) lines (λ k l at. low_text l.content (λ any. clear (noted (k + 1) codes.Rule1) (k, l, at, inl (any, refl, refl, refl))))

rows_plain : (n : ℕ) (lines : List TextLine) (rows : List FileRow) → RowsFrom n lines rows → AllByRecursion (λ l. IsLow l.content) lines → AllByRecursion (λ r. ArePlain r.items) rows
rows_plain n [] rows h low = subst (AllByRecursion (λ (r : FileRow). ArePlain r.items)) (sym h) tt
rows_plain n (l ∷ lines) rows (inl h) low = subst (AllByRecursion (λ (r : FileRow). ArePlain r.items)) (sym h.2) (row_plain l h.0 h.4 low.0, rows_plain (n + 1) lines h.1 h.5 low.1)
rows_plain n (l ∷ lines) rows (inr h) low = rows_plain (n + 1) lines rows h.1 low.1

-- ---- the groups of plain rows

data_plain : (rows : List Row) → AllByRecursion (λ r. ArePlain r.items) (map as_file_row rows) → AllByRecursion ArePlain (map fields_of rows)
data_plain [] h = tt
data_plain (r ∷ rows) h = (h.0, data_plain rows h.1)

contents_plain : (groups : List Group) → AllByRecursion (λ r. ArePlain r.items) (flat_map rows_of groups) → AllByRecursion IsPlainGroup (contents_of groups)
contents_plain [] h = tt
contents_plain (g ∷ groups) h =
    let rest = h.1.1.1.1 in
    let rows = map as_file_row g.rows in
    let P = λ (r : FileRow). ArePlain r.items in
    let data_rows = data_plain g.rows (all_left P rows (flat_map rows_of groups) rest) in (
      record { name = h.0.0; headings = h.1.0; units = h.1.1.0; types = h.1.1.1.0; rows = data_rows },
      contents_plain groups (all_right P rows (flat_map rows_of groups) rest),
    )

-- ---- texts that occur once

pub once_apart : (texts : List (List ℕ)) (i j : ℕ) (x y : List ℕ) → AreDistinct texts → i < j → At texts i x → At texts j y → x ≡ y → ⊥
once_apart texts i j x y once lt a b e =
    once i j x lt b.0 (a.1 ∙ e ∙ sym (at_read texts j y x b))

pub once_from : (texts : List (List ℕ)) → ((i j : ℕ) (x y : List ℕ) → i < j → At texts i x → At texts j y → x ≡ y → ⊥) → AreDistinct texts
once_from texts apart i j d lt below e =
    apart i j (get_or texts i d) (get_or texts j d) lt (at_from_read texts i _ d (omega (arith, lt, below)) refl) (at_from_read texts j _ d below refl) e

-- ---- a file without findings

-- the first phase has no finding, and the later ones give none
pub clear_first : (Stands : Finding → Type 0) (later : List (Finding → Type 0)) → FirstFound (Stands ∷ later) [] → ((f : Finding) → Stands f → ⊥) × FirstFound later []
clear_first Stands later (inl h) = absurd (h.1 refl)
clear_first Stands later (inr h) = h

pub read_plain : (bytes : List ℕ) (groups : List Group) → FileGroups bytes groups → (groups ≢ []) × AllByRecursion IsPlainGroup (contents_of groups)
read_plain bytes groups h =
    let lines = clear_first (StandsInLines h.0.lines) (later_phases h.0.rows h.0.groups) h.2 in
    let order = clear_first (StandsInOrder h.0.rows) (StandsInGroups h.0.groups ∷ []) lines.1 in
    let plain = rows_plain 1 h.0.lines h.0.rows h.1.rows (low_lines h.0.lines lines.0) in
    let some : groups ≢ [] = λ e. order.0 (noted 0 codes.Rule2) (inl (sym h.3 ∙ ap (λ (l : List Group). flat_map rows_of l) e, refl, refl, refl)) in
    (some, contents_plain groups (subst (AllByRecursion (λ (r : FileRow). ArePlain r.items)) (sym h.3) plain))
