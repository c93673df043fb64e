-- The lines and rows of a file that is written.
use Rattle.std.proofs.Common.{◌≡◌, ◌≢◌, ℕ, zero, suc, ◌+◌, ◌<◌, Bool, true, false, eqb, ltb, ◌&&◌, ◌||◌, List, [], ◌∷◌, ◌++◌, length, map, flat_map, Option, Some, None, refl, sym, ap, subst, ◌∙◌, arith, inl, inr}
use Rattle.std.specs.Prelude.{◌⊎◌, nat_le, MatchOption, codes as bytes}
use Rattle.std.specs.List.{AllByRecursion, list_all}
use Rattle.std.proofs.lemmas.Bool.{eqb-true, and_parts, or_cases, ltb-true, leb-true}
use Rattle.std.proofs.lemmas.List.{append-nil, length-append}
use Rattle.std.proofs.lemmas.List.Elements.{All-from_recursion, All-contains}
use Rattle.ags_rows.specs.declared.rows.Ending.TheVariants.{CrLf, Lf, Nothing}
use Rattle.ags_rows.specs.declared.rows.Ending.{Ending}
use Rattle.ags_rows.specs.declared.rows.Descriptor.{Descriptor}
use Rattle.ags_rows.specs.declared.rows.Descriptor.TheVariants as kinds
use Rattle.ags_rows.specs.declared.rows.FileRow.{FileRow}
use Rattle.ags_rows.specs.declared.rows.Row.{Row}
use Rattle.ags_rows.specs.declared.rows.Group.{Group}
use Rattle.ags_rows.specs.declared.finding.Finding.{Finding}
use Rattle.ags_text.specs.Bytes.{Lacks}
use Rattle.ags_rows.specs.Spelling.{Spells, quoted, line_of}
use Rattle.ags_rows.specs.Lines.{TextLine, Lines, line_bytes, ending_bytes, after_byte_order_mark}
use Rattle.ags_rows.specs.Rows.{descriptor_text, IsRow, RowsFrom}
use Rattle.ags_rows.specs.Order.{may_follow, OutOfPlace}
use Rattle.ags_rows.specs.Groups.{as_file_row, rows_of}
use Rattle.ags_rows.specs.Collecting.{At, OneOf}
use Rattle.ags_rows.specs.Stands.{line_rules, StandsInLines, StandsInOrder}
use Rattle.ags_rows.specs.Parsing.{IsFirstLine, RestMayFollow}
use Rattle.ags_rows.specs.Contents.{Contents, group_contents}
use Rattle.ags_rows.specs.Writing.{written_row, group_lines, empty_line, written_lines, text_of, written_file, IsPlainByte, ArePlain, IsPlainGroup, IsWellFormedGroup, IsWellFormed}
use Rattle.ags_text.specs.Names.{is_capital, is_digit, is_group_name, is_heading_name}
use Rattle.ags_rows.proofs.Fields.{same_fields, line_spells}
use Rattle.ags_rows.proofs.Cuts.{type_ends, groups_after}
use Rattle.ags_rows.proofs.AtPlaces.{all_append, all_at, all_by_test, all_weaker, at_earlier}
use Rattle.ags_rows.proofs.Pieces.{quoted_all}
use Rattle.ags_rows.proofs.Cutting.{AreCut, lines_from_cut}
use Rattle.ags_rows.proofs.Breaking.{blank_clear, row_clear, blank_no_row, rows_join}

-- ---- a line

pub line_is_read : (fields : List (List ℕ)) (found : Option (List (List ℕ))) → fields ≢ [] → AllByRecursion (λ f. Lacks 13 f × Lacks 10 f) fields
    → MatchOption found ((others : List (List ℕ)) → Spells (line_of fields) others → ⊥) (λ others. Spells (line_of fields) others) → found ≡ Some fields
line_is_read fields None ne h m = absurd (m fields (line_spells fields ne h))
line_is_read fields (Some others) ne h m = ap Some (same_fields (line_of fields) others fields m (line_spells fields ne h))

-- ---- the bytes of a line

line_all : (P : ℕ → Type 0) (fields : List (List ℕ)) → P 34 → P 44 → AllByRecursion (λ f. AllByRecursion P f) fields → AllByRecursion P (line_of fields)
line_all P [] q c h = tt
line_all P (f ∷ []) q c h = all_append P (quoted f) [] (quoted_all P f q h.0) tt
line_all P (f ∷ g ∷ fields) q c h = all_append P (quoted f) (44 ∷ line_of (g ∷ fields)) (quoted_all P f q h.0) (c, line_all P (g ∷ fields) q c h.1)

plain_byte : (b : ℕ) → 13 < b → b < 128 → IsPlainByte b
plain_byte b more less = record { ascii = less; no_return = λ e. omega (arith, e, more); no_feed = λ e. omega (arith, e, more) }

-- by a test that computes
abbrev pub is_plain : List ℕ → Bool
is_plain t = list_all (λ b. ltb 13 b && ltb b 128) t

pub plain_from : (t : List ℕ) → is_plain t ≡ true → AllByRecursion IsPlainByte t
plain_from t e = all_by_test IsPlainByte (λ b. ltb 13 b && ltb b 128) each t e where
  each : (b : ℕ) → ltb 13 b && ltb b 128 ≡ true → IsPlainByte b
  each b e = let q = and_parts (ltb 13 b) (ltb b 128) e in plain_byte b (ltb-true 13 b q.0) (ltb-true b 128 q.1)

descriptor_plain : (k : Descriptor) → AllByRecursion IsPlainByte (descriptor_text k)
descriptor_plain kinds.Group = plain_from (bytes "GROUP") refl
descriptor_plain kinds.Heading = plain_from (bytes "HEADING") refl
descriptor_plain kinds.Unit = plain_from (bytes "UNIT") refl
descriptor_plain kinds.Type = plain_from (bytes "TYPE") refl
descriptor_plain kinds.Data = plain_from (bytes "DATA") refl

no_return : (t : List ℕ) → AllByRecursion IsPlainByte t → Lacks 13 t
no_return t h = all_weaker (λ b p. p.no_return) t h

no_feed : (t : List ℕ) → AllByRecursion IsPlainByte t → Lacks 10 t
no_feed t h = all_weaker (λ b p. p.no_feed) t h

-- ---- what is well formed can be written

between : (low high b : ℕ) → nat_le low b && nat_le b high ≡ true → 13 < low → high < 128 → IsPlainByte b
between low high b e more less =
    let p = and_parts (nat_le low b) (nat_le b high) e in
    plain_byte b (omega (arith, leb-true low b p.0, more)) (omega (arith, leb-true b high p.1, less))

group_letter_plain : (b : ℕ) → is_capital b || is_digit b ≡ true → IsPlainByte b
group_letter_plain b e = elim (or_cases (is_capital b) (is_digit b) e) [
  | inl p ↦ between 65 90 b p (omega arith) (omega arith)
  | inr p ↦ between 48 57 b p (omega arith) (omega arith)
]

heading_letter_plain : (b : ℕ) → (is_capital b || is_digit b) || eqb b 95 ≡ true → IsPlainByte b
heading_letter_plain b e = elim (or_cases (is_capital b || is_digit b) (eqb b 95) e) [
  | inl p ↦ group_letter_plain b p
  | inr p ↦ let q = eqb-true b 95 p in plain_byte b (omega (arith, q)) (omega (arith, q))
]

group_name_plain : (name : List ℕ) → is_group_name name ≡ true → AllByRecursion IsPlainByte name
group_name_plain name e = all_by_test IsPlainByte (λ b. is_capital b || is_digit b) group_letter_plain name (and_parts (nat_le 1 (length name) && nat_le (length name) 4) (list_all (λ b. is_capital b || is_digit b) name) e).1

heading_name_plain : (name : List ℕ) → is_heading_name name ≡ true → AllByRecursion IsPlainByte name
heading_name_plain name e = all_by_test IsPlainByte (λ b. (is_capital b || is_digit b) || eqb b 95) heading_letter_plain name (and_parts (nat_le 1 (length name) && nat_le (length name) 9) (list_all (λ b. (is_capital b || is_digit b) || eqb b 95) name) e).1

group_plain : (g : Contents) → IsWellFormedGroup g → IsPlainGroup g
group_plain g h = record {
  name = group_name_plain g.name h.name;
  headings = all_weaker (λ f e. heading_name_plain f e) g.headings h.headings.named;
  units = h.units.plain;
  types = h.types.plain;
  rows = all_weaker (λ r u. u.plain) g.rows h.rows;
}

pub groups_plain : (gs : List Contents) → IsWellFormed gs → AllByRecursion IsPlainGroup gs
groups_plain gs h = all_weaker (λ g w. group_plain g w) gs h.each

-- ---- each line

-- a line that breaks nothing
pub record IsClean (line : TextLine) : Type 0 where
  pub whole : line.ending ≡ CrLf
  pub plain : AllByRecursion IsPlainByte line.content
  pub kind : (line.content ≡ []) ⊎ ((row : FileRow) × IsRow line row)

spelled : (k : Descriptor) (items : List (List ℕ)) → ArePlain items → Spells (line_of (descriptor_text k ∷ items)) (descriptor_text k ∷ items)
spelled k items h = line_spells (descriptor_text k ∷ items) (λ e. absurd cc) (all_weaker (λ f p. (no_return f p, no_feed f p)) (descriptor_text k ∷ items) (descriptor_plain k, h))

row_clean : (k : Descriptor) (items : List (List ℕ)) → ArePlain items → IsClean (written_row k items)
row_clean k items h = record {
  whole = refl;
  plain = line_all IsPlainByte (descriptor_text k ∷ items) (plain_byte 34 (omega arith) (omega arith)) (plain_byte 44 (omega arith) (omega arith)) (descriptor_plain k, h);
  kind = inr (record { line = 0; descriptor = k; items = items }, spelled k items h);
}

data_clean : (rows : List (List (List ℕ))) → AllByRecursion ArePlain rows → AllByRecursion IsClean (map (written_row kinds.Data) rows)
data_clean [] h = tt
data_clean (row ∷ rows) h = (row_clean kinds.Data row h.0, data_clean rows h.1)

group_clean : (g : Contents) → IsPlainGroup g → AllByRecursion IsClean (group_lines g)
group_clean g h =
    (row_clean kinds.Group (g.name ∷ []) (h.name, tt), (row_clean kinds.Heading g.headings h.headings, (row_clean kinds.Unit g.units h.units, (row_clean kinds.Type g.types h.types, data_clean g.rows h.rows))))

empty_clean : IsClean empty_line
empty_clean = record { whole = refl; plain = tt; kind = inl refl }

lines_clean : (gs : List Contents) → AllByRecursion IsPlainGroup gs → AllByRecursion IsClean (written_lines gs)
lines_clean [] h = tt
lines_clean (g ∷ []) h = group_clean g h.0
lines_clean (g ∷ k ∷ gs) h = all_append IsClean (group_lines g) (empty_line ∷ written_lines (k ∷ gs)) (group_clean g h.0) (empty_clean, lines_clean (k ∷ gs) h.1)

clean_breaks_none : (n : ℕ) (line : TextLine) → IsClean line → (f : Finding) → OneOf (line_rules n line) f → ⊥
clean_breaks_none n line c f (inl h) =
    let q = h.0 in
    let p = All-contains IsPlainByte line.content q.1 (All-from_recursion IsPlainByte line.content c.plain) (q.0, q.2, q.3) in
    omega (arith, p.ascii, q.4)
clean_breaks_none n line c f (inr (inl h)) = let z : Lf ≡ CrLf = sym h.0 ∙ c.whole in absurd cc
clean_breaks_none n line c f (inr (inr h)) = elim c.kind [
  | inl e ↦ blank_clear n line (subst (AllByRecursion (λ b. b ≡ 32)) (sym e) tt) (no_return line.content c.plain) f h
  | inr k ↦ row_clear n line k.0 k.1 f h
]

-- ---- the lines of the text

line_first : (line : TextLine) (rest : List ℕ) → IsClean line → IsFirstLine (line_bytes line ++ rest) line rest
line_first line rest c = record {
  parts = refl;
  whole = (
    λ e.
        let z : line.content ++ 13 ∷ 10 ∷ [] ≡ [] = subst (λ (x : Ending). line.content ++ ending_bytes x ≡ []) c.whole e in
        omega (arith, ap length z, length-append line.content (13 ∷ 10 ∷ [])),
    no_feed line.content c.plain,
    λ e. let z : CrLf ≡ Lf = sym c.whole ∙ e in absurd cc,
  );
  last = λ e. let z : CrLf ≡ Nothing = sym c.whole ∙ e in absurd cc;
}

pub lines_written : (lines : List TextLine) → AllByRecursion IsClean lines → AreCut (text_of lines) lines
lines_written [] h = refl
lines_written (line ∷ lines) h = (text_of lines, line_first line (text_of lines) h.0, lines_written lines h.1)

-- ---- the rows of the lines

pub data_from : ℕ → List (List (List ℕ)) → List Row
data_from n [] = []
data_from n (cells ∷ rows) = record { line = n; cells = cells } ∷ data_from (n + 1) rows

-- the group, where its first line has this number
abbrev pub group_from : ℕ → Contents → Group
group_from n g = record {
  name = g.name;
  line = n;
  heading_line = n + 1;
  headings = g.headings;
  unit_line = n + 1 + 1;
  units = g.units;
  type_line = n + 1 + 1 + 1;
  types = g.types;
  rows = data_from (n + 1 + 1 + 1 + 1) g.rows;
}

pub groups_from : ℕ → List Contents → List Group
groups_from n [] = []
groups_from n (g ∷ gs) = group_from n g ∷ groups_from (n + length (group_lines g) + 1) gs

data_rows : (n : ℕ) (rows : List (List (List ℕ))) → AllByRecursion ArePlain rows → RowsFrom n (map (written_row kinds.Data) rows) (map as_file_row (data_from n rows))
unfolding data_from
data_rows n [] h = refl
data_rows n (row ∷ rows) h =
    inl (record { line = n; descriptor = kinds.Data; items = row }, map as_file_row (data_from (n + 1) rows), refl, refl, spelled kinds.Data row h.0, data_rows (n + 1) rows h.1)

group_rows : (n : ℕ) (g : Contents) → IsPlainGroup g → RowsFrom n (group_lines g) (rows_of (group_from n g))
group_rows n g h =
    inl (
      _,
      _,
      refl,
      refl,
      spelled kinds.Group (g.name ∷ []) (h.name, tt),
      inl (
        _,
        _,
        refl,
        refl,
        spelled kinds.Heading g.headings h.headings,
        inl (
          _,
          _,
          refl,
          refl,
          spelled kinds.Unit g.units h.units,
          inl (_, _, refl, refl, spelled kinds.Type g.types h.types, data_rows (n + 1 + 1 + 1 + 1) g.rows h.rows),
        ),
      ),
    )

pub rows_written : (n : ℕ) (gs : List Contents) → AllByRecursion IsPlainGroup gs → RowsFrom n (written_lines gs) (flat_map rows_of (groups_from n gs))
unfolding groups_from
rows_written n [] h = refl
rows_written n (g ∷ []) h = subst (RowsFrom n (group_lines g)) (sym (append-nil (rows_of (group_from n g)))) (group_rows n g h.0)
rows_written n (g ∷ k ∷ gs) h =
    let next = n + length (group_lines g) in
    let rest = flat_map rows_of (groups_from (next + 1) (k ∷ gs)) in
    rows_join n (group_lines g) (empty_line ∷ written_lines (k ∷ gs)) (rows_of (group_from n g)) rest (group_rows n g h.0) (inr (blank_no_row empty_line tt, rows_written (next + 1) (k ∷ gs) h.1))

-- ---- the contents of the groups

data_contents : (n : ℕ) (rows : List (List (List ℕ))) → map (λ row. row.cells) (data_from n rows) ≡ rows
unfolding data_from
data_contents n [] = refl
data_contents n (row ∷ rows) = ap (λ (z : List (List (List ℕ))). row ∷ z) (data_contents (n + 1) rows)

pub contents_written : (n : ℕ) (gs : List Contents) → map group_contents (groups_from n gs) ≡ gs
unfolding groups_from
contents_written n [] = refl
contents_written n (g ∷ gs) =
    let rest = contents_written (n + length (group_lines g) + 1) gs in
    ap (λ (z : List Contents). group_contents (group_from n g) ∷ z) rest
    ∙ ap (λ (z : List (List (List ℕ))). record { name = g.name; headings = g.headings; units = g.units; types = g.types; rows = z } ∷ gs) (data_contents (n + 1 + 1 + 1 + 1) g.rows)

-- ---- rows in order break nothing

follows : (d : Descriptor) (rows : List FileRow) → RestMayFollow d rows → (k : ℕ) (a b : FileRow) → At rows k a → At rows (suc k) b → may_follow a.descriptor b.descriptor ≡ true
follows d [] m k a b p q = absurd (omega (arith, p.0))
follows d (x ∷ []) m k a b p q = absurd (omega (arith, q.0))
follows d (x ∷ y ∷ rows) m zero a b p q =
    subst (λ (z : FileRow). may_follow z.descriptor b.descriptor ≡ true) p.1 (subst (λ (z : FileRow). may_follow x.descriptor z.descriptor ≡ true) q.1 m.2.0)
follows d (x ∷ y ∷ rows) m (suc k) a b p q = follows x.descriptor (y ∷ rows) m.2 k a b (at_earlier x (y ∷ rows) k a p) (at_earlier x (y ∷ rows) (suc k) b q)

ends_whole : (d : Descriptor) (rows : List FileRow) → RestMayFollow d rows → (k : ℕ) (a : FileRow) → At rows k a → k + 1 ≡ length rows → may_follow a.descriptor kinds.Group ≡ true
ends_whole d [] m k a p e = absurd (omega (arith, p.0))
ends_whole d (x ∷ []) m zero a p e = subst (λ (r : FileRow). may_follow r.descriptor kinds.Group ≡ true) p.1 m.2
ends_whole d (x ∷ []) m (suc k) a p e = absurd (omega (arith, p.0))
ends_whole d (x ∷ y ∷ rows) m zero a p e = absurd (omega (arith, e))
ends_whole d (x ∷ y ∷ rows) m (suc k) a p e = ends_whole x.descriptor (y ∷ rows) m.2 k a (at_earlier x (y ∷ rows) k a p) (omega (arith, e))

named : (d : Descriptor) (rows : List FileRow) → RestMayFollow d rows → (k : ℕ) (a : FileRow) → At rows k a → a.descriptor ≡ kinds.Group → length a.items ≡ 1
named d [] m k a p e = absurd (omega (arith, p.0))
named d (x ∷ rows) m zero a p e = subst (λ (r : FileRow). r.descriptor ≡ kinds.Group → length r.items ≡ 1) p.1 m.1 e
named d (x ∷ rows) m (suc k) a p e = named x.descriptor rows m.2 k a (at_earlier x rows k a p) e

place_clear : (x : FileRow) (rows : List FileRow) → x.descriptor ≡ kinds.Group → RestMayFollow kinds.Type (x ∷ rows) → (place : ℕ) (row : FileRow) → At (x ∷ rows) place row → OutOfPlace (x ∷ rows) place row → ⊥
place_clear x rows first m place row at (inl h) =
    let here : At (x ∷ rows) 0 row = subst (λ (k : ℕ). At (x ∷ rows) k row) h.0 at in
    h.1 (subst (λ (r : FileRow). r.descriptor ≡ kinds.Group) here.1 first)
place_clear x rows first m place row at (inr (inl h)) =
    let second : place ≡ suc h.1 = omega (arith, h.2) in
    let here : At (x ∷ rows) (suc h.1) row = subst (λ (k : ℕ). At (x ∷ rows) k row) second at in
    let z : true ≡ false = sym (follows kinds.Type (x ∷ rows) m h.1 h.0 row h.3 here) ∙ h.4 in cc
place_clear x rows first m place row at (inr (inr h)) =
    let z : true ≡ false = sym (ends_whole kinds.Type (x ∷ rows) m place row at h.0) ∙ h.1 in cc

order_clear : (x : FileRow) (rows : List FileRow) → x.descriptor ≡ kinds.Group → RestMayFollow kinds.Type (x ∷ rows) → (f : Finding) → StandsInOrder (x ∷ rows) f → ⊥
order_clear x rows first m f (inl h) = let z : x ∷ rows ≡ [] = h.0 in cc
order_clear x rows first m f (inr (inl h)) = elim h.3 [
  | inl k ↦ place_clear x rows first m h.0 h.1 h.2 k.0
  | inr (inl k) ↦ k.0.1 (named kinds.Type (x ∷ rows) m h.0 h.1 h.2 k.0.0)
  | inr (inr k) ↦ k
]
order_clear x rows first m f (inr (inr h)) = h

-- ---- the lines and rows of a file that is written break nothing

pub lines_clear : (gs : List Contents) → AllByRecursion IsPlainGroup gs → (f : Finding) → StandsInLines (written_lines gs) f → ⊥
lines_clear gs plain f h = clean_breaks_none (h.0 + 1) h.1 (all_at IsClean (written_lines gs) h.0 h.1 (lines_clean gs plain) h.2) f h.3

pub rows_clear : (gs : List Contents) → gs ≢ [] → (f : Finding) → StandsInOrder (flat_map rows_of (groups_from 1 gs)) f → ⊥
unfolding groups_from
rows_clear [] some f h = some refl
rows_clear (g ∷ gs) some f h = order_clear _ _ refl (groups_after (groups_from 1 (g ∷ gs)) kinds.Type type_ends []) f h

-- ---- the text of a file that is written

pub lines_are : (gs : List Contents) → AllByRecursion IsPlainGroup gs → Lines (after_byte_order_mark (written_file gs)) (written_lines gs)
lines_are gs h = lines_from_cut _ (written_lines gs) (subst (λ (t : List ℕ). AreCut t (written_lines gs)) (sym (no_mark gs)) (lines_written (written_lines gs) (lines_clean gs h))) where
  no_mark : (gs : List Contents) → after_byte_order_mark (written_file gs) ≡ written_file gs
  no_mark [] = refl
  no_mark (g ∷ []) = refl
  no_mark (g ∷ k ∷ gs) = refl
