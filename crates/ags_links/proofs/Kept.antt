-- What the index keeps for the groups.
use Rattle.std.proofs.Common.{◌≡◌, ℕ, ◌+◌, ◌<◌, ◌≤◌, Bool, true, false, cond, List, [], ◌∷◌, ◌++◌, length, take, get_or, map, filter, flat_map, refl, sym, ap, subst, ◌∙◌, arith, inl, inr, Contains, All, Bor, append-nil, length-append}
use Rattle.std.specs.List.Sorted.{IsStrictlyIncreasing}
use Rattle.std.proofs.lemmas.List.{take_more, take_all, length-take-le, length-map, map-append, map_more, map_push, length_push}
use Rattle.std.proofs.lemmas.List.Elements.{Contains-get_or, filter-append}
use Rattle.ags_rows.specs.declared.rows.Group.{Group}
use Rattle.ags_rows.specs.Contents.{group_contents, contents_of, fields_of}
use Rattle.ags_rows.specs.Groups.{row_count}
use Rattle.ags_dict.specs.Entries.{Entries}
use Rattle.ags_links.specs.declared.families.Family.{Family}
use Rattle.ags_links.specs.Lookups.{Lookup, found, Finds}
use Rattle.ags_links.specs.declared.placed.PlacedRow.{PlacedRow}
use Rattle.ags_rows.specs.Collecting.{At}
use Rattle.ags_links.specs.DataRows.{DataRow, data_rows, data_rows_of_group, row_in}
use Rattle.ags_links.specs.Families.{HasText, HasGroupName, HasFamily, IsFamily, AreKept, AreFamilies}
use Rattle.ags_links.specs.Placing.{IsPlaced, row_of}
use Rattle.ags_links.proofs.Growing.{flat_map_push}
use Rattle.ags_links.proofs.RowLemmas.{one_at, at_cases}
use Rattle.ags_rows.proofs.Lemmas.{at_map}

-- the rows of one more group
pub data_rows_next : (groups : List Group) (i : ℕ) (d : Group) → i < length groups → data_rows (contents_of (take (i + 1) groups)) ≡ data_rows (contents_of (take i groups)) ++ data_rows_of_group (group_contents (get_or groups i d))
data_rows_next groups i d lt =
    ap (λ gs. data_rows (contents_of gs)) (take_more groups i d lt)
    ∙ ap data_rows (map-append group_contents (take i groups) (get_or groups i d ∷ []))
    ∙ flat_map_push data_rows_of_group (contents_of (take i groups)) (group_contents (get_or groups i d))

-- each DATA row of the groups is a row of the file
rows_counted : (groups : List Group) → length (data_rows (contents_of groups)) ≡ row_count groups
rows_counted [] = refl
rows_counted (g ∷ groups) =
    omega (
      arith,
      rows_counted groups,
      length-append (data_rows_of_group (group_contents g)) (data_rows (contents_of groups)),
      length-append g.rows (flat_map (λ (h : Group). h.rows) groups),
      length-map (map fields_of g.rows) (row_in (group_contents g)),
      length-map g.rows fields_of,
    )

pub kept_counted : (groups : List Group) (rows : List PlacedRow) → map row_of rows ≡ data_rows (contents_of groups) → length rows ≡ row_count groups
kept_counted groups rows e = sym (length-map rows row_of) ∙ ap length e ∙ rows_counted groups

-- a kept row's group is at the row's place
pub placed_at : (groups : List Group) (rows : List PlacedRow) (i : ℕ) (x : PlacedRow) → All (IsPlaced groups) rows → At rows i x → At groups x.place x.group.now
placed_at groups rows i x placed h = subst (IsPlaced groups) h.1 (placed i x h.0)

-- nothing yet
pub kept_none : {G X : Type 0} (Has : ℕ → G → X → Type 0) (kept : List X) → kept ≡ [] → AreKept [] kept Has
kept_none Has kept e = record {
  each_has = ap length e;
  each = λ place group x h k. absurd (omega (arith, h.0));
}

-- one more
pub kept_more : {G X : Type 0} (Has : ℕ → G → X → Type 0) (groups : List G) (kept : List X) (g : G) (y : X) → AreKept groups kept Has → Has (length groups) g y → AreKept (groups ++ g ∷ []) (kept ++ y ∷ []) Has
kept_more Has groups kept g y so_far here = record {
  each_has = omega (arith, so_far.each_has, length_push groups g, length_push kept y);
  each = λ place group x h k. elim (at_cases groups g place group h) [
    | inl was ↦ elim (at_cases kept y place x k) [
      | inl also ↦ so_far.each place group x was also
      | inr last ↦ absurd (omega (arith, was.0, last.0, so_far.each_has))
    ]
    | inr is ↦ elim (at_cases kept y place x k) [
      | inl also ↦ absurd (omega (arith, also.0, is.0, so_far.each_has))
      | inr last ↦ subst (λ n. Has n group x) (sym is.0) (subst (λ z. Has (length groups) z x) is.1 (subst (λ z. Has (length groups) g z) last.1 here))
    ]
  ];
}

pub kept_next : {G X : Type 0} (Has : ℕ → G → X → Type 0) (groups : List G) (i : ℕ) (kept : List X) (g : G) (y : X) → i < length groups → g ≡ get_or groups i g
    → AreKept (take i groups) kept Has → Has i g y → AreKept (take (i + 1) groups) (kept ++ y ∷ []) Has
kept_next Has groups i kept g y lt is so_far here =
    let size : length (take i groups) ≡ i = length-take-le i groups (omega arith) in
    subst (λ gs. AreKept gs (kept ++ y ∷ []) Has) (sym (take_more groups i g lt ∙ ap (λ z. take i groups ++ z ∷ []) (sym is)))
    (kept_more Has (take i groups) kept g y so_far (subst (λ n. Has n g y) (sym size) here))

pub kept_all : {G X : Type 0} (Has : ℕ → G → X → Type 0) (groups : List G) (i : ℕ) (kept : List X) → length groups ≤ i → AreKept (take i groups) kept Has → AreKept groups kept Has
kept_all Has groups i kept le so_far = subst (λ gs. AreKept gs kept Has) (take_all i groups le) so_far

-- each row has what is kept for its group
pub rows_have : (entries : Entries) (groups : List Group) (families : List Family) (rows : List PlacedRow) → AreFamilies entries groups families → All (IsPlaced groups) rows → All (HasFamily entries families) rows
rows_have entries groups families rows kept placed i d lt =
    let row = get_or rows i d in
    let at_group : At groups row.place row.group.now = placed i d lt in
    (omega (arith, at_group.0, kept.each_has), λ family at_family. kept.each row.place row.group.now family at_group at_family)

-- what is kept for a row's group
pub kept_family : (entries : Entries) (families : List Family) (rows : List PlacedRow) (i : ℕ) (x : PlacedRow) (family : Family) → All (HasFamily entries families) rows → At rows i x → get_or families x.place family ≡ family → IsFamily entries x.group.now family
kept_family entries families rows i x family have h is =
    let has = subst (HasFamily entries families) h.1 (have i x h.0) in
    has.1 family (has.0, is)

-- ---- the rows of a group

-- a row found by its group is a row
pub found_below : (by_group : Lookup) (rows : List DataRow) (group : List ℕ) (numbers : List ℕ) → Finds by_group (HasText rows HasGroupName) → numbers ≡ found by_group group → All (λ n. n < length rows) numbers
found_below by_group rows group numbers finds e k d lt =
    (((finds.exact group (get_or numbers k d)).0 (subst (λ l. Contains l (get_or numbers k d)) e (Contains-get_or numbers k d lt))).1).0

pub first_below : (by_group : Lookup) (rows : List PlacedRow) (group : List ℕ) (numbers : List ℕ) → Finds by_group (HasText (map row_of rows) HasGroupName) → numbers ≡ found by_group group → 0 < length numbers → get_or numbers 0 0 < length rows
first_below by_group rows group numbers finds e lt =
    let below : get_or numbers 0 0 < length (map row_of rows) = found_below by_group (map row_of rows) group numbers finds e 0 0 lt in
    omega (arith, below, length-map rows row_of)

pub found_rising : (by_group : Lookup) (rows : List DataRow) (group : List ℕ) (numbers : List ℕ) → Finds by_group (HasText rows HasGroupName) → numbers ≡ found by_group group → IsStrictlyIncreasing numbers
found_rising by_group rows group numbers finds e = subst IsStrictlyIncreasing (sym e) (finds.rising group)

-- the first row that is found is of the group
pub first_of_group : (by_group : Lookup) (rows : List PlacedRow) (group : List ℕ) (numbers : List ℕ) (x : PlacedRow) → Finds by_group (HasText (map row_of rows) HasGroupName) → numbers ≡ found by_group group → 0 < length numbers
    → At rows (get_or numbers 0 0) x → x.group.now.name ≡ group
first_of_group by_group rows group numbers x finds e lt at =
    let n = get_or numbers 0 0 in
    let h = (finds.exact group n).0 (subst (λ l. Contains l n) e (Contains-get_or numbers 0 0 lt)) in
    ap (λ (r : DataRow). r.group) (one_at (map row_of rows) n (row_of x) h.0 (at_map row_of rows n x at) h.1) ∙ h.2

-- ---- the headings of a list that are in a HEADING row

abbrev pub texts : List (Bor (List ℕ)) → List (List ℕ)
texts headings = map (λ h. h.now) headings

pub texts_next : (headings : List (Bor (List ℕ))) (i : ℕ) (d : Bor (List ℕ)) → i < length headings → texts (take (i + 1) headings) ≡ texts (take i headings) ++ (get_or headings i d).now ∷ []
texts_next headings i d lt = map_more (λ (h : Bor (List ℕ)). h.now) headings i d lt

-- those of the next heading and of the headings before it that pass a test
pub passing_next : (p : List ℕ → Bool) (headings : List (Bor (List ℕ))) (i : ℕ) (d : Bor (List ℕ)) (t : Bool) → i < length headings → p (get_or headings i d).now ≡ t
    → filter p (texts (take (i + 1) headings)) ≡ filter p (texts (take i headings)) ++ cond t ((get_or headings i d).now ∷ []) []
passing_next p headings i d t lt tested =
    let x = (get_or headings i d).now in
    ap (filter p) (texts_next headings i d lt) ∙ filter-append p (texts (take i headings)) (x ∷ []) ∙ ap (λ b. filter p (texts (take i headings)) ++ cond b (x ∷ []) []) tested

-- the next heading is taken
pub heading_taken : (p : List ℕ → Bool) (old new headings : List (Bor (List ℕ))) (i : ℕ) (d : Bor (List ℕ)) → i < length headings → texts old ≡ filter p (texts (take i headings)) → p (get_or headings i d).now ≡ true
    → new ≡ old ++ get_or headings i d ∷ [] → texts new ≡ filter p (texts (take (i + 1) headings))
heading_taken p old new headings i d lt so_far passes grown =
    let x = get_or headings i d in
    ap texts grown ∙ map_push (λ (h : Bor (List ℕ)). h.now) old x ∙ ap (λ l. l ++ x.now ∷ []) so_far ∙ sym (passing_next p headings i d true lt passes)

-- the next heading is passed over
pub heading_passed : (p : List ℕ → Bool) (old headings : List (Bor (List ℕ))) (i : ℕ) (d : Bor (List ℕ)) → i < length headings → texts old ≡ filter p (texts (take i headings)) → p (get_or headings i d).now ≡ false
    → texts old ≡ filter p (texts (take (i + 1) headings))
heading_passed p old headings i d lt so_far fails =
    so_far ∙ sym (append-nil (filter p (texts (take i headings)))) ∙ sym (passing_next p headings i d false lt fails)
