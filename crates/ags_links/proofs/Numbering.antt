-- The numbers of the DATA rows of a file's groups.
use Rattle.std.proofs.Common.{◌≡◌, ℕ, suc, ◌+◌, ◌-◌, ◌≤◌, inl, inr, ◌⊎◌, List, [], ◌∷◌, ◌++◌, length, get_or, take, drop, refl, sym, ap, subst, ◌∙◌, arith, Contains}
use Rattle.std.proofs.lemmas.Bool.{cases_lt}
use Rattle.std.proofs.lemmas.List.{length-append, length-map, get_or_append_left, get_or-append-add, take-append-drop, take-take}
use Rattle.std.proofs.lemmas.List.Concat.{flat_map-append}
use Rattle.std.proofs.Math.Seq.{take-suc, drop-cons}
use Rattle.ags_rows.specs.Contents.{Contents}
use Rattle.ags_rows.specs.Collecting.{At}
use Rattle.ags_links.specs.DataRows.{DataRow, IsRowOfGroup, row_in, data_rows_of_group, data_rows, rows_before}
use Rattle.ags_links.specs.Laws.{RowsAreNumbered, RowNumbersAreUnique, RowsBeforeAddUp}
use Rattle.ags_links.proofs.Growing.{flat_map_push}
use Rattle.ags_links.proofs.RowLemmas.{some_at, map_at}
use Rattle.ags_rows.proofs.Lemmas.{at_map}

-- ---- rows after other rows

pub front_row : (xs ys : List DataRow) (k : ℕ) (r : DataRow) → At xs k r → At (xs ++ ys) k r
front_row xs ys k r at = (omega (arith, at.0, length-append xs ys), get_or_append_left xs ys r k at.0 ∙ at.1)

pub back_row : (xs ys : List DataRow) (k n : ℕ) (r : DataRow) → n ≡ length xs + k → At ys k r → At (xs ++ ys) n r
back_row xs ys k n r e is = rw e (omega (arith, is.0, length-append xs ys), get_or-append-add xs ys k r ∙ is.1)

-- a row of both lists is one of the first or one of the second
pub row_cases : (xs ys : List DataRow) (n : ℕ) (r : DataRow) → At (xs ++ ys) n r → At xs n r ⊎ ((k : ℕ) × (n ≡ length xs + k) × At ys k r)
row_cases xs ys n r at = elim (cases_lt n (length xs)) [
  | inl lt ↦ inl (lt, sym (get_or_append_left xs ys r n lt) ∙ at.1)
  | inr le ↦ (
      let k = n - length xs in
      let e : n ≡ length xs + k = omega (arith, le) in
      inr (k, e, (omega (arith, at.0, length-append xs ys), sym (get_or-append-add xs ys k r) ∙ ap (λ (i : ℕ). get_or (xs ++ ys) i r) (sym e) ∙ at.1))
      )
]

-- ---- the rows before a group

-- one group further on
pub before_more : (g : Contents) (file : List Contents) (i : ℕ) → rows_before (g ∷ file) (suc i) ≡ length (data_rows_of_group g) + rows_before file i
before_more g file i = length-append (data_rows_of_group g) (data_rows (take i file))

-- the rows before a group, those of the group and those after it
rows_around : (file : List Contents) (i : ℕ) (g : Contents) → At file i g → data_rows file ≡ data_rows (take i file) ++ (data_rows_of_group g ++ data_rows (drop (suc i) file))
rows_around file i g at =
    ap data_rows (sym (take-append-drop i file) ∙ ap (λ gs. take i file ++ gs) (drop-cons file i g at.0 ∙ ap (λ x. x ∷ drop (suc i) file) at.1))
    ∙ flat_map-append data_rows_of_group (take i file) (g ∷ drop (suc i) file)

-- no more than all rows are before a group
before_all : (file : List Contents) (i : ℕ) → rows_before file i ≤ length (data_rows file)
before_all file i =
    let parts = ap (λ gs. length (data_rows gs)) (sym (take-append-drop i file)) ∙ ap length (flat_map-append data_rows_of_group (take i file) (drop i file)) in
    omega (arith, parts, length-append (data_rows (take i file)) (data_rows (drop i file)))

pub row_at_place : (file : List Contents) (i : ℕ) (g : Contents) → At file i g → (place : ℕ) (fields : List (List ℕ)) → At g.rows place fields → At (data_rows file) (rows_before file i + place) (row_in g fields)
row_at_place file i g at place fields there =
    subst (λ rows. At rows (rows_before file i + place) (row_in g fields)) (sym (rows_around file i g at))
    (back_row (data_rows (take i file)) (data_rows_of_group g ++ data_rows (drop (suc i) file)) place (rows_before file i + place) (row_in g fields) refl
    (front_row (data_rows_of_group g) (data_rows (drop (suc i) file)) place (row_in g fields) (at_map (row_in g) g.rows place fields there)))

-- the rows before the next group
pub before_next : (file : List Contents) (i : ℕ) (g : Contents) → At file i g → rows_before file (suc i) ≡ rows_before file i + length g.rows
before_next file i g at =
    ap (λ gs. length (data_rows gs)) (take-suc file i g at.0 ∙ ap (λ x. take i file ++ x ∷ []) at.1) ∙ ap length (flat_map_push data_rows_of_group (take i file) g)
    ∙ length-append (data_rows (take i file)) (data_rows_of_group g) ∙ ap (λ n. rows_before file i + n) (length-map g.rows (row_in g))

-- all rows of a group are among those of the file
pub before_few : (file : List Contents) (i : ℕ) (g : Contents) → At file i g → rows_before file i + length g.rows ≤ length (data_rows file)
before_few file i g at = omega (arith, before_next file i g at, before_all file (suc i))

-- ---- each number is one row of one group

pub row_of_group : (file : List Contents) (n : ℕ) (r : DataRow) → At (data_rows file) n r → IsRowOfGroup file n r
row_of_group [] n r at = absurd (omega (arith, at.0))
row_of_group (g ∷ file) n r at = elim (row_cases (data_rows_of_group g) (data_rows file) n r at) [
  | inl here ↦ (
      let there = some_at g.rows n (omega (arith, here.0, length-map g.rows (row_in g))) in
      record {
        group_place = 0;
        group = g;
        of_file = (omega arith, refl);
        place = n;
        fields = there.0;
        of_group = there.1;
        number = omega arith;
        same = map_at (row_in g) g.rows n there.0 r there.1 here;
      }
      )
  | inr more ↦ (
      let p = row_of_group file more.0 r more.2 in
      record {
        group_place = suc p.group_place;
        group = p.group;
        of_file = (omega (arith, p.of_file.0), p.of_file.1);
        place = p.place;
        fields = p.fields;
        of_group = p.of_group;
        number = omega (arith, more.1, p.number, before_more g file p.group_place);
        same = p.same;
      }
      )
]

row_of_file : (file : List Contents) (n : ℕ) (r : DataRow) → IsRowOfGroup file n r → At (data_rows file) n r
row_of_file file n r p =
    subst (λ (k : ℕ). At (data_rows file) k r) (sym p.number)
    (subst (At (data_rows file) (rows_before file p.group_place + p.place)) p.same (row_at_place file p.group_place p.group p.of_file p.place p.fields p.of_group))

pub rows_are_numbered : RowsAreNumbered
rows_are_numbered file n row = (row_of_group file n row, row_of_file file n row)

-- further groups have no fewer rows before them
before_rises : (file : List Contents) (i j : ℕ) → i ≤ j → rows_before file i ≤ rows_before file j
before_rises file i j le = subst (λ gs. length (data_rows gs) ≤ rows_before file j) (take-take i j file le) (before_all (take j file) i)

-- a row of an earlier group has a smaller number
never_earlier : (file : List Contents) (n : ℕ) (row other : DataRow) (here : IsRowOfGroup file n row) (there : IsRowOfGroup file n other) → suc here.group_place ≤ there.group_place → ⊥
never_earlier file n row other here there le =
    omega (arith, here.number, there.number, here.of_group.0, before_next file here.group_place here.group here.of_file, before_rises file (suc here.group_place) there.group_place le)

pub row_numbers_are_unique : RowNumbersAreUnique
row_numbers_are_unique file n row other here there = elim (cases_lt here.group_place there.group_place) [
  | inl lt ↦ absurd (never_earlier file n row other here there (omega (arith, lt)))
  | inr le ↦ (elim (cases_lt there.group_place here.group_place) [
    | inl lt ↦ absurd (never_earlier file n other row there here (omega (arith, lt)))
    | inr ge ↦ (
        let same : here.group_place ≡ there.group_place = omega (arith, le, ge) in
        (same, omega (arith, here.number, there.number, ap (rows_before file) same))
        )
  ])
]

pub rows_before_add_up : RowsBeforeAddUp
rows_before_add_up file place group at =
    let next : place + 1 ≡ suc place = omega arith in
    (ap (rows_before file) next ∙ before_next file place group at, before_few file place group at)

-- ---- what the rows of a file contain

pub row_of : (file : List Contents) (r : DataRow) → Contains (data_rows file) r → (n : ℕ) × IsRowOfGroup file n r
row_of file r h = (h.0, row_of_group file h.0 r (h.1, h.2))

pub row_among : (file : List Contents) (g : Contents) (fields : List (List ℕ)) → Contains file g → Contains g.rows fields → Contains (data_rows file) (row_in g fields)
row_among file g fields group row = let there = row_at_place file group.0 g (group.1, group.2) row.0 fields (row.1, row.2) in (rows_before file group.0 + row.0, there.0, there.1)
