-- The row of PROJ of a file, and the rows that it reaches, among the rows that are kept of it.
use Rattle.std.proofs.Common.{◌≡◌, ◌↔◌, ℕ, zero, suc, ◌+◌, ◌<◌, Bool, true, false, List, [], ◌∷◌, ◌++◌, All, length, map, flat_map, Contains, Option, Some, None, if◌then◌else◌, inl, inr, refl, sym, ap, subst, ◌∙◌, arith, ◌≤◌, drop, append-nil}
use Rattle.std.specs.Prelude.{slice_get}
use Rattle.std.specs.List.{AllByRecursion, items_where_true}
use Rattle.std.specs.Str.{bytes_eq}
use Rattle.std.proofs.lemmas.List.{drop_all}
use Rattle.std.proofs.lemmas.List.Elements.{All-append, All-from_recursion, All-nil}
use Rattle.ags_rows.specs.Contents.{Contents, contents_of, group_contents}
use Rattle.ags_rows.specs.declared.rows.Group.{Group}
use Rattle.ags_rows.specs.declared.rows.Descriptor.TheVariants as kinds
use Rattle.ags_links.specs.DataRows.{DataRow, data_rows, row_in}
use Rattle.ags_links.specs.Walks.{AreReachedFrom, IsMarked}
use Rattle.ags_links.proofs.Lemmas.{contains_cons, contains_head, contains_tail}
use Rattle.ags_check.specs.Findings.{CheckedFile, IsClean}
use Rattle.reg_store.specs.declared.keep.HeadedRow.{HeadedRow}
use Rattle.reg_store.specs.declared.keep.KeptRow.{KeptRow}
use Rattle.reg_store.specs.Fit.{group_rows, kept_row, kept_rows}
use Rattle.reg_store.specs.Project.{AreProjectRows, headed_rows, project_from, project_group, project_of}
use Rattle.reg_store.specs.Reading.{HasKind}

-- ---- how many DATA rows there are

pub kept_contents : (groups : List Group) → kept_rows groups ≡ flat_map group_rows (contents_of groups)
kept_contents [] = refl
kept_contents (g ∷ groups) = ap (λ (l : List KeptRow). group_rows (group_contents g) ++ l) (kept_contents groups)

data_counted : (above headings : List ℕ) (g : Contents) (rows : List (List (List ℕ))) (rest : List KeptRow) (more : List DataRow) → length (headed_rows above headings rest) ≡ length more
    → length (headed_rows above headings (map (kept_row g.name kinds.Data) rows ++ rest)) ≡ length (map (row_in g) rows ++ more)
data_counted above headings g [] rest more h = h
data_counted above headings g (fields ∷ rows) rest more h = ap suc (data_counted above headings g rows rest more h)

file_counted : (file : List Contents) (above headings : List ℕ) → length (headed_rows above headings (flat_map group_rows file)) ≡ length (data_rows file)
file_counted [] above headings = refl
file_counted (g ∷ file) above headings = data_counted _ _ g g.rows (flat_map group_rows file) (data_rows file) (file_counted file _ _)

-- the rows that are kept of a clean file are as many as its graph has
pub headed_count : (file : CheckedFile) → IsClean file → length (headed_rows [] [] (kept_rows file.groups)) ≡ file.graph.rows
headed_count file clean =
    ap (λ (rows : List KeptRow). length (headed_rows [] [] rows)) (kept_contents file.groups)
    ∙ file_counted (contents_of file.groups) [] [] ∙ sym clean.graph.rows

-- ---- rows where a mark is set

pub picked : (marks : List Bool) (rows : List HeadedRow) (row : HeadedRow) → Contains (items_where_true marks rows) row → (m : ℕ) × IsMarked marks m × (slice_get rows m ≡ Some row)
picked [] rows row has = absurd (omega (arith, has.1))
picked (b ∷ marks) [] row has = absurd (omega (arith, has.1))
picked (true ∷ marks) (first ∷ rows) row has = elim (contains_cons first (items_where_true marks rows) row has) [
  | inl same ↦ (0, refl, ap (λ (r : HeadedRow). Some r) same)
  | inr later ↦ let at = picked marks rows row later in (suc at.0, at.1, at.2)
]
picked (false ∷ marks) (first ∷ rows) row has = let at = picked marks rows row has in (suc at.0, at.1, at.2)

pub picks : (marks : List Bool) (rows : List HeadedRow) (row : HeadedRow) (m : ℕ) → IsMarked marks m → slice_get rows m ≡ Some row → Contains (items_where_true marks rows) row
picks [] rows row m is at = absurd cc
picks (b ∷ marks) [] row m is at = absurd cc
picks (true ∷ marks) (first ∷ rows) row zero is at =
    let same : first ≡ row = cc in subst (λ (r : HeadedRow). Contains (first ∷ items_where_true marks rows) r) same (contains_head first (items_where_true marks rows))
picks (false ∷ marks) (first ∷ rows) row zero is at = absurd cc
picks (true ∷ marks) (first ∷ rows) row (suc m) is at = contains_tail first (items_where_true marks rows) row (picks marks rows row m is at)
picks (false ∷ marks) (first ∷ rows) row (suc m) is at = picks marks rows row m is at

-- where no row is left, no more are marked
pub marked_end : (marks : List Bool) (found all : List HeadedRow) (above headings : List ℕ) (rows : List KeptRow) (i : ℕ) → length rows ≤ i
    → found ++ items_where_true marks (headed_rows above headings (drop i rows)) ≡ all → found ≡ all
marked_end marks found all above headings rows i past is =
    let none : items_where_true marks (headed_rows above headings (drop i rows)) ≡ [] =
    ap (λ (l : List KeptRow). items_where_true marks (headed_rows above headings l)) (drop_all i rows past) ∙ nothing marks in
    sym (append-nil found) ∙ ap (λ (l : List HeadedRow). found ++ l) (sym none) ∙ is
  where
    nothing : (bs : List Bool) → items_where_true bs (headed_rows above headings []) ≡ []
    nothing [] = refl
    nothing (b ∷ bs) = refl

-- ---- the row of PROJ

same_found : (p q : ℕ × HeadedRow) → Some p ≡ Some q → p ≡ q
same_found p q e = cc

abbrev IsAt : ℕ → ℕ → HeadedRow → List HeadedRow → Type 0
IsAt number n found rows = (k : ℕ) × (n ≡ number + k) × (k < length rows) × (slice_get rows k ≡ Some found)

-- it is at its number
pub project_at : (number n : ℕ) (found : HeadedRow) (rows : List HeadedRow) → project_from number rows ≡ Some (n, found) → IsAt number n found rows
project_at number n found [] e = absurd cc
project_at number n found (row ∷ rows) e = go (bytes_eq row.group project_group) e (λ later. project_at (number + 1) n found rows later)
  where
    go : (b : Bool) → (if b then Some (number, row) else project_from (number + 1) rows) ≡ Some (n, found) → (project_from (number + 1) rows ≡ Some (n, found) → IsAt (number + 1) n found rows) → IsAt number n found (row ∷ rows)
    go true e more =
        let same = same_found (number, row) (n, found) e in
        let is : number ≡ n = ap (λ (p : ℕ × HeadedRow). p.0) same in
        (0, omega (arith, is), omega arith, ap (λ (p : ℕ × HeadedRow). Some p.1) same)
    go false e more = let later = more e in (suc later.0, omega (arith, later.1), omega (arith, later.2), later.3)

-- the rows that it reaches are those that are reached from its mark
pub reached_rows : (rows : List KeptRow) (steps : List (ℕ × ℕ)) (count number : ℕ) (first : HeadedRow) (from marks : List Bool) → project_of rows ≡ Some (number, first) → length (headed_rows [] [] rows) ≡ count
    → ((k : ℕ) → IsMarked from k ↔ ((k < count) × (k ≡ number))) → AreReachedFrom steps from marks → AreProjectRows rows steps (items_where_true marks (headed_rows [] [] rows))
reached_rows rows steps count number first from marks is counted one reached = λ row. (
  λ has.
      let at = picked marks (headed_rows [] [] rows) row has in
      let walk = (reached at.0).0 at.1 in
      let start = ((one walk.0).0 walk.1).1 in
      (at.0, (walk.0, (first, subst (λ (k : ℕ). project_of rows ≡ Some (k, first)) (sym start) is), walk.2), at.2),
  λ its.
      let walk = its.1 in
      let there = project_at 0 walk.0 walk.1.0 (headed_rows [] [] rows) walk.1.1 in
      let same : walk.0 ≡ number = one_number walk.1.1 is in
      picks marks (headed_rows [] [] rows) row its.0
      ((reached its.0).1 (walk.0, (one walk.0).1 (omega (arith, there.1, there.2, counted), same), walk.2)) its.2,
)
  where
    one_number : {a b : ℕ} {x y : HeadedRow} {o : Option (ℕ × HeadedRow)} → o ≡ Some (a, x) → o ≡ Some (b, y) → a ≡ b
    one_number {a} {b} {x} {y} e f = ap (λ (p : ℕ × HeadedRow). p.0) (same_found (a, x) (b, y) (sym e ∙ f))

-- there is none
pub no_rows : (rows : List KeptRow) (steps : List (ℕ × ℕ)) → project_of rows ≡ None → AreProjectRows rows steps []
no_rows rows steps none = λ row. (λ has. absurd (omega (arith, has.1)), λ its. let is = its.1.1.1 in absurd cc)

-- ---- kinds

data_kinds : (name : List ℕ) (rows : List (List (List ℕ))) → AllByRecursion HasKind (map (kept_row name kinds.Data) rows)
data_kinds name [] = tt
data_kinds name (fields ∷ rows) = (omega arith, data_kinds name rows)

-- each row that is kept has one of the five kinds
pub kept_kinds : (groups : List Group) → All HasKind (kept_rows groups)
kept_kinds [] = All-nil HasKind
kept_kinds (g ∷ groups) =
    let file = group_rows (group_contents g) in
    let own = data_kinds g.name (group_contents g).rows in
    All-append HasKind file (kept_rows groups)
    (All-from_recursion HasKind file (omega arith, (omega arith, (omega arith, (omega arith, own))))) (kept_kinds groups)
