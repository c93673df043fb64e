-- What the row of PROJ and the rows that it reaches say of whether it is shown.
use Rattle.std.proofs.Common.{◌≡◌, ◌↔◌, ℕ, zero, suc, ◌+◌, ◌<◌, All, Bool, true, false, if◌then◌else◌, Some, List, [], ◌∷◌, ◌++◌, map, flat_map, Contains, refl, sym, ap, subst, ◌∙◌, arith}
use Rattle.std.specs.Prelude.{codes, ◌==◌, ◌-◌, ◌≤◌, not, slice_get, length}
use Rattle.std.specs.List.{AllByRecursion, AllZip}
use Rattle.std.specs.Str.{bytes_eq}
use Rattle.std.proofs.lemmas.Bool.{eqb-false, eqb-true, true≢false}
use Rattle.std.proofs.lemmas.Slice.Eq.{bytes_eq-Decides}
use Rattle.ags_rows.specs.declared.rows.Group.{Group}
use Rattle.ags_rows.specs.declared.rows.Descriptor.TheVariants as kinds
use Rattle.ags_rows.specs.Contents.{Contents, contents_of}
use Rattle.ags_rows.specs.Findings.{FileGroups}
use Rattle.ags_rows.specs.Spelling.{Spells, line_of}
use Rattle.ags_rows.specs.Writing.{AreUnder, IsPlainGroup, IsWellFormedGroup, group_names}
use Rattle.ags_rows.proofs.Lemmas.{at_contained, file_is_read, once_apart, read_plain, same_fields}
use Rattle.ags_dict.specs.Entries.{Entries}
use Rattle.ags_rows.specs.Collecting.{At}
use Rattle.ags_links.specs.DataRows.{DataRow, IsRowOfGroup, data_rows, row_in, rows_before}
use Rattle.ags_links.specs.Steps.{StepAt}
use Rattle.ags_links.specs.Walks.{HasStep, IsWalk, Reaches}
use Rattle.ags_links.proofs.Lemmas.{graphs_walk_as_files, one_at, at_map, row_of_group, reach_itself}
use Rattle.ags_check.specs.Findings.{CheckedFile, IsClean, file_of}
use Rattle.reg_store.specs.Deposit.{Deposit, sents}
use Rattle.reg_store.specs.Fit.{IsFileOf, group_rows, kept_row, kept_rows}
use Rattle.reg_store.specs.Project.{AreProjectRows, headed_rows, project_from, project_group, project_of}
use Rattle.reg_store.proofs.Lemmas.{kept_contents, project_at}
use Rattle.reg_store.specs.declared.keep.Keep.{Ghosts}
use Rattle.reg_store.specs.declared.keep.HeadedRow.{HeadedRow}
use Rattle.reg_store.specs.declared.keep.KeptRow.{KeptRow}
use Rattle.reg_store.specs.Keep.{OfDeposit}
use Rattle.reg_desk.specs.Serving.{OnlyReads}
use Rattle.reg_desk.specs.Shown.{Look, IsPermitted, IsProjectShown}
use Rattle.reg_desk.specs.View.{HeadedMayBeSeen, IsHeadedLine, Sees, headed_line}
use Rattle.reg_desk.proofs.Bridges.{HasAt, may_law, project_spelled, row_spelled}
use Rattle.reg_desk.proofs.Clean.{clean_formed, clean_keeps}

-- what is found may be seen as the policy says of the row that it spells
headed_law : (look : Look) (h : HeadedRow) (may : Bool) → HeadedMayBeSeen look h may → (row : DataRow) → IsHeadedLine h row → (may ≡ true) ↔ IsPermitted look row
headed_law look h may seen row is =
    let first = seen.0 in
    let fields : codes "GROUP" ∷ first.group ∷ [] ≡ codes "GROUP" ∷ row.group ∷ [] = same_fields h.group (codes "GROUP" ∷ first.group ∷ []) (codes "GROUP" ∷ row.group ∷ []) seen.1.above is.above in
    let group : first.group ≡ row.group = cc in
    may_law look (headed_line first.group h) may (first, seen.1, seen.2) row (record { group = group; above = is.above; headings = is.headings; fields = is.fields; width = is.width })

-- what is first in a list is in it
first_item : (found : List HeadedRow) → 0 < length found → (h : HeadedRow) × Contains found h
first_item [] some = absurd (omega (arith, some))
first_item (h ∷ found) some = (h, (0, omega arith, refl))

-- ---- the DATA rows of a file, with the header rows above them

-- the headed row is that of the row, under the one spelling of its GROUP row
abbrev IsHeaded : HeadedRow → DataRow → Type 0
IsHeaded headed row = IsHeadedLine headed row × (headed.group ≡ line_of (codes "GROUP" ∷ row.group ∷ []))

headed_data : (above heading : List ℕ) (g : Contents) (rows : List (List (List ℕ))) (rest : List KeptRow) (more : List DataRow) → AllByRecursion (AreUnder g.headings) rows → above ≡ line_of (codes "GROUP" ∷ g.name ∷ [])
    → Spells above (codes "GROUP" ∷ g.name ∷ []) → Spells heading (codes "HEADING" ∷ g.headings) → AllZip IsHeaded (headed_rows above heading rest) more
    → AllZip IsHeaded (headed_rows above heading (map (kept_row g.name kinds.Data) rows ++ rest)) (map (row_in g) rows ++ more)
headed_data above heading g [] rest more under one named spelled h = h
headed_data above heading g (fields ∷ rows) rest more under one named spelled h = (
  (record { group = refl; above = named; headings = spelled; fields = row_spelled kinds.Data fields under.0.plain; width = under.0.count }, one),
  headed_data above heading g rows rest more under.1 one named spelled h,
)

headed_file : (file : List Contents) (above heading : List ℕ) → AllByRecursion IsPlainGroup file → AllByRecursion IsWellFormedGroup file → AllZip IsHeaded (headed_rows above heading (flat_map group_rows file)) (data_rows file)
headed_file [] above heading plain formed = tt
headed_file (g ∷ file) above heading plain formed =
    let name = line_of (codes "GROUP" ∷ g.name ∷ []) in
    let line = line_of (codes "HEADING" ∷ g.headings) in
    headed_data name line g g.rows (flat_map group_rows file) (data_rows file) formed.0.rows refl (row_spelled kinds.Group (g.name ∷ []) (plain.0.name, tt)) (row_spelled kinds.Heading g.headings plain.0.headings)
    (headed_file file name line plain.1 formed.1)

headed_are : (bytes : List ℕ) (groups : List Group) → FileGroups bytes groups → AllZip IsHeaded (headed_rows [] [] (kept_rows groups)) (data_rows (contents_of groups))
headed_are bytes groups read =
    subst (λ (rows : List KeptRow). AllZip IsHeaded (headed_rows [] [] rows) (data_rows (contents_of groups))) (sym (kept_contents groups))
    (headed_file (contents_of groups) [] [] (read_plain bytes groups read).1 (file_is_read.1 bytes groups read).each)

-- row and headed row at one place
headed_of : (headed : List HeadedRow) (rows : List DataRow) (n : ℕ) (r : DataRow) → AllZip IsHeaded headed rows → At rows n r → (h : HeadedRow) × (slice_get headed n ≡ Some h) × IsHeaded h r
headed_of [] [] n r zip at = absurd (omega (arith, at.0))
headed_of (h ∷ headed) (x ∷ rows) zero r zip at = (h, refl, subst (IsHeaded h) at.1 zip.0)
headed_of (h ∷ headed) (x ∷ rows) (suc n) r zip at = headed_of headed rows n r zip.1 (omega (arith, at.0), at.1)
headed_of headed rows n r zip at = absurd zip

row_of_headed : (headed : List HeadedRow) (rows : List DataRow) (n : ℕ) (h : HeadedRow) → AllZip IsHeaded headed rows → slice_get headed n ≡ Some h → (r : DataRow) × At rows n r × IsHeaded h r
row_of_headed [] rows n h zip at = absurd cc
row_of_headed (x ∷ headed) (r ∷ rows) zero h zip at = let same : x ≡ h = cc in (r, (omega arith, refl), subst (λ (y : HeadedRow). IsHeaded y r) same zip.0)
row_of_headed (x ∷ headed) (r ∷ rows) (suc n) h zip at =
    let found = row_of_headed headed rows n h zip.1 at in
    (found.0, (omega (arith, found.1.0), found.1.1), found.2)
row_of_headed (x ∷ headed) [] n h zip at = absurd zip

-- ---- Rule 13: a file without findings has one row of PROJ

abbrev IsOfProject : DataRow → Type 0
IsOfProject row = row.group ≡ codes "PROJ"

-- it is the first of its group
project_first : (file : CheckedFile) → IsClean file → (n : ℕ) (r : DataRow) (p : IsRowOfGroup (contents_of file.groups) n r) → r.group ≡ codes "PROJ" → (p.group.name ≡ codes "PROJ") × (p.place ≡ 0)
project_first file clean n r p of_project =
    let name : p.group.name ≡ codes "PROJ" = ap (λ (x : DataRow). x.group) p.same ∙ of_project in
    let keeps = (clean_keeps file.given file.bytes (file_of file) clean.file).0 in
    let only = (keeps.groups p.group (p.group_place, p.of_file.0, p.of_file.1)).only_rows p.place p.fields (at_contained p.group.rows p.fields (p.place, p.of_group.0, p.of_group.1)) in
    let none : 0 < p.place → ⊥ = λ lt. only.one_project (name, lt) in
    (name, omega arith)

-- and its group occurs once
one_place : (file : CheckedFile) → IsClean file → (i j : ℕ) (g h : Contents) → At (contents_of file.groups) i g → At (contents_of file.groups) j h → g.name ≡ h.name → i < j → ⊥
one_place file clean i j g h at_i at_j same lt =
    let names = group_names (contents_of file.groups) in
    let once = (clean_formed file.given file.bytes (file_of file) clean.file).names_once in
    let first = at_map (λ (x : Contents). x.name) (contents_of file.groups) i g at_i in
    let second = at_map (λ (x : Contents). x.name) (contents_of file.groups) j h at_j in
    once_apart names i j g.name h.name once lt (at_contained names g.name (i, first.0, first.1)) (at_contained names h.name (j, second.0, second.1)) same

one_project : (file : CheckedFile) → IsClean file → (n m : ℕ) → HasAt (data_rows (contents_of file.groups)) IsOfProject n → HasAt (data_rows (contents_of file.groups)) IsOfProject m → n ≡ m
one_project file clean n m a b =
    let contents = contents_of file.groups in
    let p = row_of_group contents n a.0 a.1 in
    let q = row_of_group contents m b.0 b.1 in
    let first = project_first file clean n a.0 p a.2 in
    let second = project_first file clean m b.0 q b.2 in
    let names : p.group.name ≡ q.group.name = first.0 ∙ sym second.0 in
    let below = one_place file clean p.group_place q.group_place p.group q.group p.of_file q.of_file names in
    let above = one_place file clean q.group_place p.group_place q.group p.group q.of_file p.of_file (sym names) in
    let place : p.group_place ≡ q.group_place = omega arith in
    p.number ∙ ap (λ (k : ℕ). k + p.place) (ap (rows_before contents) place) ∙ ap (λ (k : ℕ). rows_before contents q.group_place + k) (first.1 ∙ sym second.1) ∙ sym q.number

-- ---- what it says

-- its GROUP row is that of PROJ
project_name : (h : HeadedRow) (r : DataRow) → IsHeaded h r → (bytes_eq h.group project_group ≡ true) ↔ (r.group ≡ codes "PROJ")
unfolding project_group
project_name h r is = (
  λ e.
      let same : h.group ≡ line_of (codes "GROUP" ∷ codes "PROJ" ∷ []) = (bytes_eq-Decides h.group (line_of (codes "GROUP" ∷ codes "PROJ" ∷ []))).0 e in
      let fields : codes "GROUP" ∷ r.group ∷ [] ≡ codes "GROUP" ∷ codes "PROJ" ∷ [] =
      same_fields h.group (codes "GROUP" ∷ r.group ∷ []) (codes "GROUP" ∷ codes "PROJ" ∷ []) is.0.above (subst (λ (l : List ℕ). Spells l (codes "GROUP" ∷ codes "PROJ" ∷ [])) (sym same) project_spelled) in
      cc,
  λ e. (bytes_eq-Decides h.group (line_of (codes "GROUP" ∷ codes "PROJ" ∷ []))).1 (is.1 ∙ ap (λ (g : List ℕ). line_of (codes "GROUP" ∷ g ∷ [])) e),
)

some_project : (number k : ℕ) (rows : List HeadedRow) (h : HeadedRow) → slice_get rows k ≡ Some h → bytes_eq h.group project_group ≡ true → (n : ℕ) × (first : HeadedRow) × (project_from number rows ≡ Some (n, first))
some_project number k [] h at is = absurd cc
some_project number zero (x ∷ rows) h at is = let same : x ≡ h = cc in (number, x, ap (λ (b : Bool). if b then Some (number, x) else project_from (number + 1) rows) (subst (λ (y : HeadedRow). bytes_eq y.group project_group ≡ true) (sym same) is))
some_project number (suc k) (x ∷ rows) h at is = go (bytes_eq x.group project_group) (some_project (number + 1) k rows h at is)
  where
    go : (b : Bool) → ((n : ℕ) × (first : HeadedRow) × (project_from (number + 1) rows ≡ Some (n, first))) → (n : ℕ) × (first : HeadedRow) × ((if b then Some (number, x) else project_from (number + 1) rows) ≡ Some (n, first))
    go true more = (number, x, refl)
    go false more = more

first_project : (number n : ℕ) (first : HeadedRow) (rows : List HeadedRow) → project_from number rows ≡ Some (n, first) → bytes_eq first.group project_group ≡ true
first_project number n first [] e = absurd cc
first_project number n first (x ∷ rows) e = go (bytes_eq x.group project_group) refl e (λ more. first_project (number + 1) n first rows more)
  where
    go : (b : Bool) → bytes_eq x.group project_group ≡ b → (if b then Some (number, x) else project_from (number + 1) rows) ≡ Some (n, first) → (project_from (number + 1) rows ≡ Some (n, first) → bytes_eq first.group project_group ≡ true) → bytes_eq first.group project_group ≡ true
    go true is e more = let pair : (number, x) ≡ (n, first) = cc in subst (λ (y : HeadedRow). bytes_eq y.group project_group ≡ true) (ap (λ (p : ℕ × HeadedRow). p.1) pair) is
    go false is e more = more e

module _ (look : Look) (file : CheckedFile) (clean : IsClean file) (found : List HeadedRow) (are : AreProjectRows (kept_rows file.groups) file.graph.steps found) where
  abbrev rows : List DataRow
  rows = data_rows (contents_of file.groups)

  abbrev headed : List HeadedRow
  headed = headed_rows [] [] (kept_rows file.groups)

  zip : AllZip IsHeaded headed rows
  zip = headed_are file.bytes file.groups clean.groups

  -- the row of PROJ of the file
  its_row : (n : ℕ) (first : HeadedRow) → project_of (kept_rows file.groups) ≡ Some (n, first) → (r : DataRow) × At rows n r × (r.group ≡ codes "PROJ")
  its_row n first is =
      let at = project_at 0 n first headed is in
      let there = row_of_headed headed rows at.0 first zip at.3 in
      (there.0, subst (λ (k : ℕ). At rows k there.0) (sym (at.1 ∙ omega arith)) there.1, (project_name first there.0 there.2).0 (first_project 0 n first headed is))

  -- each row that is reached is a row of the file
  reached_row : (m : ℕ) (walk : List ℕ) (n : ℕ) (r : DataRow) → At rows n r → IsWalk (StepAt (file_of file)) n walk m → (s : DataRow) × At rows m s
  reached_row m [] n r at same = (r, subst (λ (k : ℕ). At rows k r) same at)
  reached_row m (t ∷ walk) n r at steps = reached_row m walk t steps.0.1 steps.0.3 steps.1

  -- all that is found may be seen
  pub all_seen : All (λ h. HeadedMayBeSeen look h true) found → 0 < length found → IsProjectShown look (file_of file)
  all_seen all some =
      let front = first_item found some in
      let its = (are front.0).0 front.1 in
      let n = its.1.0 in
      let walks = graphs_walk_as_files (file_of file) file.graph clean.graph in
      let first = its_row n its.1.1.0 its.1.1.1 in (
        n,
        (first.0, first.1, first.2),
        λ m walk.
            let s = reached_row m walk.0 n first.0 first.1 walk.1 in
            let there = headed_of headed rows m s.0 zip s.1 in
            let in_found = (are there.0).1 (m, (n, its.1.1, (walks.reaches n m).1 walk), there.1) in
            let seen = subst (λ (x : HeadedRow). HeadedMayBeSeen look x true) in_found.2 (all in_found.0 there.0 in_found.1) in
            (s.0, s.1, (headed_law look there.0 true seen s.0 there.2.0).0 refl),
      )

  -- one that is found may not be seen
  pub one_hidden : (h : HeadedRow) → Contains found h → HeadedMayBeSeen look h false → IsProjectShown look (file_of file) → ⊥
  one_hidden h has hidden shows =
      let its = (are h).0 has in
      let first = its_row its.1.0 its.1.1.0 its.1.1.1 in
      let same : shows.0 ≡ its.1.0 = one_project file clean shows.0 its.1.0 shows.1 (first.0, first.1, first.2) in
      let walk = ((graphs_walk_as_files (file_of file) file.graph clean.graph).reaches its.1.0 its.0).0 its.1.2 in
      let there = shows.2 its.0 (subst (λ (k : ℕ). Reaches (StepAt (file_of file)) k its.0) (sym same) walk) in
      let row = row_of_headed headed rows its.0 h zip its.2 in
      let one : there.0 ≡ row.0 = one_at rows its.0 there.0 row.0 there.1 row.1 in
      let no : false ≡ true = (headed_law look h false hidden row.0 row.2.0).1 (subst (IsPermitted look) one there.2) in
      true≢false (sym no)

  -- nothing is found
  pub none_shown : length found ≡ 0 → IsProjectShown look (file_of file) → ⊥
  none_shown none shows =
      let there = headed_of headed rows shows.0 shows.1.0 zip shows.1.1 in
      let project = some_project 0 shows.0 headed there.0 there.1 ((project_name there.0 shows.1.0 there.2).1 shows.1.2) in
      let at = project_at 0 project.0 project.1 headed project.2 in
      let has = (are project.1).1 (project.0, (project.0, (project.1, project.2), reach_itself (HasStep file.graph.steps) project.0), subst (λ (k : ℕ). slice_get headed k ≡ Some project.1) (sym (at.1 ∙ omega arith)) at.3) in
      omega (arith, none, has.1)

  -- where all that is found may be seen, it is shown if anything is found
  pub decided : (empty : Bool) → empty ≡ (length found == 0) → All (λ h. HeadedMayBeSeen look h true) found → Sees look file (not empty)
  decided empty is all = go empty is
    where
      go : (e : Bool) → e ≡ (length found == 0) → Sees look file (not e)
      go true e = (λ h. absurd cc, λ shows. absurd (none_shown (eqb-true (length found) 0 (sym e)) shows))
      go false e = (λ h. all_seen all (omega (arith, eqb-false (length found) 0 (sym e))), λ shows. refl)

  -- one that is found is a row
  pub found_row : (h : HeadedRow) → Contains found h → (r : DataRow) × IsHeadedLine h r
  found_row h has =
      let its = (are h).0 has in
      let row = row_of_headed headed rows its.0 h zip its.2 in
      (row.0, row.2.0)

-- ---- the file of a deposit

-- what holds of the file of a deposit after a call that only read held of it before
pub of_file_before : {K : Type 0} (keep : Ghosts K) (old new : K) (number : ℕ) (Holds : CheckedFile → Type 0)
    → OnlyReads keep old new false → keep.is_sound new
    → OfDeposit (keep.dictionary new) (sents (keep.deposits new)) number Holds
    → OfDeposit (keep.dictionary old) (sents (keep.deposits old)) number Holds
of_file_before keep old new number Holds reads s holds = λ d file at is.
    holds d file (ap (λ (l : List Deposit). slice_get (sents l) (number - 1)) (reads.same s refl) ∙ at)
    (subst (λ (e : Entries). IsFileOf e d file) (sym reads.same_dictionary) is)

-- a number of the list stays one
pub within_after : {K : Type 0} (keep : Ghosts K) (old new : K) (number : ℕ) → OnlyReads keep old new false → (keep.is_sound old → (0 < number) × (number ≤ length (keep.deposits old)))
    → keep.is_sound new → (0 < number) × (number ≤ length (keep.deposits new))
within_after keep old new number reads within s = subst (λ (l : List Deposit). (0 < number) × (number ≤ length l))
    (sym (reads.same s refl)) (within (reads.sound s))
