-- The steps of a row, and of all rows.
use Rattle.std.proofs.Common.{◌≡◌, ℕ, zero, suc, ◌+◌, ◌-◌, ◌<◌, ◌≤◌, ◌^◌, Bool, true, false, not, List, [], ◌++◌, length, get_or, map, refl, sym, ap, subst, ◌∙◌, arith, inl, inr, ◌⊎◌, ◌↔◌, Contains, codes, ◌&&◌}
use Rattle.std.specs.List.Sorted.{IsStrictlyIncreasing}
use Rattle.std.specs.Str.{bytes_eq}
use Rattle.std.proofs.lemmas.Bool.{true≢false, cases_lt, and_from, and_parts, not-true}
use Rattle.std.proofs.lemmas.Bool.Decides.{Decides-not, not_from_Decides}
use Rattle.std.proofs.lemmas.Slice.Eq.{bytes_eq-Decides}
use Rattle.std.proofs.lemmas.List.{get_or_append_left, get_or-append_right, get_or-map, length-append, length-map}
use Rattle.std.proofs.lemmas.List.Elements.{Contains-append_left, Contains-append_right, Contains-append_cases, Contains-get_or}
use Rattle.ags_text.specs.Names.{is_definition}
use Rattle.ags_links.specs.Adding.{AddsRows}
use Rattle.ags_rows.specs.Collecting.{At}
use Rattle.ags_links.specs.DataRows.{DataFile, DataRow, ListsRows}
use Rattle.ags_links.specs.Indexing.{rows_in, IsParentAt, IsLinkedAt, IsLinkStepAt, IsFileRowAt, IsFileStepAt}
use Rattle.ags_links.specs.Steps.{StepAt, IsBefore, ListsSteps}
use Rattle.ags_links.specs.Walks.{InRange}
use Rattle.ags_links.proofs.Linking.{adds_then, adds_same, adds_none, adds_listed, once_lists}
use Rattle.ags_links.proofs.Members.{contains_map, map_contains}
use Rattle.ags_links.proofs.Rising.{earlier_is_below}
use Rattle.ags_links.proofs.RowLemmas.{one_at}
use Rattle.ags_rows.proofs.Lemmas.{none_is}

-- ---- rows of FILE

-- the test of a group that steps to rows of FILE
abbrev pub may_have_files : List ℕ → Bool
may_have_files group = not (is_definition group) && not (bytes_eq group (codes "FILE"))

pub file_steps : (file : DataFile) (n : ℕ) (r : DataRow) (old new rows : List ℕ) → At (rows_in file) n r → may_have_files r.group ≡ true → ListsRows rows (IsFileRowAt file n) → new ≡ old ++ rows → AddsRows old new (IsFileStepAt file n)
file_steps file n r old new rows row may lists e =
    let tests = and_parts (not (is_definition r.group)) (not (bytes_eq r.group (codes "FILE"))) may in
    let data_group = not-true (is_definition r.group) tests.0 in
    let other = not_from_Decides (bytes_eq r.group (codes "FILE")) (bytes_eq-Decides r.group (codes "FILE")) (not-true (bytes_eq r.group (codes "FILE")) tests.1) in
    adds_same old new (IsFileRowAt file n) (IsFileStepAt file n) (adds_listed old new rows (IsFileRowAt file n) e lists)
    (λ m h.
    let is : r ≡ h.0 = one_at (rows_in file) n r h.0 row h.2 in
    (h.0, h.1, h.2, h.3, (subst (λ (q : DataRow). is_definition q.group ≡ false) is data_group, subst (λ (q : DataRow). q.group ≡ codes "FILE" → ⊥) is other, h.4)))
    (λ m h. (h.0, h.1, h.2, h.3, h.4.2))

pub no_file_steps : (file : DataFile) (n : ℕ) (r : DataRow) (old : List ℕ) → At (rows_in file) n r → may_have_files r.group ≡ false → AddsRows old old (IsFileStepAt file n)
no_file_steps file n r old row may = adds_none old (IsFileStepAt file n) (λ m h.
    let is : h.0 ≡ r = one_at (rows_in file) n h.0 r h.2 row in
    let data_group : not (is_definition r.group) ≡ true = ap (λ (q : DataRow). not (is_definition q.group)) (sym is) ∙ ap not h.4.0 in
    let other : r.group ≡ codes "FILE" → ⊥ = subst (λ (q : DataRow). q.group ≡ codes "FILE" → ⊥) is h.4.1 in
    let tested = (Decides-not (bytes_eq r.group (codes "FILE")) (bytes_eq-Decides r.group (codes "FILE"))).1 other in
    true≢false (sym (and_from (not (is_definition r.group)) (not (bytes_eq r.group (codes "FILE"))) data_group tested) ∙ may))

-- ---- record links

pub link_steps : (file : DataFile) (n : ℕ) (r : DataRow) (old new : List ℕ) → At (rows_in file) n r → is_definition r.group ≡ false → AddsRows old new (IsLinkedAt file n) → AddsRows old new (IsLinkStepAt file n)
link_steps file n r old new row data_group adds = adds_same old new (IsLinkedAt file n) (IsLinkStepAt file n) adds
    (λ m h.
    let is : r ≡ h.0 = one_at (rows_in file) n r h.0 row h.2 in
    (h.0, h.1, h.2, h.3, (subst (λ (q : DataRow). is_definition q.group ≡ false) is data_group, h.4)))
    (λ m h. (h.0, h.1, h.2, h.3, h.4.1))

pub no_link_steps : (file : DataFile) (n : ℕ) (r : DataRow) (old : List ℕ) → At (rows_in file) n r → is_definition r.group ≡ true → AddsRows old old (IsLinkStepAt file n)
no_link_steps file n r old row defines = adds_none old (IsLinkStepAt file n) (λ m h.
    let is : h.0 ≡ r = one_at (rows_in file) n h.0 r h.2 row in
    let data_group : is_definition r.group ≡ false = subst (λ (q : DataRow). is_definition q.group ≡ false) is h.4.0 in
    true≢false (sym defines ∙ data_group))

-- ---- all steps of a row

-- a step by a link or by a file set
abbrev IsOtherStep : DataFile → ℕ → ℕ → Type 0
IsOtherStep file n m = IsLinkStepAt file n m ⊎ IsFileStepAt file n m

other_step : (file : DataFile) (n m : ℕ) → IsOtherStep file n m → StepAt file n m
other_step file n m h = elim h [
  | inl link ↦ (link.0, link.1, link.2, link.3, inr (inl link.4))
  | inr to_file ↦ (to_file.0, to_file.1, to_file.2, to_file.3, inr (inr to_file.4))
]

parent_step : (file : DataFile) (n m : ℕ) → IsParentAt file n m → StepAt file n m
parent_step file n m h = (h.0, h.1, h.2, h.3, inl h.4)

which_step : (file : DataFile) (n m : ℕ) → StepAt file n m → IsOtherStep file n m ⊎ IsParentAt file n m
which_step file n m h = elim h.4 [
  | inl parent ↦ inr (h.0, h.1, h.2, h.3, parent)
  | inr more ↦ elim more [
    | inl link ↦ inl (inl (h.0, h.1, h.2, h.3, link))
    | inr to_file ↦ inl (inr (h.0, h.1, h.2, h.3, to_file))
  ]
]

other_steps : (file : DataFile) (n : ℕ) (first second third : List ℕ) → first ≡ [] → AddsRows first second (IsLinkStepAt file n) → AddsRows second third (IsFileStepAt file n)
    → AddsRows [] third (IsOtherStep file n)
other_steps file n first second third none links files =
    adds_then [] second third (IsLinkStepAt file n) (IsFileStepAt file n) (IsOtherStep file n)
    (subst (λ l. AddsRows l second (IsLinkStepAt file n)) none links) files (λ m h. inl h) (λ m h. inr h) (λ m h. h)

-- the links' and the file set's rows, and then the parent rows
pub all_steps : (file : DataFile) (n : ℕ) (first second third fourth once parents : List ℕ) → first ≡ [] → AddsRows first second (IsLinkStepAt file n) → AddsRows second third (IsFileStepAt file n)
    → ListsRows parents (IsParentAt file n) → fourth ≡ third ++ parents → ((m : ℕ) → Contains once m ↔ Contains fourth m) → IsStrictlyIncreasing once → ListsRows once (StepAt file n)
all_steps file n first second third fourth once parents none links files lists e same rises =
    once_lists [] fourth once (StepAt file n) refl
    (adds_then [] third fourth (IsOtherStep file n) (IsParentAt file n) (StepAt file n) (other_steps file n first second third none links files)
    (adds_listed third fourth parents (IsParentAt file n) e lists) (other_step file n) (parent_step file n) (which_step file n))
    same rises

-- where the links and the file set give none, the parent rows alone
pub parents_alone : (file : DataFile) (n : ℕ) (first second third parents : List ℕ) → first ≡ [] → AddsRows first second (IsLinkStepAt file n) → AddsRows second third (IsFileStepAt file n)
    → ListsRows parents (IsParentAt file n) → third ≡ [] → ListsRows parents (StepAt file n)
parents_alone file n first second third parents none links files lists empty =
    let others = other_steps file n first second third none links files in
    record {
      rising = lists.rising;
      exact = λ m. (
        λ h. parent_step file n m ((lists.exact m).0 h),
        λ h. elim (which_step file n m h) [
          | inl other ↦ absurd (none_is m (subst (λ l. Contains l m) empty (others.all m other)))
          | inr parent ↦ (lists.exact m).1 parent
        ],
      );
    }

-- ---- the steps of all rows

-- the steps of the rows before the next
abbrev pub StepsBefore : DataFile → ℕ → ℕ → ℕ → Type 0
StepsBefore file next n m = (n < next) × StepAt file n m

abbrev from_row : ℕ → ℕ → ℕ × ℕ
from_row n m = (n, m)

target_at : (row : ℕ) (targets : List ℕ) (steps : List (ℕ × ℕ)) (k j : ℕ) → length steps ≤ k → k - length steps ≡ j → j < length targets → get_or (steps ++ map (from_row row) targets) k (0, 0) ≡ (row, get_or targets j 0)
target_at row targets steps k j past e lt =
    get_or-append_right steps (map (from_row row) targets) (length steps) k (0, 0) refl past
    ∙ ap (λ i. get_or (map (from_row row) targets) i (0, 0)) e ∙ get_or-map (from_row row) targets j 0 (0, 0) lt

sorted_more : (row : ℕ) (targets : List ℕ) (steps : List (ℕ × ℕ)) → IsStrictlyIncreasing targets → ((k : ℕ) → k + 1 < length steps → IsBefore (get_or steps k (0, 0)) (get_or steps (k + 1) (0, 0)))
    → ((k : ℕ) → k < length steps → (get_or steps k (0, 0)).0 < row) → (k : ℕ) → k + 1 < length (steps ++ map (from_row row) targets)
    → IsBefore (get_or (steps ++ map (from_row row) targets) k (0, 0)) (get_or (steps ++ map (from_row row) targets) (k + 1) (0, 0))
sorted_more row targets steps rises sorted below k lt =
    let all = steps ++ map (from_row row) targets in
    let count : length all ≡ length steps + length targets = length-append steps (map (from_row row) targets) ∙ ap (λ n. length steps + n) (length-map targets (from_row row)) in
    elim (cases_lt (k + 1) (length steps)) [
      | inl inside ↦
          rw (get_or_append_left steps (map (from_row row) targets) (0, 0) k (omega (arith, inside)), get_or_append_left steps (map (from_row row) targets) (0, 0) (k + 1) inside) (sorted k inside)
      | inr past ↦ elim (cases_lt k (length steps)) [
        | inl last ↦
            let next = target_at row targets steps (k + 1) 0 past (omega (arith, last, past)) (omega (arith, lt, count, last, past)) in
            rw (get_or_append_left steps (map (from_row row) targets) (0, 0) k last, next) (inl (below k last))
        | inr after ↦
            let j : (i : ℕ) × (k - length steps ≡ i) = (k - length steps, refl) in
            let next = target_at row targets steps (k + 1) (j.0 + 1) past (omega (arith, j.1, after)) (omega (arith, lt, count, j.1, after)) in
            rw (target_at row targets steps k j.0 after j.1 (omega (arith, lt, count, j.1, after)), next) (inr (refl, rises j.0 (omega (arith, lt, count, j.1, after))))
      ]
    ]

pub steps_more : (file : DataFile) (row : ℕ) (targets : List ℕ) (steps new : List (ℕ × ℕ)) → ListsSteps steps (StepsBefore file row) → ListsRows targets (StepAt file row) → new ≡ steps ++ map (from_row row) targets
    → ListsSteps new (StepsBefore file (row + 1))
steps_more file row targets steps new so_far lists e =
    subst (λ all. ListsSteps all (StepsBefore file (row + 1))) (sym e) (record {
      sorted = sorted_more row targets steps lists.rising so_far.sorted (λ k lt. ((so_far.exact (get_or steps k (0, 0)).0 (get_or steps k (0, 0)).1).0 (Contains-get_or steps k (0, 0) lt)).0);
      exact = λ n m. (
        λ h. elim (Contains-append_cases steps (map (from_row row) targets) (n, m) h) [
          | inl was ↦ let old = (so_far.exact n m).0 was in (omega (arith, old.0), old.1)
          | inr is ↦
              let from = map_contains (from_row row) targets (n, m) is in
              let starts : row ≡ n = ap (λ (p : ℕ × ℕ). p.0) from.2 in
              let ends : from.0 ≡ m = ap (λ (p : ℕ × ℕ). p.1) from.2 in
              (omega (arith, starts), subst (λ x. StepAt file x m) starts (subst (λ y. StepAt file row y) ends ((lists.exact from.0).0 from.1)))
        ],
        λ h. elim (cases_lt n row) [
          | inl old ↦ Contains-append_left steps (map (from_row row) targets) (n, m) ((so_far.exact n m).1 (old, h.1))
          | inr now' ↦
              let is : n ≡ row = omega (arith, h.0, now') in
              subst (λ x. Contains (steps ++ map (from_row row) targets) (x, m)) (sym is)
              (Contains-append_right steps (map (from_row row) targets) (row, m) (contains_map (from_row row) targets m ((lists.exact m).1 (subst (λ x. StepAt file x m) is h.1))))
        ],
      );
    })

pub steps_all : (file : DataFile) (steps : List (ℕ × ℕ)) (rows : ℕ) → rows ≡ length (rows_in file) → ListsSteps steps (StepsBefore file rows) → ListsSteps steps (StepAt file)
steps_all file steps rows e so_far = record {
  sorted = so_far.sorted;
  exact = λ n m. (λ h. ((so_far.exact n m).0 h).1, λ h. (so_far.exact n m).1 (omega (arith, e, h.2.0), h));
}

pub steps_in_range : (file : DataFile) (steps : List (ℕ × ℕ)) (rows : ℕ) → rows ≡ length (rows_in file) → ListsSteps steps (StepsBefore file rows) → InRange rows steps
steps_in_range file steps rows e so_far k d lt =
    let p = get_or steps k d in
    let step = ((so_far.exact p.0 p.1).0 (Contains-get_or steps k d lt)).1 in
    (omega (arith, e, step.2.0), omega (arith, e, step.3.0))

-- ---- how many they are

-- the k-th of rising numbers is at least k
at_least : (xs : List ℕ) → IsStrictlyIncreasing xs → (k : ℕ) → k < length xs → k ≤ get_or xs k 0
at_least xs rises zero lt = omega arith
at_least xs rises (suc k) lt =
    let before = at_least xs rises k (omega (arith, lt)) in
    let next = earlier_is_below xs k (suc k) rises (omega arith) lt in
    omega (arith, before, next)

-- rising numbers below n are at most n
pub rising_count : (xs : List ℕ) (n : ℕ) → IsStrictlyIncreasing xs → ((x : ℕ) → Contains xs x → x < n) → length xs ≤ n
rising_count xs n rises below = elim (cases_lt 0 (length xs)) [
  | inl some ↦
      let k : (i : ℕ) × (length xs ≡ i + 1) = (length xs - 1, omega (arith, some)) in
      let here : k.0 < length xs = omega (arith, k.1) in
      let last = below (get_or xs k.0 0) (Contains-get_or xs k.0 0 here) in
      let most = at_least xs rises k.0 here in
      omega (arith, k.1, last, most)
  | inr none ↦ omega (arith, none)
]

-- a row has fewer steps than 2 ^ 32
pub few_steps : (file : DataFile) (n : ℕ) (rows : List ℕ) → length (rows_in file) < 2 ^ 32 → ListsRows rows (StepAt file n) → length rows < 2 ^ 32
few_steps file n rows few lists =
    let most = rising_count rows (length (rows_in file)) lists.rising (λ m h. let step = (lists.exact m).0 h in step.3.0) in
    omega (arith, few, most)

-- so many steps have the rows before the next
abbrev pub CountsBefore : DataFile → ℕ → ℕ → Type 0
CountsBefore file next count = (steps : List (ℕ × ℕ)) × ListsSteps steps (StepsBefore file next) × (count ≡ length steps)

pub count_more : (file : DataFile) (row count new : ℕ) → CountsBefore file row count → ((rows : List ℕ) × ListsRows rows (StepAt file row) × (new ≡ length rows)) → CountsBefore file (row + 1) (count + new)
count_more file row count new so_far more =
    let steps = so_far.0 ++ map (from_row row) more.0 in
    let size : length steps ≡ length so_far.0 + length more.0 = length-append so_far.0 (map (from_row row) more.0) ∙ ap (λ n. length so_far.0 + n) (length-map more.0 (from_row row)) in
    (steps, steps_more file row more.0 so_far.0 steps so_far.1 more.1 refl, omega (arith, size, so_far.2, more.2))
