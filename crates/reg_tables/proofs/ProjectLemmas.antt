-- The row of PROJ of a file, and the rows that it reaches.
use Rattle.std.specs.Prelude.{◌≡◌, ◌==◌, ◌&&◌, ◌||◌, ◌<◌, ℕ, ◌+◌, Bool, true, false, List, [], ◌∷◌, Contains, length, Option, Some, None, slice_get}
use Rattle.std.specs.List.{list_any}
use Rattle.std.specs.Str.{bytes_eq}
use Rattle.std.proofs.Common.{zero, suc, refl, sym, ap, subst, subst₂, ◌∙◌, inl, inr, arith}
use Rattle.std.proofs.Math.Logic.{∥∥₁_elim, ∥∥₁_map}
use Rattle.std.proofs.Props.{props}
use Rattle.std.proofs.lemmas.Bool.{and_parts, cases_lt, eq-eqb, eqb-true}
use Rattle.std.proofs.lemmas.List.Folds.{list_any_at}
use Rattle.std.proofs.lemmas.Slice.Eq.{bytes_eq-Decides}
use mathlib.Core.HLevel.{Σ_prop_path}
use Rattle.ags_check.specs.Findings.{CheckedFile, IsClean}
use Rattle.ags_links.specs.Walks.{HasStep, IsWalk, Reaches, StepGraph}
use Rattle.ags_links.proofs.Lemmas.{contains_head, contains_tail}
use Rattle.reg_store.specs.declared.keep.HeadedRow.{HeadedRow}
use Rattle.reg_store.specs.declared.keep.KeptRow.{KeptRow}
use Rattle.reg_store.specs.Fit.{kept_rows}
use Rattle.reg_store.specs.Project.{AreProjectRows, IsProjectRow, headed_rows, project_of}
use Rattle.reg_store.proofs.Lemmas.{headed_count}

-- what is found among a file's rows and steps is so of the file
pub project_of_file : (file : CheckedFile) (rows : List KeptRow) (graph : StepGraph) (found : List HeadedRow) → IsClean file → rows ≡ kept_rows file.groups → graph ≡ file.graph
    → (length (headed_rows [] [] rows) ≡ graph.rows → AreProjectRows rows graph.steps found) → AreProjectRows (kept_rows file.groups) file.graph.steps found
project_of_file file rows graph found clean rows_are graph_is its =
    subst₂ (λ (all : List KeptRow) (of : StepGraph). length (headed_rows [] [] all) ≡ of.rows → AreProjectRows all of.steps found) rows_are graph_is its (headed_count file clean)

-- ---- the first number that passes a test is one, so it is there where it is only known that there is some

abbrev IsFirst : (ℕ → Bool) → ℕ → Type 0
IsFirst test k = (test k ≡ true) × ((j : ℕ) → j < k → test j ≡ false)

abbrev First : (ℕ → Bool) → Type 0
First test = (k : ℕ) × IsFirst test k

apart : {A : Type 0} {b : Bool} → b ≡ true → b ≡ false → A
apart is is_not = let clash : true ≡ false = sym is ∙ is_not in absurd cc

one_first : (test : ℕ → Bool) (a b : First test) → a ≡ b
one_first test a b = Σ_prop_path {A = ℕ} {B = IsFirst test} prop {u = a} {v = b} same
  where
    prop : (k : ℕ) → IsProp (IsFirst test k)
    prop k = Prim.hlevel props

    same : a.0 ≡ b.0
    same = elim (cases_lt a.0 b.0) [
      | inl low ↦ apart a.1.0 (b.1.1 a.0 low)
      | inr up ↦ elim (cases_lt b.0 a.0) [ inl low ↦ apart b.1.0 (a.1.1 b.0 low) | inr down ↦ omega (arith, up, down) ]
    ]

first_from : (test : ℕ → Bool) (n k : ℕ) → ((j : ℕ) → j < k → test j ≡ false) → test (k + n) ≡ true → First test
first_from test zero k none is = let here : k + zero ≡ k = omega arith in (k, (ap test (sym here) ∙ is, none))
first_from test (suc n) k none is = go (test k) refl (λ more. first_from test n (k + 1) more (ap test (sym next) ∙ is))
  where
    next : k + suc n ≡ (k + 1) + n
    next = omega arith

    go : (b : Bool) → test k ≡ b → (((j : ℕ) → j < k + 1 → test j ≡ false) → First test) → First test
    go true here later = (k, (here, none))
    go false here later = later (λ j low. elim (cases_lt j k) [
      | inl below ↦ none j below
      | inr up ↦ (let same : j ≡ k = omega (arith, low, up) in ap test same ∙ here)
    ])

from_0 : (n : ℕ) → 0 + n ≡ n
from_0 n = omega arith

first_of : (test : ℕ → Bool) → ∥ ((k : ℕ) × (test k ≡ true)) ∥₁ → First test
first_of test some = ∥∥₁_elim some (one_first test) (λ (p : (k : ℕ) × (test k ≡ true)). first_from test p.0 0 (λ j low. absurd (omega (arith, low))) (ap test (from_0 p.0) ∙ p.1))

-- ---- what a list contains, by a test

abbrev Passed : {X : Type 0} → (X → Bool) → List X → Type 0
Passed {X} test xs = (x : X) × Contains xs x × (test x ≡ true)

passed : {X : Type 0} (test : X → Bool) (xs : List X) → list_any test xs ≡ true → Passed test xs
passed test [] is = absurd cc
passed test (x ∷ xs) is = go (test x) refl is (passed test xs)
  where
    go : (b : Bool) → test x ≡ b → (b || list_any test xs) ≡ true → (list_any test xs ≡ true → Passed test xs) → Passed test (x ∷ xs)
    go true here is later = (x, contains_head x xs, here)
    go false here is later = let at = later is in (at.0, contains_tail x xs at.0 at.1, at.2)

passes : {X : Type 0} (test : X → Bool) (xs : List X) (x : X) → Contains xs x → test x ≡ true → list_any test xs ≡ true
passes test xs x has is = list_any_at test xs has.0 x has.1 (ap test has.2 ∙ is)

both : (a b : Bool) → a ≡ true → b ≡ true → (a && b) ≡ true
both a b x y = subst₂ (λ (p q : Bool). (p && q) ≡ true) (sym x) (sym y) refl

-- ---- whether so many steps lead to an end

module _ (steps : List (ℕ × ℕ)) (is_end : ℕ → Bool) where
  abbrev leads : ℕ → ℕ → Bool
  leads zero r = is_end r
  leads (suc k) r = list_any (λ step. (step.0 == r) && leads k step.1) steps

  led : (k r : ℕ) → leads k r ≡ true → (m : ℕ) × Reaches (HasStep steps) r m × (is_end m ≡ true)
  led zero r is = (r, ([], refl), is)
  led (suc k) r is =
      let at = passed (λ step. (step.0 == r) && leads k step.1) steps is in
      let parts = and_parts (at.0.0 == r) (leads k at.0.1) at.2 in
      let on = led k at.0.1 parts.1 in
      let from : at.0.0 ≡ r = eqb-true at.0.0 r parts.0 in
      (on.0, (at.0.1 ∷ on.1.0, (subst (λ (q : ℕ). Contains steps (q, at.0.1)) from at.1, on.1.1)), on.2)

  leads_on : (rows : List ℕ) (r m : ℕ) → IsWalk (HasStep steps) r rows m → is_end m ≡ true → leads (length rows) r ≡ true
  leads_on [] r m same is = ap is_end same ∙ is
  leads_on (t ∷ rows) r m walk is = passes (λ step. (step.0 == r) && leads (length rows) step.1) steps (r, t) walk.0 (both _ _ (eq-eqb r r refl) (leads_on rows t m walk.1 is))

-- ---- rows that are only known to be those that are reached are so

abbrev same_row : HeadedRow → HeadedRow → Bool
same_row a b = bytes_eq a.group b.group && (bytes_eq a.headings b.headings && bytes_eq a.line b.line)

row_same : (a b : HeadedRow) → same_row a b ≡ true → a ≡ b
row_same a b is =
    let one = and_parts _ _ is in
    let two = and_parts _ _ one.1 in
    λ i. record { group = (bytes_eq-Decides a.group b.group).0 one.0 i; headings = (bytes_eq-Decides a.headings b.headings).0 two.0 i; line = (bytes_eq-Decides a.line b.line).0 two.1 i }

row_itself : (a : HeadedRow) → same_row a a ≡ true
row_itself a = both _ _ ((bytes_eq-Decides a.group a.group).1 refl) (both _ _ ((bytes_eq-Decides a.headings a.headings).1 refl) ((bytes_eq-Decides a.line a.line).1 refl))

abbrev shows : HeadedRow → Option HeadedRow → Bool
shows row None = false
shows row (Some other) = same_row other row

shown : (row : HeadedRow) (o : Option HeadedRow) → shows row o ≡ true → o ≡ Some row
shown row None is = absurd cc
shown row (Some other) is = ap (λ (r : HeadedRow). Some r) (row_same other row is)

number_is : {a b : ℕ} {x y : HeadedRow} {o : Option (ℕ × HeadedRow)} → o ≡ Some (a, x) → o ≡ Some (b, y) → a ≡ b
number_is {a} {b} {x} {y} e f = let pair : (a, x) ≡ (b, y) = cc in ap (λ (p : ℕ × HeadedRow). p.0) pair

none_found : {p : ℕ × HeadedRow} {o : Option (ℕ × HeadedRow)} → o ≡ None → o ≡ Some p → ⊥
none_found none is = absurd cc

reached : (rows : List KeptRow) (steps : List (ℕ × ℕ)) (row : HeadedRow) → ∥ IsProjectRow rows steps row ∥₁ → IsProjectRow rows steps row
reached rows steps row some = go (project_of rows) refl
  where
    is_end : ℕ → Bool
    is_end m = shows row (slice_get (headed_rows [] [] rows) m)

    counted : (n : ℕ) (first : HeadedRow) → IsProjectRow rows steps row → project_of rows ≡ Some (n, first) → (k : ℕ) × (leads steps is_end k n ≡ true)
    counted n first its is =
        let walk = subst (λ (r : ℕ). Reaches (HasStep steps) r its.0) (number_is its.1.1.1 is) its.1.2 in
        let end : is_end its.0 ≡ true = ap (shows row) its.2 ∙ row_itself row in
        (length walk.0, leads_on steps is_end walk.0 n its.0 walk.1 end)

    go : (o : Option (ℕ × HeadedRow)) → project_of rows ≡ o → IsProjectRow rows steps row
    go None none = absurd (∥∥₁_elim some (Prim.hlevel props) (λ (its : IsProjectRow rows steps row). none_found none its.1.1.1))
    go (Some (n, first)) is =
        let found = first_of (λ k. leads steps is_end k n) (∥∥₁_map some (λ (its : IsProjectRow rows steps row). counted n first its is)) in
        let at = led steps is_end found.0 n found.1.0 in
        (at.0, (n, (first, is), at.1), shown row (slice_get (headed_rows [] [] rows) at.0) at.2)

pub project_rows_of_some : (rows : List KeptRow) (steps : List (ℕ × ℕ)) (found : List HeadedRow) → ∥ AreProjectRows rows steps found ∥₁ → AreProjectRows rows steps found
project_rows_of_some rows steps found some row = (λ has. reached rows steps row (∥∥₁_map some (λ are. (are row).0 has)), λ its. listed (∥∥₁_map some (λ are. (are row).1 its)))
  where
    listed : ∥ Contains found row ∥₁ → Contains found row
    listed has =
        let is : list_any (λ other. same_row other row) found ≡ true = ∥∥₁_elim has (Prim.hlevel props) (λ (h : Contains found row). passes (λ other. same_row other row) found row h (row_itself row)) in
        let at = passed (λ other. same_row other row) found is in
        subst (Contains found) (row_same at.0 row at.2) at.1
