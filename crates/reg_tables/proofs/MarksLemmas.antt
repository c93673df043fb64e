-- Marks are found in rows that rise.
use Rattle.std.proofs.Common.{◌≡◌, ℕ, ℤ, zero, suc, ◌+◌, ◌<◌, ◌≤◌, pos, List, [], ◌∷◌, ◌++◌, Bool, true, false, drop, length, Some, slice_get, append_assoc, append-nil, refl, sym, ap, subst, ◌∙◌, arith}
use Rattle.std.proofs.lemmas.List.{length_push}
use Rattle.std.proofs.lemmas.Option.{slice_get_within}
use Rattle.sqlite.specs.Order.{Row, column}
use Rattle.reg_tables.proofs.MethodsLaws.{slice_get_in}
use Rattle.reg_tables.specs.Register.{integer_in, mark_rows}
use Rattle.reg_tables.specs.Rows.{number_row}

-- the number in a row of marks
abbrev number_of_row : Row → ℤ
number_of_row r = integer_in (column r 0)

-- a list without the first deposit has no mark of it
no_first : (m n : ℕ) (marks : List Bool) (more : List Row) → n < m → number_row n ∷ more ≡ mark_rows m marks → ⊥
no_first m n [] more low same = absurd cc
no_first m n (true ∷ marks) more low same =
    let rows : number_row n ≡ number_row m = cc in
    let number : pos n ≡ pos m = ap number_of_row rows in
    let e : n ≡ m = cc in
    absurd (omega (arith, low, e))
no_first m n (false ∷ marks) more low same = no_first (m + 1) n marks more (omega (arith, low)) same

-- the next row is the mark of this deposit
pub next_yes : (n : ℕ) (mark : Bool) (marks : List Bool) (more : List Row) → number_row n ∷ more ≡ mark_rows n (mark ∷ marks) → more ≡ mark_rows (n + 1) marks
next_yes n true marks more same = cc
next_yes n false marks more same = absurd (no_first (n + 1) n marks more (omega arith) same)

-- it is not, or there is none
pub next_no : (n : ℕ) (mark : Bool) (marks : List Bool) (rows : List Row) → (slice_get rows 0 ≡ Some (number_row n) → ⊥) → rows ≡ mark_rows n (mark ∷ marks) → rows ≡ mark_rows (n + 1) marks
next_no n true marks rows none same = absurd (none (ap (λ (all : List Row). slice_get all 0) same))
next_no n false marks rows none same = same

push_mark : (n : ℕ) (marks : List Bool) (mark : Bool) → mark_rows n (marks ++ mark ∷ []) ≡ mark_rows n marks ++ mark_rows (n + length marks) (mark ∷ [])
push_mark n [] mark = let e : n + 0 ≡ n = omega arith in rw e refl
push_mark n (true ∷ marks) mark =
    let e : (n + 1) + length marks ≡ n + suc (length marks) = omega arith in
    ap (λ more. number_row n ∷ more) (push_mark (n + 1) marks mark ∙ ap (λ k. mark_rows (n + 1) marks ++ mark_rows k (mark ∷ [])) e)
push_mark n (false ∷ marks) mark =
    let e : (n + 1) + length marks ≡ n + suc (length marks) = omega arith in
    push_mark (n + 1) marks mark ∙ ap (λ k. mark_rows (n + 1) marks ++ mark_rows k (mark ∷ [])) e

drop_here : {X : Type 0} (xs : List X) (k : ℕ) (x : X) → slice_get xs k ≡ Some x → drop k xs ≡ x ∷ drop (k + 1) xs
drop_here [] k x at = absurd cc
drop_here (y ∷ xs) zero x at = let same : y ≡ x = cc in ap (λ z. z ∷ xs) same
drop_here (y ∷ xs) (suc k) x at = let e : suc (k + 1) ≡ suc k + 1 = omega arith in subst (λ n. drop k xs ≡ x ∷ drop n (y ∷ xs)) e (drop_here xs k x at)

first_of_drop : {X : Type 0} (xs : List X) (k : ℕ) (x : X) → slice_get (drop k xs) 0 ≡ Some x → slice_get xs k ≡ Some x
first_of_drop [] zero x at = at
first_of_drop [] (suc k) x at = absurd cc
first_of_drop (y ∷ xs) zero x at = at
first_of_drop (y ∷ xs) (suc k) x at = first_of_drop xs k x at

-- So many deposits have come, and so many rows were their marks; what is left are marks of the deposits to come, if the rows are marks of so many at all.
pub record Matched (rows : List Row) (count at next : ℕ) (marks : List Bool) : Type 0 where
  pub long : length marks ≡ at
  pub low : next ≤ length rows
  pub so_far : rows ≡ mark_rows 1 marks ++ drop next rows
  pub left : (others : List Bool) → length others ≡ count → rows ≡ mark_rows 1 others → drop next rows ≡ mark_rows (1 + at) (drop at others)

-- what is left, by the next deposit
left_at : (rows : List Row) (count at next : ℕ) (marks : List Bool) → Matched rows count at next marks → at < count → (others : List Bool) → length others ≡ count → rows ≡ mark_rows 1 others
    → (mark : Bool) × (drop next rows ≡ mark_rows (1 + at) (mark ∷ drop (at + 1) others))
left_at rows count at next marks was low others long same =
    let mark = slice_get_in others at (omega (arith, low, long)) in
    (mark.0, was.left others long same ∙ ap (mark_rows (1 + at)) (drop_here others at mark.0 mark.1))

pub matched_yes : (rows : List Row) (count at next : ℕ) (marks : List Bool) → Matched rows count at next marks → at < count → slice_get rows next ≡ Some (number_row (at + 1)) → Matched rows count (at + 1) (next + 1) (marks ++ true ∷ [])
matched_yes rows count at next marks was low here =
    let e : at + 1 ≡ 1 + at = omega arith in
    let f : (1 + at) + 1 ≡ 1 + (at + 1) = omega arith in
    let g : at + 1 ≡ 1 + length marks = omega (arith, was.long) in
    let split : drop next rows ≡ number_row (at + 1) ∷ drop (next + 1) rows = drop_here rows next (number_row (at + 1)) here in
    record {
      long = length_push marks true ∙ ap (λ n. n + 1) was.long;
      low = omega (arith, slice_get_within rows next (number_row (at + 1)) here);
      so_far = was.so_far ∙ ap (λ (rest : List Row). mark_rows 1 marks ++ rest) (split ∙ ap (λ n. number_row n ∷ drop (next + 1) rows) g)
          ∙ sym (append_assoc (mark_rows 1 marks) (number_row (1 + length marks) ∷ []) (drop (next + 1) rows)) ∙ ap (λ (front : List Row). front ++ drop (next + 1) rows) (sym (push_mark 1 marks true));
      left = λ others long same.
          (let it = left_at rows count at next marks was low others long same in
          let more = next_yes (1 + at) it.0 (drop (at + 1) others) (drop (next + 1) rows) (ap (λ n. number_row n ∷ drop (next + 1) rows) (sym e) ∙ sym split ∙ it.1) in
          more ∙ ap (λ n. mark_rows n (drop (at + 1) others)) f);
    }

pub matched_no : (rows : List Row) (count at next : ℕ) (marks : List Bool) → Matched rows count at next marks → at < count → (slice_get rows next ≡ Some (number_row (at + 1)) → ⊥) → Matched rows count (at + 1) next (marks ++ false ∷ [])
matched_no rows count at next marks was low none =
    let e : 1 + at ≡ at + 1 = omega arith in
    let f : (1 + at) + 1 ≡ 1 + (at + 1) = omega arith in
    record {
      long = length_push marks false ∙ ap (λ n. n + 1) was.long;
      low = was.low;
      so_far = was.so_far ∙ ap (λ (front : List Row). front ++ drop next rows) (sym (append-nil (mark_rows 1 marks)) ∙ sym (push_mark 1 marks false));
      left = λ others long same.
          (let it = left_at rows count at next marks was low others long same in
          next_no (1 + at) it.0 (drop (at + 1) others) (drop next rows) (λ first. none (first_of_drop rows next (number_row (at + 1)) (first ∙ ap (λ n. Some (number_row n)) e))) it.1 ∙ ap (λ n. mark_rows n (drop (at + 1) others)) f);
    }

-- ---- so the table has its marks
