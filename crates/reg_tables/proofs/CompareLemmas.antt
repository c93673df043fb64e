-- Rows that come one by one, beside a list of rows.
use Rattle.std.proofs.Common.{◌≡◌, ℕ, suc, ◌+◌, ◌<◌, ◌==◌, ◌&&◌, Bool, true, false, IsTrue, List, [], ◌∷◌, ◌++◌, map, length, take, get_or, append_assoc, append-nil, refl, sym, ap, subst, ◌∙◌, arith}
use Rattle.std.proofs.Math.Seq.{get_or-append_seam, take-suc}
use Rattle.std.proofs.lemmas.Bool.{eq-eqb, eqb-true}
use Rattle.std.proofs.lemmas.List.{get_or_default, length-append, length-map, length-take-le, take_all}
use Rattle.sqlite.specs.declared.types.Value.TheVariants.{Int}
use Rattle.sqlite.specs.Order.{Row}
use Rattle.sqlite.specs.State.{State, Shown}
use Rattle.sqlite.specs.Tree.{IsAscending}
use Rattle.std.specs.Prelude.{pos}
use Rattle.ags_links.specs.Steps.{IsBefore}
use Rattle.reg_store.specs.declared.keep.KeptRow.{KeptRow}
use Rattle.reg_tables.specs.Tables.{HasTables}
use Rattle.reg_tables.proofs.Texts.{select_lines, select_steps}
use Rattle.reg_tables.specs.Rows.{placed_rows, step_pair}
use Rattle.reg_tables.specs.Private.Methods.{HoldsLines, HoldsSteps}
use Rattle.reg_tables.proofs.ReadsLaws.{holds_lines, reads_lines}
use Rattle.reg_tables.proofs.ReadsStepsLaws.{holds_steps, reads_steps}
use Rattle.reg_tables.specs.Whole.{Compares, Tests}
use Rattle.reg_tables.proofs.ExamineLemmas.{tests_rows}
use Rattle.reg_tables.proofs.RowsLemmas.{places_long}

one_more : (rows more : List Row) (row : Row) → (rows ++ row ∷ []) ++ more ≡ rows ++ row ∷ more
one_more rows more row = append_assoc rows (row ∷ []) more

-- the next row is the next of the list
pub compares_next : (mine rows : List Row) (row : Row) (at : ℕ) (is : Bool) → at < length mine → get_or mine at [] ≡ row → is ≡ true → Compares mine at is rows → Compares mine (at + 1) is (rows ++ row ∷ [])
compares_next mine rows row at is low here held was = record {
  yes = λ _.
      (let e : at + 1 ≡ suc at = omega arith in
      let next : take (at + 1) mine ≡ take at mine ++ row ∷ [] = ap (λ k. take k mine) e ∙ take-suc mine at row low ∙ ap (λ r. take at mine ++ r ∷ []) (get_or_default mine at row [] low ∙ here) in
      (omega (arith, low), ap (λ all. all ++ row ∷ []) (was.yes held).1 ∙ sym next));
  no = λ e. absurd (let clash : true ≡ false = sym held ∙ e in cc);
}

-- it is not, or the list has no more
pub compares_other : (mine rows : List Row) (row : Row) (at : ℕ) (is : Bool) → (at < length mine → get_or mine at [] ≡ row → ⊥) → is ≡ true → Compares mine at is rows → Compares mine at false (rows ++ row ∷ [])
compares_other mine rows row at is other held was = record {
  yes = λ e. absurd cc;
  no = λ _ more whole.
      (let first = was.yes held in
      let long : at ≡ length rows = sym (ap length first.1 ∙ length-take-le at mine first.0) in
      let all : rows ++ row ∷ more ≡ mine = sym (one_more rows more row) ∙ whole in
      other (omega (arith, long, ap length all, length-append rows (row ∷ more))) (ap (λ xs. get_or xs at []) (sym all)
      ∙ ap (λ k. get_or (rows ++ row ∷ more) k []) long ∙ get_or-append_seam rows row more []));
}

-- All came, and no more, where the count is that of the list.
all_compared : (mine rows : List Row) (at n : ℕ) (is : Bool) → n ≡ length mine → Compares mine at is rows → (IsTrue (is && (at == n)) → rows ≡ mine) × (rows ≡ mine → IsTrue (is && (at == n)))
all_compared mine rows at n false long it = (λ e. absurd cc, λ same. absurd (it.no refl [] (append-nil rows ∙ same)))
all_compared mine rows at n true long it =
    let first = it.yes refl in (
      λ e. (let end : at ≡ n = eqb-true at n e in first.1 ∙ take_all at mine (omega (arith, end, long))),
      λ same. eq-eqb at n (sym (length-take-le at mine first.0) ∙ sym (ap length first.1) ∙ ap length same ∙ sym long),
    )

pub lines_compared : (old new : State) (n : ℕ) (lines : List KeptRow) (at : ℕ) (is result : Bool) → HasTables old.now.schema
    → (rows : List Row) × Shown select_lines (Int (pos n) ∷ []) old new rows × Compares (placed_rows 0 lines) at is rows → result ≡ (is && (at == length lines)) → Tests result (HoldsLines old.now n lines)
lines_compared old new n lines at is result has shown same =
    let test = all_compared (placed_rows 0 lines) shown.0 at (length lines) is (sym (places_long 0 lines)) shown.2 in
    subst (λ b. Tests b (HoldsLines old.now n lines)) (sym same) (tests_rows _ shown.0 (placed_rows 0 lines) _ test (holds_lines old new n shown.0 has shown.1) (λ are. reads_lines old new n lines shown.0 has are shown.1))

pub steps_compared : (old new : State) (n : ℕ) (steps : List (ℕ × ℕ)) (at : ℕ) (is result : Bool) → HasTables old.now.schema → IsAscending IsBefore steps
    → (rows : List Row) × Shown select_steps (Int (pos n) ∷ []) old new rows × Compares (map step_pair steps) at is rows → result ≡ (is && (at == length steps)) → Tests result (HoldsSteps old.now n steps)
steps_compared old new n steps at is result has up shown same =
    let test = all_compared (map step_pair steps) shown.0 at (length steps) is (sym (length-map steps step_pair)) shown.2 in
    subst (λ b. Tests b (HoldsSteps old.now n steps)) (sym same) (tests_rows _ shown.0 (map step_pair steps) _ test (holds_steps old new n shown.0 has shown.1) (λ are. reads_steps old new n steps shown.0 has up are shown.1))
