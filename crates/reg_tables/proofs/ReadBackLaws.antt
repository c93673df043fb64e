-- Lemmas on the definitions of specs/ReadBack.antt.
use Rattle.std.proofs.Common.{◌≡◌, ℕ, ◌+◌, ◌-◌, ◌<◌, List, [], ◌∷◌, ◌++◌, map, length, false, Some}
use Rattle.std.proofs.Common.{slice_get, refl, sym, subst, ◌∙◌}
use Rattle.std.proofs.lemmas.Bool.{eqb-false}
use Rattle.std.specs.List.Sorted.{IsPermutation}
use Rattle.std.proofs.lemmas.List.Sorted.{IsPermutation-append_left, IsPermutation-refl, IsPermutation-sym}
use Rattle.std.proofs.lemmas.List.Sorted.{IsPermutation-trans}
use Rattle.sqlite.specs.Order.{Row}
use Rattle.sqlite.specs.Effect.{Database, IsDatabase}
use Rattle.ags_dict.specs.Entries.{Entries}
use Rattle.ags_check.specs.Findings.{CheckedFile}
use Rattle.reg_store.specs.Fit.{kept_rows}
use Rattle.reg_store.specs.Sent.{Sent}
use Rattle.reg_store.specs.Deposit.{Deposit, with_withdrawn, sents, new_deposit}
use Rattle.reg_store.proofs.Lemmas.{sents_with_withdrawn}
use Rattle.reg_tables.specs.declared.schema.format.Format.{Format}
use Rattle.reg_tables.specs.Tables.{format_number, schema_of}
use Rattle.reg_tables.specs.declared.schema.format.Format.TheVariants.{First, Second}
use Rattle.reg_tables.specs.Rows.{columns_3, columns_5, first_column, number_row, rows_under}
use Rattle.reg_tables.specs.Private.Inserts.{AddsFile, AddsMark}
use Rattle.reg_tables.specs.Private.Marks.{long_sents}
use Rattle.reg_tables.proofs.MarksLaws.{mark_more, marks_push, none_withdrawn, sents_push, sents_unmarked}
use Rattle.reg_tables.specs.Register.{deposit_rows, file_lines, file_steps, HoldsSent, IsRegister, IsRegisterOf}
use Rattle.reg_tables.specs.Register.{mark_rows, marks_of, meta_columns}
use Rattle.reg_tables.proofs.RegisterLemmas.{IsReady, holds_push}

-- what was sent in tables of format 1 is a register of it, without a mark
pub unmarked_register : (db : Database) (dictionary : Entries) (list : List Sent) → HoldsSent First db dictionary list
    → IsRegisterOf First db dictionary (map new_deposit list)
unmarked_register db dictionary list holds = record {
  holds = subst (HoldsSent First db dictionary) (sym (sents_unmarked list)) holds;
  marks = subst (λ rows. IsPermutation rows []) (sym (none_withdrawn 1 list)) (IsPermutation-refl []);
}

pub register_push : (dictionary : Entries) (old new : Database) (list : List Deposit) (d : Sent) (file : CheckedFile)
    (count : ℕ) → IsRegister old dictionary list → count ≡ length list → count < 999999
    → AddsFile (count + 1) d (kept_rows file.groups) file.graph.steps old new → IsDatabase new
    → IsReady dictionary (sents list) d file → IsRegister new dictionary (list ++ new_deposit d ∷ [])
register_push dictionary old new list d file count was counted low put sound ready = record {
  holds = subst (HoldsSent Second new dictionary) (sym (sents_push list d)) (holds_push dictionary old new
      (sents list) d file count was.holds (counted ∙ sym (long_sents list)) low put sound ready);
  marks = subst (λ rows. IsPermutation rows (map first_column (new.trees 8))) (sym (marks_push list d))
      (subst (λ (rows : List Row). IsPermutation (mark_rows 1 (marks_of list)) (map first_column rows))
      (sym put.marks) was.marks);
}

-- Tables of a format hold what others hold, where their meta has the same bytes, and the tables of both formats are the same.
pub holds_same : {before : Format} (after : Format) (dictionary : Entries) (old new : Database) (list : List Sent) (was : HoldsSent before old dictionary list)
    → new.schema ≡ schema_of after → IsDatabase new → IsPermutation (meta_columns (format_number after) was.text) (map columns_3 (new.trees 0))
    → new.trees 2 ≡ old.trees 2 → new.trees 4 ≡ old.trees 4 → new.trees 6 ≡ old.trees 6 → HoldsSent after new dictionary list
holds_same after dictionary old new list was schema sound meta deposits lines steps = record {
  schema = schema;
  sound = sound;
  text = was.text;
  short = was.short;
  reads = was.reads;
  meta = meta;
  deposits = subst (λ (rows : List Row). IsPermutation (deposit_rows 1 list) (map columns_5 rows)) (sym deposits) was.deposits;
  files = was.files;
  each = was.each;
  named = was.named;
  apart = was.apart;
  few = was.few;
  lines = λ k. subst (λ (rows : List Row). IsPermutation (file_lines (slice_get was.files k)) (rows_under (k + 1) (map columns_5 rows))) (sym lines) (was.lines k);
  steps = λ k. subst (λ (rows : List Row). IsPermutation (file_steps (slice_get was.files k)) (rows_under (k + 1) (map columns_3 rows))) (sym steps) (was.steps k);
}

-- a mark changes none of what both formats have
holds_mark : (dictionary : Entries) (n : ℕ) (old new : Database) (list : List Sent)
    → HoldsSent Second old dictionary list → AddsMark n old new → HoldsSent Second new dictionary list
holds_mark dictionary n old new list was put =
    let meta = subst (λ (rows : List Row). IsPermutation (meta_columns 2 was.text) (map columns_3 rows)) (sym (put.others.0 (eqb-false 0 8 refl))) was.meta in
    holds_same Second dictionary old new list was put.schema put.sound meta
    (put.others.1.0 (eqb-false 2 8 refl)) (put.others.1.1.0 (eqb-false 4 8 refl)) (put.others.1.1.1.0 (eqb-false 6 8 refl))

pub register_mark : (dictionary : Entries) (old new : Database) (list : List Deposit) (n : ℕ) (d : Deposit)
    → IsRegister old dictionary list → 0 < n → slice_get list (n - 1) ≡ Some d → d.withdrawn ≡ false
    → AddsMark n old new → IsRegister new dictionary (with_withdrawn n list)
register_mark dictionary old new list n d was low at none put = record {
  holds = subst (HoldsSent Second new dictionary) (sym (sents_with_withdrawn n list))
      (holds_mark dictionary n old new (sents list) was.holds put);
  marks =
      let more = IsPermutation-trans _ _ _ (IsPermutation-append_left (number_row n ∷ []) _ _ was.marks) put.rows in
      IsPermutation-trans _ _ _ (IsPermutation-sym _ _ (mark_more n list d low at none)) more;
}
