-- Lemmas on the definitions of specs/Private/RegisterLaws.antt.
use Rattle.std.proofs.Common.{◌≡◌, ℕ, ◌+◌, ◌<◌, List, [], ◌∷◌, ◌++◌, map, length, length-append, None, refl, sym, subst}
use Rattle.std.proofs.Common.{◌∙◌, arith}
use Rattle.sqlite_catalog.proofs.ListFacts.{zip_push}
use Rattle.std.specs.List.Sorted.{IsPermutation}
use Rattle.std.proofs.lemmas.Slice.Zip.{AllZip-long}
use Rattle.sqlite_keyed.proofs.ListLemmas.{all-append}
use Rattle.sqlite.specs.Effect.{Database, IsDatabase}
use Rattle.ags_dict.specs.Entries.{Entries}
use Rattle.ags_check.specs.Findings.{CheckedFile}
use Rattle.reg_store.specs.Sent.{Sent, number_of}
use Rattle.reg_tables.specs.declared.schema.format.Format.TheVariants.{Second}
use Rattle.reg_tables.specs.Rows.{given_deposit, deposit_table, IsMore, columns_3, rows_under, line_table, step_table}
use Rattle.reg_tables.specs.Rows.{placed_rows, line_rows, step_pair, step_rows}
use Rattle.reg_tables.specs.Private.Inserts.{AddsFile}
use Rattle.reg_store.specs.Fit.{IsFileOf, IsNamed, kept_rows}
use Rattle.reg_tables.proofs.ApartLaws.{apart_push}
use Rattle.reg_tables.specs.Register.{meta_columns, file_lines, file_steps, HoldsSent}
use Rattle.reg_tables.proofs.PushesLaws.{deposits_push, own_lines, other_lines, own_steps, other_steps, table_push}

-- what the adding of a deposit needs
pub record IsReady (dictionary : Entries) (list : List Sent) (d : Sent) (file : CheckedFile) : Type 0 where
  pub its : IsFileOf dictionary d file
  pub named : IsNamed d
  pub fresh : number_of d.firm d.project d.bytes list ≡ None

pub holds_push : (dictionary : Entries) (old new : Database) (list : List Sent) (d : Sent) (file : CheckedFile)
    (count : ℕ) → HoldsSent Second old dictionary list → count ≡ length list → count < 999999
    → AddsFile (count + 1) d (kept_rows file.groups) file.graph.steps old new → IsDatabase new
    → IsReady dictionary list d file → HoldsSent Second new dictionary (list ++ d ∷ [])
holds_push dictionary old new list d file count was counted low put sound ready =
    let long : length was.files ≡ length list = AllZip-long (IsFileOf dictionary) list was.files was.each in
    let n : count + 1 ≡ 1 + length list = omega (arith, counted) in
    let at : length was.files + 1 ≡ count + 1 = omega (arith, counted, long) in
    record {
      schema = put.schema;
      sound = sound;
      text = was.text;
      short = was.short;
      reads = was.reads;
      meta = subst (λ rows. IsPermutation (meta_columns 2 was.text) (map columns_3 rows)) (sym put.meta) was.meta;
      deposits = deposits_push list d (deposit_table old.trees) (deposit_table new.trees) was.deposits (subst
          (λ k. IsMore (deposit_table old.trees) (given_deposit k d ∷ []) (deposit_table new.trees)) n put.deposits);
      files = was.files ++ file ∷ [];
      each = zip_push (IsFileOf dictionary) list was.files d file was.each ready.its;
      named = all-append IsNamed list (d ∷ []) was.named (ready.named, tt);
      apart = apart_push 1 list d was.apart ready.fresh;
      few = omega (arith, length-append list (d ∷ []), counted, low);
      lines = table_push (λ _. file_lines) (λ _. refl) was.files file (line_table old.trees)
          (line_rows (count + 1) 0 (kept_rows file.groups)) (line_table new.trees)
          (subst (λ k. rows_under k (line_rows (count + 1) 0 (kept_rows file.groups))
          ≡ placed_rows 0 (kept_rows file.groups)) (sym at) (own_lines (count + 1) 0 (kept_rows file.groups)))
          (λ m differ. other_lines m (count + 1) 0 (kept_rows file.groups) (λ e. differ (at ∙ e))) put.lines was.lines;
      steps = table_push (λ _. file_steps) (λ _. refl) was.files file (step_table old.trees)
          (step_rows (count + 1) file.graph.steps) (step_table new.trees)
          (subst (λ k. rows_under k (step_rows (count + 1) file.graph.steps) ≡ map step_pair file.graph.steps) (sym at)
          (own_steps (count + 1) file.graph.steps))
          (λ m differ. other_steps m (count + 1) file.graph.steps (λ e. differ (at ∙ e))) put.steps was.steps;
    }
