-- Lemmas on the definitions of specs/Creates.antt.
use Rattle.std.proofs.Common.{◌≡◌, ℕ, ◌+◌, ◌≤◌, List, [], ◌∷◌, ◌++◌, map, length, false, None, Ok, refl, sym, ap, subst}
use Rattle.std.proofs.Common.{◌∙◌, arith}
use Rattle.std.proofs.lemmas.Bool.{eqb-false}
use Rattle.std.specs.List.Sorted.{IsPermutation}
use Rattle.std.proofs.lemmas.List.Sorted.{IsPermutation-refl, IsPermutation-trans, IsPermutation-append_comm}
use Rattle.sqlite.specs.Order.{Row}
use Rattle.sqlite.specs.Schema.{Schema}
use Rattle.sqlite.specs.Command.TheVariants.{CreateTable}
use Rattle.sqlite.specs.Change.{created, next_tree, KeepsRows}
use Rattle.sqlite.specs.Does.{Tally, lacks_sequence}
use Rattle.sqlite.specs.Effect.{Database}
use Rattle.sqlite.specs.State.{State, Writes, Executes}
use Rattle.sqlite.proofs.Callers.{runs_as}
use Rattle.ags_rows.specs.declared.TheConstants.{READABLE}
use Rattle.ags_dict.specs.Entries.{Entries}
use Rattle.ags_dict.specs.Reading.{IsDictionary}
use Rattle.reg_tables.specs.Tables.{no_schema, first_schema}
use Rattle.reg_tables.proofs.MeaningLaws.{MakesTable, with_lines}
use Rattle.reg_tables.specs.Private.Meaning.{with_meta, with_deposits}
use Rattle.reg_tables.specs.Rows.{columns_3, columns_5, dictionary_row, format_row, first_column, rows_under}
use Rattle.reg_tables.proofs.InsertsLaws.{FillsMeta, meta_rows, same_value, went}
use Rattle.reg_tables.specs.Register.{tables}
use Rattle.reg_tables.proofs.StoredText.{text_of_meta}
use Rattle.reg_tables.specs.Creates.{Made, MakesWithdrawals, HasFirst, HasFour, IsNewRegister, IsEmptyRegister}

pub makes : {from to : Schema} {text : List ℕ} (old new : State) (count : ℕ) → MakesTable from text to
    → old.now.schema ≡ from → Executes text [] old new (Ok count) → Made from to old.now new.now
makes {from} {to} {text} old new count means has h =
    let w = subst (λ t. Writes old new None CreateTable t [] count) means.whole
    (runs_as text [] old new from has CreateTable means.asked means.plain count h) in
    let all = went w.changed in
    let first = went all.1 in
    let made = first.1 in
    let same : made.table ≡ means.table = same_value (sym made.defined ∙ means.defined) in
    let schema : first.0.schema ≡ to = made.is ∙ ap (λ s. created s made.table) has ∙ ap (created from) same ∙ means.makes in
    let plain : lacks_sequence first.0.schema ≡ false = ap lacks_sequence schema ∙ means.unsequenced in
    let now : new.now ≡ first.0 =
    ap (λ (p : Tally × Database). p.1) (same_value all.2) ∙ same_value (rw plain at first.2) in
    record {
      schema = ap (λ (d : Database). d.schema) now ∙ schema;
      empty = ap (λ (d : Database). d.trees (next_tree from)) now
          ∙ subst (λ s. first.0.trees (next_tree s) ≡ []) has made.empty;
      others = subst (λ (d : Database). KeepsRows from.tables old.now.trees d.trees) (sym now)
          (subst (λ (s : Schema). KeepsRows s.tables old.now.trees first.0.trees) has made.others);
    }

pub first_two : (a b c : Database) → Made no_schema with_meta a b → Made with_meta with_deposits b c → HasFirst c
first_two a b c one two = record { schema = two.schema; meta = two.others.0 ∙ one.empty; deposits = two.empty }

pub last_two : (a b c : Database) → HasFirst a → Made with_deposits with_lines a b
    → Made with_lines first_schema b c → HasFour c
last_two a b c was one two = record {
  schema = two.schema;
  meta = two.others.0 ∙ one.others.0 ∙ was.meta;
  deposits = two.others.1.0 ∙ one.others.1.0 ∙ was.deposits;
  lines = two.others.1.1.0 ∙ one.empty;
  steps = two.empty;
}

pub filled : (text : List ℕ) (a b c : Database) → HasFour a → MakesWithdrawals a b → FillsMeta text b c → IsNewRegister text c
filled text a b c was one put =
    let added : IsPermutation (meta_rows 2 text) (map columns_3 (c.trees 0)) = subst (λ (rows : List Row).
    IsPermutation (map columns_3 rows ++ meta_rows 2 text) (map columns_3 (c.trees 0))) (one.others.0 ∙ was.meta) put.rows in
    record {
      schema = put.schema;
      sound = put.sound;
      meta = IsPermutation-trans _ _ _ (IsPermutation-append_comm (dictionary_row text ∷ []) (format_row 2 ∷ [])) added;
      deposits = put.others.1.0 (eqb-false 2 0 refl) ∙ one.others.1.0 ∙ was.deposits;
      lines = put.others.1.1.0 (eqb-false 4 0 refl) ∙ one.others.1.1.0 ∙ was.lines;
      steps = put.others.1.1.1.0 (eqb-false 6 0 refl) ∙ one.others.1.1.1.0 ∙ was.steps;
      marks = put.others.1.1.1.1.0 (eqb-false 8 0 refl) ∙ one.empty;
    }

pub new_empty : (text : List ℕ) (dictionary : Entries) (db : Database) → length text ≤ READABLE
    → IsDictionary text dictionary → IsNewRegister text db → IsEmptyRegister text db
new_empty text dictionary db short reads it = record {
  dictionary = dictionary;
  register = record {
    holds = record {
      schema = it.schema;
      sound = it.sound;
      text = text;
      short = short;
      reads = reads;
      meta = it.meta;
      deposits = subst (λ rows. IsPermutation [] (map columns_5 rows)) (sym it.deposits) (IsPermutation-refl []);
      files = [];
      each = tt;
      named = tt;
      apart = tt;
      few = omega arith;
      lines = λ k. subst (λ rows. IsPermutation [] (rows_under (k + 1) (map columns_5 rows))) (sym it.lines)
          (IsPermutation-refl []);
      steps = λ k. subst (λ rows. IsPermutation [] (rows_under (k + 1) (map columns_3 rows))) (sym it.steps)
          (IsPermutation-refl []);
    };
    marks = subst (λ rows. IsPermutation [] (map first_column rows)) (sym it.marks) (IsPermutation-refl []);
  };
  bytes = text_of_meta 2 text _ it.meta;
}

-- so are its trees under the schema of a register
pub new_left : (text : List ℕ) (dictionary : Entries) (db : Database) → length text ≤ READABLE
    → IsDictionary text dictionary → IsNewRegister text db → IsEmptyRegister text (tables db.trees)
new_left text dictionary db short reads it =
    subst (IsEmptyRegister text) same (new_empty text dictionary db short reads it)
  where
    same : db ≡ tables db.trees
    same = λ i. record { schema = it.schema i; trees = db.trees }
