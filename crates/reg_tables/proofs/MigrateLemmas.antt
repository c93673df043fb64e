-- The statements that make a register of format 1 one of format 2.
use Rattle.std.proofs.Common.{◌≡◌, ◌≢◌, ◌==◌, ◌⊎◌, inl, inr, ℕ, ◌+◌, Bool, true, false, List, [], ◌∷◌, map, length, None, Result, Ok, Err, IfOk, IfErr, OnOk, IsTrue, replicate, refl, sym, ap, subst, subst₂, ◌∙◌}
use Rattle.std.proofs.Math.Logic.{∥∥₁_elim, ∥∥₁_map}
use Rattle.std.proofs.Props.{props}
use Rattle.std.proofs.lemmas.Bool.{eqb-false}
use Rattle.std.proofs.lemmas.List.{length-map}
use Rattle.std.specs.List.{AllByRecursion, flat_map, filter_map}
use Rattle.std.specs.List.Sorted.{IsPermutation}
use Rattle.std.proofs.lemmas.List.Sorted.{IsPermutation-refl}
use Rattle.sqlite.specs.Recovery.{Image}
use Rattle.sqlite.specs.Start.{FindsIn}
use Rattle.sqlite.specs.Order.{Row}
use Rattle.sqlite.specs.Command.TheVariants.{Update}
use Rattle.sqlite.specs.Rowids.TheVariants.{Given}
use Rattle.sqlite.specs.Edit.{edit_of}
use Rattle.sqlite.specs.Effect.{Database, IsDatabase}
use Rattle.sqlite.specs.Does.{Tally, Does}
use Rattle.sqlite.specs.Rows.{Written}
use Rattle.sqlite.specs.Tree.{Trees}
use Rattle.sqlite.specs.Listing.{understood}
use Rattle.sqlite.specs.declared.error.Error.{Error}
use Rattle.sqlite.specs.State.{State, HasCleanDisk, Survives, mode_of, Executes, Opens, Shown, FailsToQuery, IsTooLate, KeepsCommit}
use Rattle.sqlite.proofs.StateLemmas.{survives_then, survives_weaker}
use Rattle.sqlite.proofs.Callers.{one_step, runs_as, statement_of}
use Rattle.sqlite_rules.specs.Action.{deed_for, pairs, work_by, works}
use Rattle.sqlite_rules.specs.Calls.{ids_of}
use Rattle.sqlite_rules.specs.Edit.{taken_by}
use Rattle.sqlite_schema.specs.Rules.{parent_key}
use Rattle.sqlite_schema.specs.declared.schema.Keys.TheVariants.{Enforced}
use Rattle.ags_dict.specs.Entries.{Entries}
use Rattle.reg_store.specs.Deposit.{Deposit, sents, new_deposit}
use Rattle.reg_store.specs.Sent.{Sent}
use Rattle.reg_tables.specs.declared.error.TableError.{TableError}
use Rattle.reg_tables.specs.declared.error.TableError.TheVariants as table
use Rattle.reg_tables.specs.Private.Commits.{Makes}
use Rattle.reg_tables.specs.declared.error.AdoptError.TheVariants.{Store}
use Rattle.reg_tables.specs.Private.Errors.{adopt_error, is_of_database}
use Rattle.reg_tables.specs.Quiet.{IsStill}
use Rattle.reg_tables.proofs.QuietLaws.{clean_before}
use Rattle.reg_tables.specs.declared.schema.format.Format.TheVariants.{First, Second}
use Rattle.reg_tables.specs.Creates.{MakesWithdrawals}
use Rattle.reg_tables.proofs.InsertsLaws.{same_value, went}
use Rattle.reg_tables.specs.Private.Inside.{Inside, Ran}
use Rattle.reg_tables.proofs.MarksLaws.{none_withdrawn, sents_unmarked}
use Rattle.reg_tables.proofs.MeaningLaws.{all_meta_read, format_raised, raise_is}
use Rattle.reg_tables.specs.Private.KeepLaws.{ChangesOf}
use Rattle.reg_tables.specs.declared.memory.Known.{Known}
use Rattle.reg_tables.specs.declared.memory.Memory.{Memory}
use Rattle.reg_tables.specs.declared.memory.digests.Digests.{Digests}
use Rattle.reg_tables.specs.Private.Digests.{AreBelow, AreDigested, HoldsDigests}
use Rattle.reg_tables.specs.Formats.{StartsWithMeta}
use Rattle.reg_tables.specs.Private.Heads.{AreNew, HoldsKnown}
use Rattle.reg_tables.specs.Private.Memory.{Agrees, Recalls}
use Rattle.reg_tables.specs.Migrates.{AddsWithdrawals, FindsFirst, HoldsFirst, IsMigrated, MigratedOf, Migrates, RecallsFirst}
use Rattle.reg_tables.specs.Register.{deposit_rows, deposits_in, HoldsSent, IsRegister, IsRegisterOf, marks_of, meta_columns, sents_in, tables, text_in}
use Rattle.reg_tables.specs.Private.RegisterLaws.{sents_back}
use Rattle.reg_tables.specs.Rows.{columns_3, deposit_table, first_column}
use Rattle.reg_tables.specs.Tables.{meta, register_schema}
use Rattle.reg_tables.specs.Private.ReadBack.{read_back}
use Rattle.reg_tables.proofs.ReadBackLaws.{holds_same, unmarked_register}
use Rattle.reg_tables.proofs.Texts.{raise_format, select_meta}
use Rattle.reg_tables.proofs.AddsLemmas.{kept_either}
use Rattle.reg_tables.proofs.OpenLemmas.{found_tables}
use Rattle.reg_tables.proofs.QueryLemmas.{fails_so, shown_same}
use Rattle.reg_tables.proofs.HeadsLemmas.{new_held}
use Rattle.reg_tables.proofs.RepeatsLemmas.{digested_held}
use Rattle.reg_tables.proofs.StoredText.{text_of_meta}

-- ---- what the update of meta leaves alone

-- no foreign key refers to meta
none_acted : (olds news : List Row) → works register_schema Enforced 0 0 olds news ≡ []
none_acted olds news = go (length news == 0)
  where
    go : (b : Bool) → flat_map (λ child. filter_map (λ ref. work_by 0 0 (pairs olds news) child ref (deed_for Enforced b ref) (parent_key register_schema.tables ref)) child.references) register_schema.tables ≡ []
    go true = refl
    go false = refl

record ChangesMeta (old new : Database) : Type 0 where
  schema : new.schema ≡ register_schema
  sound : IsDatabase new
  others : AllByRecursion (λ t. t.tree ≢ 0 → new.trees t.tree ≡ old.trees t.tree) register_schema.tables

changes_meta : (old new : State) (count : ℕ) → old.now.schema ≡ register_schema → Executes raise_format [] old new (Ok count) → ChangesMeta old.now new.now
changes_meta old new count has h =
    let db = old.now.trees in
    let command = Update 0 (record { lets = []; body = format_raised }) in
    let w = runs_as raise_format [] old new register_schema has command raise_is.0 raise_is.1 count h in
    let text = statement_of raise_format (understood register_schema raise_format) in
    let done = went (subst (λ s. Does old.step_limit (mode_of old) [] (record old.now { schema = s }) text None command (Ok (w.tally, new.now))) has w.changed) in
    let now = ap (λ (p : Tally × Database). p.1) (same_value (went (went done.2).2).2) in
    let given = went done.1 in
    let written = went given.2 in
    let same : new.now.trees ≡ written.0 = ap (λ (d : Database). d.trees) now ∙ ap (λ (it : Written). it.trees) (same_value written.2) in
    let edit = edit_of db meta (ids_of given.0) Given 1 given.0 in
    let step = one_step register_schema Enforced db written.0 edit (none_acted (taken_by db edit) edit.news) written.1 in
    record {
      schema = ap (λ (d : Database). d.schema) now;
      sound = w.sound;
      others = subst (λ (t : Trees). AllByRecursion (λ k. k.tree ≢ 0 → t k.tree ≡ db k.tree) register_schema.tables) (sym same) step.tables;
    }

pub changes_tables : (a b c : State) → Inside MakesWithdrawals a b → Ran raise_format [] b c → Inside AddsWithdrawals a c
changes_tables a b c one two =
    let made = one.change in
    let raised = changes_meta b c two.count made.schema two.ran in
    record {
      change = record {
        schema = raised.schema;
        sound = raised.sound;
        deposits = raised.others.1.0 (eqb-false 2 0 refl) ∙ made.others.1.0;
        lines = raised.others.1.1.0 (eqb-false 4 0 refl) ∙ made.others.1.1.0;
        steps = raised.others.1.1.1.0 (eqb-false 6 0 refl) ∙ made.others.1.1.1.0;
        marks = raised.others.1.1.1.1.0 (eqb-false 8 0 refl) ∙ made.empty;
      };
      goes_on = two.goes_on;
      is_open = two.is_open;
      committed = two.committed ∙ one.committed;
    }

-- ---- the new register

raises : (old new : Database) (text : List ℕ) → IsPermutation (meta_columns 1 text) (map columns_3 (old.trees 0)) → IsPermutation (meta_columns 2 text) (map columns_3 (new.trees 0)) → AddsWithdrawals old new → Migrates old new
raises old new text before after put = record {
  register = λ dictionary list was. record {
    holds = subst (HoldsSent Second new dictionary) (sym (sents_unmarked list)) (holds dictionary list was);
    marks = subst₂ IsPermutation (sym (none_withdrawn 1 list)) (sym (ap (map first_column) put.marks)) (IsPermutation-refl []);
  };
  bytes = text_of_meta 1 text _ before ∙ sym (text_of_meta 2 text _ after);
}
  where
    holds : (dictionary : Entries) (list : List Sent) → HoldsSent First old dictionary list → HoldsSent Second new dictionary list
    holds dictionary list was = holds_same Second dictionary old new list was put.schema put.sound
        (subst (λ (t : List ℕ). IsPermutation (meta_columns 2 t) (map columns_3 (new.trees 0))) (sym (text_of_meta 1 text _ before) ∙ text_of_meta 1 was.text _ was.meta) after)
        put.deposits put.lines put.steps

-- meta is read, the tables are changed, and meta is read again
pub raised_inside : (a b c e : State) (text : List ℕ) (before after : List Row) → Inside (λ old new. new ≡ old) a b → Inside AddsWithdrawals b c → Inside (λ old new. new ≡ old) c e
    → IsPermutation before (map columns_3 (a.now.trees 0)) → IsPermutation after (map columns_3 (c.now.trees 0)) → before ≡ meta_columns 1 text → after ≡ meta_columns 2 text
    → Inside (Makes Migrates) a e
raised_inside a b c e text before after one two three seen shown was is = record {
  change = subst₂ (Makes Migrates) one.change (sym three.change) (record { change = raises b.now c.now text first (subst (λ rows. IsPermutation rows (map columns_3 (c.now.trees 0))) is shown) two.change; sound = two.change.sound });
  goes_on = three.goes_on;
  is_open = three.is_open;
  committed = three.committed ∙ two.committed ∙ one.committed;
}
  where
    first : IsPermutation (meta_columns 1 text) (map columns_3 (b.now.trees 0))
    first = subst₂ (λ (rows : List Row) (db : Database). IsPermutation rows (map columns_3 (db.trees 0))) was (sym one.change) seen

-- ---- what was found before, and what is there then

-- a register is one under the schema of a register
as_tables : (db : Database) (dictionary : Entries) (list : List Deposit) → IsRegister db dictionary list → IsRegister (tables db.trees) dictionary list
as_tables db dictionary list is =
    let same : db ≡ tables db.trees = λ i. record { schema = is.holds.schema i; trees = db.trees } in subst (λ (d : Database). IsRegister d dictionary list) same is

sent_is : (db : Database) (dictionary : Entries) (count : ℕ) (p : HoldsFirst db dictionary count) → sents_in db.trees ≡ p.0
sent_is db dictionary count p = sents_back db.trees p.0 p.1.deposits

none_marked : (list : List Sent) → marks_of (map new_deposit list) ≡ replicate (length list) false
none_marked [] = refl
none_marked (d ∷ list) = ap (λ marks. false ∷ marks) (none_marked list)

pub recalled_first : (db : Database) (dictionary : Entries) (count : ℕ) (known : List Known) (marks : List Bool) (digests : Digests) (memory : Memory) → ∥ HoldsFirst db dictionary count ∥₁ → HoldsKnown db dictionary known → HoldsDigests db (count + 1) digests
    → AreBelow digests (count + 1) → length known ≡ count → marks ≡ replicate count false → length memory.known.items ≡ length known
    → ((list : List Deposit) → AreNew dictionary known (sents list) → marks ≡ marks_of list → AreDigested digests (sents list) → AreBelow digests (length list + 1) → Agrees memory dictionary list)
    → RecallsFirst db dictionary memory
recalled_first db dictionary count known marks digests memory some are digested below long none same agrees = record {
  sent = subst (λ n. ∥ HoldsFirst db dictionary n ∥₁) (sym long ∙ sym same) some;
  agrees = agrees (map new_deposit list)
      (new_held db dictionary known (sents (map new_deposit list)) (∥∥₁_map some (λ (p : HoldsFirst db dictionary count).
      subst (λ (sent : List Sent). IsPermutation (deposit_rows 1 sent) (deposit_table db.trees)) (sym (its p)) p.1.deposits)) are)
      (none ∙ ap (λ n. replicate n false) (sym count_is) ∙ sym (none_marked list))
      (λ k d at. ∥∥₁_elim some (Prim.hlevel props) (λ (p : HoldsFirst db dictionary count).
      subst (AreDigested digests) (sym (its p)) (digested_held db digests p.0 p.1.deposits (subst (λ n. HoldsDigests db (n + 1) digests) (sym p.2) digested)) k d at))
      (subst (λ n. AreBelow digests (n + 1)) (sym (length-map list new_deposit ∙ count_is)) below);
}
  where
    list : List Sent
    list = sents_in db.trees

    its : (p : HoldsFirst db dictionary count) → sents (map new_deposit list) ≡ p.0
    its p = sents_unmarked list ∙ sent_is db dictionary count p

    count_is : length list ≡ count
    count_is = ∥∥₁_elim some (Prim.hlevel props) (λ (p : HoldsFirst db dictionary count). ap length (sent_is db dictionary count p) ∙ p.2)

pub recalled_then : (old new : Database) (dictionary : Entries) (memory : Memory) → RecallsFirst old dictionary memory → Migrates old new → Recalls new dictionary memory
recalled_then old new dictionary memory found migrates = record {
  register = ∥∥₁_map found.sent (λ (p : HoldsFirst old dictionary (length memory.known.items)).
      (let all : (list : List Deposit) × IsRegister new dictionary list × (length list ≡ length memory.known.items) = (map new_deposit p.0, migrates.register dictionary p.0 p.1, length-map p.0 new_deposit ∙ p.2) in all));
  agrees = subst (Agrees memory dictionary) same found.agrees;
}
  where
    same : map new_deposit (sents_in old.trees) ≡ deposits_in new.trees
    same = ∥∥₁_elim found.sent (Prim.hlevel props) (λ (p : HoldsFirst old dictionary (length memory.known.items)).
        ap (map new_deposit) (sent_is old dictionary (length memory.known.items) p) ∙ sym (read_back new (map new_deposit p.0) (migrates.register dictionary p.0 p.1)))

pub migrated_list : (old : Database) (new : State) (dictionary : Entries) (memory : Memory) → RecallsFirst old dictionary memory → Migrates old new.now → new.committed ≡ new.now
    → ∥ IsRegisterOf First old dictionary (deposits_in new.committed.trees) ∥₁ × (text_in old.trees ≡ text_in new.committed.trees)
migrated_list old new dictionary memory found migrates settled = (
  ∥∥₁_map found.sent (λ (p : HoldsFirst old dictionary (length memory.known.items)).
      (let list = map new_deposit p.0 in
      let read : deposits_in new.committed.trees ≡ list = ap (λ (db : Database). deposits_in db.trees) settled ∙ read_back new.now list (migrates.register dictionary p.0 p.1) in
      let is : IsRegisterOf First old dictionary (deposits_in new.committed.trees) = subst (IsRegisterOf First old dictionary) (sym read) (unmarked_register old dictionary p.0 p.1) in is)),
  migrates.bytes ∙ ap (λ (db : Database). text_in db.trees) (sym settled),
)

pub migrated_left : (old mid : State) (dictionary : Entries) (memory : Memory) (trees : Trees) → mid.now ≡ old.now → RecallsFirst old.now dictionary memory → ChangesOf Migrates mid trees → IsMigrated old trees
migrated_left old mid dictionary memory trees same found put = ∥∥₁_map found.sent (λ (p : HoldsFirst old.now dictionary (length memory.known.items)).
    (let list = map new_deposit p.0 in
    let there = put.1.register dictionary p.0 (subst (λ (db : Database). HoldsSent First db dictionary p.0) (sym same) p.1) in
    let bytes = ap (λ (db : Database). text_in db.trees) (sym same) ∙ put.1.bytes ∙ ap text_in (sym put.3) in
    let all : MigratedOf old trees = (dictionary, list, unmarked_register old.now dictionary p.0 p.1, subst (λ t. IsRegister (tables t) dictionary list) (sym put.3) (as_tables put.0 dictionary list there), bytes) in all))

-- what a crash leaves after the register was examined, and its tables were changed
pub migrates_then : (start mid new : State) (dictionary : Entries) (memory : Memory) → IsStill start mid false → (HasCleanDisk mid → RecallsFirst start.now dictionary memory) → Survives mid new (ChangesOf Migrates mid)
    → Survives start new (IsMigrated start)
migrates_then start mid new dictionary memory quiet found crash =
    survives_then start mid new _ _ (IsMigrated start) (λ _ db none. absurd none)
    (λ clean db put. (let early = clean_before mid new crash clean in migrated_left start mid dictionary memory db (quiet.same early refl).0 (found early) put)) quiet.survives crash

-- and what it leaves where that was refused
pub refused_then : (start mid new : State) (dictionary : Entries) (memory : Memory) (e : TableError) → IsStill start mid false → (HasCleanDisk mid → RecallsFirst start.now dictionary memory)
    → Survives mid new (ChangesOf Migrates mid) → (is_of_database e ≡ false → Survives mid new (λ _. ⊥)) → Survives start new (λ trees. (adopt_error e ≡ Store) × IsMigrated start trees)
refused_then start mid new dictionary memory table.Store quiet found crash none =
    survives_weaker start new _ _ (λ _ _ left. (refl, left)) (migrates_then start mid new dictionary memory quiet found crash)
refused_then start mid new dictionary memory table.NoMemory quiet found crash none =
    survives_then start mid new _ _ (λ trees. (adopt_error table.NoMemory ≡ Store) × IsMigrated start trees) (λ _ db no. absurd no) (λ _ db no. absurd no) quiet.survives (none refl)

pub found_first : {image : Image} {dictionary : Entries} {text : List ℕ} {list : List Deposit} (s : State) → Opens s → FindsIn image s
    → ∥ IsRegisterOf First s.now dictionary list ∥₁ × (text_in s.now.trees ≡ text) → ∥ FindsFirst image dictionary text list ∥₁
found_first {image} {dictionary} {text} {list} s opened found register =
    ∥∥₁_map register.0 (λ (is : IsRegisterOf First s.now dictionary list). record { db = s.now; found = found_tables {image = image} s opened found; register = is; bytes = register.1 })

-- ---- a query inside a transaction commits nothing

-- meta is read, and nothing changes
pub read_inside : {X : Type 0} (items : X → List Row) (old new : State) (r : Result X Error) → StartsWithMeta old.now.schema → IsTrue old.in_transaction → IfOk r (λ x. Shown select_meta [] old new (items x))
    → OnOk r (Inside (λ old new. new ≡ old) old new)
read_inside items old new (Err e) first inside h = tt
read_inside items old new (Ok x) first inside h =
    let it = (shown_same select_meta old new [] (items x) (all_meta_read old.now.schema first).plain h).0 in
    record { change = it.now_is; goes_on = subst IsTrue (sym it.mode) inside; is_open = it.is_open; committed = it.committed_is }

pub read_keeps : {X : Type 0} (items : X → List Row) (old new : State) (r : Result X Error) → StartsWithMeta old.now.schema → IfOk r (λ x. Shown select_meta [] old new (items x))
    → IfErr r (λ e. FailsToQuery select_meta [] old new e ⊎ IsTooLate select_meta [] old new e) → KeepsCommit old new
read_keeps items old new (Ok x) first h f = kept_either old new (inl (shown_same select_meta old new [] (items x) (all_meta_read old.now.schema first).plain h))
read_keeps items old new (Err e) first h (inl f) = kept_either old new (fails_so select_meta [] old new e f)
read_keeps items old new (Err e) first h (inr f) = kept_either old new (inl f.5)
