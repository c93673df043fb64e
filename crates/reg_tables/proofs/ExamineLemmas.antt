-- Tests of what the tables hold.
use Rattle.std.proofs.Common.{zero, suc, IfErr, ◌⊎◌, inl, inr, ◌≡◌, ◌≢◌, ℕ, ◌+◌, ◌<◌, ◌≤◌, Bool, true, false, not, IsTrue, List, [], ◌∷◌, length, map, filter, get_or, Option, Some, None, is_some, IfSome, Result, Ok, Err, IfOk, refl, sym, ap, subst, subst₂, ◌∙◌, arith}
use Rattle.std.proofs.Math.Logic.{∥∥₁_map, ∥∥₁_elim}
use Rattle.std.proofs.Props.{props}
use Rattle.std.specs.List.Sorted.{IsPermutation}
use Rattle.std.specs.Prelude.{ℤ, pos, codes, Contains}
use Rattle.std.proofs.lemmas.Bool.{cases_lt}
use Rattle.std.proofs.lemmas.List.{length-map}
use Rattle.std.proofs.lemmas.List.Sorted.{IsPermutation-sym, IsPermutation-map, Contains-permutation, length_permutation}
use Rattle.sqlite.specs.Order.{Row, bytes, column}
use Rattle.sqlite.proofs.Callers.{one_permutation}
use Rattle.reg_tables.proofs.StoredText.{first_row}
use Rattle.sqlite.specs.Effect.{Database, IsDatabase}
use Rattle.ags_rows.specs.declared.TheConstants.{READABLE}
use Rattle.ags_rows.specs.Contents.{Contents, contents_of}
use Rattle.ags_rows.specs.Findings.{LooseFindings}
use Rattle.ags_rows.proofs.Lemmas.{one_loose_list, one_loose_grouping}
use Rattle.ags_dict.specs.Entries.{has_dict, lacks_heading, entries_of_file}
use Rattle.ags_dict.specs.Reading.{HasContents, IsDictionary, LacksDict, LacksHeading}
use Rattle.ags_rows.specs.declared.finding.Finding.{Finding}
use Rattle.ags_dict.specs.Entries.{Entries}
use Rattle.ags_check.specs.Findings.{CheckedFile, Findings}
use Rattle.ags_check.proofs.Lemmas.{one_clean_file, one_list}
use Rattle.reg_tables.specs.declared.error.TableError.{TableError}
use Rattle.reg_tables.specs.declared.open.head.DigestedHead.{DigestedHead}
use Rattle.reg_tables.specs.declared.memory.digests.Digests.{Digests}
use Rattle.reg_store.specs.declared.keep.KeptRow.{KeptRow}
use Rattle.reg_store.specs.Sent.{Sent, is_repeat}
use Rattle.reg_store.specs.Fit.{IsFileOf, IsNamed, kept_rows}
use Rattle.reg_tables.specs.Rows.{columns_3, deposit_table, dictionary_row, format_row, given_deposit, first_column, has_number}
use Rattle.reg_store.specs.Deposit.{sents}
use Rattle.reg_tables.specs.declared.schema.format.Format.{Format}
use Rattle.reg_tables.specs.Private.Found.{AreMetaByName}
use Rattle.reg_tables.specs.Tables.{HasTables, format_number, schema_of}
use Rattle.reg_tables.specs.Register.{HoldsSent, deposit_rows, integer_in, meta_columns}
use Rattle.reg_tables.specs.Private.RegisterLaws.{rows-length}
use Rattle.reg_tables.specs.Private.Digests.{AreBelow, HasEqual, HasNoEqual, HoldsDigests, IsFirst, IsNew, is_among, numbers_under, own_digest}
use Rattle.reg_tables.specs.Private.Heads.{IsDigestedAt, IsDigestedFrom, IsKnownOf, KnowsFile}
use Rattle.reg_tables.specs.declared.memory.file.KnownFile.{KnownFile}
use Rattle.reg_tables.specs.Private.Methods.{HoldsLines, HoldsSteps}
use Rattle.reg_tables.proofs.MethodsLaws.{same_deposit, same_file}
use Rattle.reg_tables.proofs.RepeatsLemmas.{false_if, same_digest}
use Rattle.reg_tables.specs.declared.error.AdoptError.{AdoptError}
use Rattle.reg_tables.specs.declared.error.AdoptError.TheVariants.{NotRegister, Version, NoMemory}
use Rattle.reg_tables.specs.Formats.{IsFormatRow}
use Rattle.reg_tables.specs.Adoption.{Adopts, CountsDeposits, Examines, HasNoOtherFormat, MetaOf, ReadsMeta}
use Rattle.reg_tables.proofs.RowsLemmas.{numbers_long}
use Rattle.reg_tables.specs.Private.NumberRows.{number_rows}
use Rattle.reg_tables.specs.Whole.{AreWhole, Counts, HasMeta, HoldsBody, IsWhole, Tests}
use Rattle.reg_tables.proofs.WholeLaws.{adopts_whole, of_all, whole_at}
use Rattle.reg_tables.proofs.TablesLemmas.{tables_first}

-- the rows that are shown are the table's, and are these where the table holds these
pub tests_rows : (is : Bool) (rows mine table : List Row) → (IsTrue is → rows ≡ mine) × (rows ≡ mine → IsTrue is) → IsPermutation rows table → (IsPermutation mine table → rows ≡ mine) → Tests is (IsPermutation mine table)
tests_rows true rows mine table same all found = record { yes = λ _. ∣ subst (λ r. IsPermutation r table) (same.0 refl) all ∣₁; no = λ e. absurd cc }
tests_rows false rows mine table same all found = record { yes = λ e. absurd cc; no = λ _ holds. absurd (let clash = same.1 (found holds) in cc) }

pub tests_first : (A B : Type 0) → Tests false A → Tests false (A × B)
tests_first A B first = record { yes = λ e. absurd cc; no = λ e both. first.no refl both.0 }

pub tests_both : (is : Bool) (A B : Type 0) → Tests true A → Tests is B → Tests is (A × B)
tests_both is A B one two = record { yes = λ e. pair (one.yes refl) (two.yes e); no = λ e both. two.no e both.1 }
  where
    pair : ∥ A ∥₁ → ∥ B ∥₁ → ∥ (A × B) ∥₁
    pair a b = ∥∥₁_elim a (Prim.hlevel props) (λ x. ∥∥₁_map b (λ y. (x, y)))

pub tests_then : (is : Bool) (A : Type 0) (B : Database → Type 0) (old mid : Database) → mid ≡ old → Tests true A → Tests is (B mid) → Tests is (A × B old)
tests_then is A B old mid same one two = tests_both is A (B old) one (subst (λ (db : Database). Tests is (B db)) same two)

pub tests_as : (is : Bool) (A B : Type 0) → (A → B) → (B → A) → Tests is A → Tests is B
tests_as is A B there back test = record { yes = λ e. ∥∥₁_map (test.yes e) there; no = λ e b. test.no e (back b) }

pub counts_by : (db : Database) (rows : List Row) (found : Option ℕ) → IsPermutation rows (map first_column (deposit_table db.trees)) → ((list : List Sent) → IsPermutation (deposit_rows 1 list) (deposit_table db.trees) → rows ≡ number_rows 1 (length list))
    → IfSome found (λ count. count ≤ 999999) → IfSome found (λ count. rows ≡ number_rows 1 count) → (found ≡ None → (count : ℕ) → count ≤ 999999 → rows ≡ number_rows 1 count → ⊥) → Counts db found
counts_by db rows (Some count) all are few some none = (few, subst (λ r. IsPermutation r (map first_column (deposit_table db.trees))) some all)
counts_by db rows None all are few some none = λ list low holds. none refl (length list) low (are list holds)

pub counts_none : (db : Database) {found : Option ℕ} → ((count : ℕ) → found ≡ Some count → ⊥) → Counts db found → Counts db None
counts_none db {found = None} none counts = counts
counts_none db {found = Some count} none counts = absurd (none count refl)

-- a second test, after which the tables are as they were
pub tests_later : (r : Result Bool TableError) (A : Type 0) (B : Database → Type 0) (old mid : Database) → mid ≡ old → Tests true A → IfOk r (λ is. Tests is (B mid)) → IfOk r (λ is. Tests is (A × B old))
tests_later (Ok is) A B old mid same one two = tests_then is A B old mid same one two
tests_later (Err e) A B old mid same one two = tt

-- what is known of a file is known of each file of its deposit
pub known_of : (dictionary : Entries) (d : Sent) (file : CheckedFile) (known : KnownFile) → IsFileOf dictionary d file → IsKnownOf file known → KnowsFile dictionary d known
known_of dictionary d file known its is other of = subst (λ (f : CheckedFile). IsKnownOf f known) (same_file dictionary d file other its of) is

pub known_file : (r : Result (Option KnownFile) TableError) (dictionary : Entries) (d : Sent) (file : CheckedFile) → IsFileOf dictionary d file → IfOk r (λ found. IfSome found (IsKnownOf file)) → IfOk r (λ found. IfSome found (KnowsFile dictionary d))
known_file (Err e) dictionary d file its is = tt
known_file (Ok None) dictionary d file its is = tt
known_file (Ok (Some known)) dictionary d file its is = known_of dictionary d file known its is

-- the lines and steps of a file, by those that are its
pub file_tests : {is so : Bool} (db : Database) (n : ℕ) (lines own : List KeptRow) (steps graph : List (ℕ × ℕ)) → is ≡ so → lines ≡ own → steps ≡ graph
    → Tests is (HoldsLines db n lines × HoldsSteps db n steps) → Tests so (HoldsLines db n own × HoldsSteps db n graph)
file_tests {is} {so} db n lines own steps graph is_so lines_are steps_are test =
    subst (λ (b : Bool). Tests b (HoldsLines db n own × HoldsSteps db n graph)) is_so (subst₂ (λ (all : List KeptRow) (of : List (ℕ × ℕ)). Tests is (HoldsLines db n all × HoldsSteps db n of)) lines_are steps_are test)

-- a deposit, by the lines and steps of its file
pub body_tests : (r : Result (Option KnownFile) TableError) (db : Database) (dictionary : Entries) (n : ℕ) (d : Sent) (file : CheckedFile) → IsFileOf dictionary d file
    → IfOk r (λ found. Tests (is_some found) (HoldsLines db n (kept_rows file.groups) × HoldsSteps db n file.graph.steps)) → IfOk r (λ found. Tests (is_some found) (HoldsBody db dictionary n d))
body_tests (Err e) db dictionary n d file its test = tt
body_tests (Ok found) db dictionary n d file its test = tests_as (is_some found) _ (HoldsBody db dictionary n d) (λ held. record { file = file; its = its; lines = held.0; steps = held.1 }) back test
  where
    back : HoldsBody db dictionary n d → HoldsLines db n (kept_rows file.groups) × HoldsSteps db n file.graph.steps
    back held =
        let one = one_clean_file held.file file held.its.clean its.clean (held.its.given ∙ sym its.given) (held.its.bytes ∙ sym its.bytes) in
        subst (λ (f : CheckedFile). HoldsLines db n (kept_rows f.groups) × HoldsSteps db n f.graph.steps) one (held.lines, held.steps)

pub whole_tests : (r : Result (Option DigestedHead) TableError) (db mid : Database) (dictionary : Entries) (n : ℕ) (d : Sent) (rows : List Row) (digests : Digests) → mid ≡ db → IsPermutation rows (filter (has_number n) (deposit_table db.trees)) → rows ≡ given_deposit n d ∷ [] → IsNamed d
    → AreBelow digests n → HoldsDigests db n digests → IfOk r (λ found. Tests (is_some found) (HoldsBody mid dictionary n d × IsNew mid (numbers_under digests (own_digest d)) d)) → IfOk r (λ found. Tests (is_some found) (IsWhole db dictionary n))
whole_tests (Err e) db mid dictionary n d rows digests same found read named below held test = tt
whole_tests (Ok one) db mid dictionary n d rows digests same found read named below held test =
    tests_as (is_some one) _ (IsWhole db dictionary n) there back (subst (λ (t : Database). Tests (is_some one) (HoldsBody t dictionary n d × IsNew t numbers d)) same test)
  where
    numbers : List ℕ
    numbers = numbers_under digests (own_digest d)

    row : filter (has_number n) (deposit_table db.trees) ≡ given_deposit n d ∷ []
    row = one_permutation (given_deposit n d) _ (subst (λ all. IsPermutation all (filter (has_number n) (deposit_table db.trees))) read found)

    -- an equal deposit of a smaller number has the digest
    first : IsNew db numbers d → IsFirst db n d
    first none m low high e its = false_if (is_repeat d.firm d.project d.bytes e) (λ yes.
        (let same_own : own_digest e ≡ own_digest d = same_digest d.firm d.project d.bytes e yes in
        let among : is_among m numbers ≡ true = ap (is_among m) (ap (numbers_under digests) (sym same_own)) ∙ held m low high e its in
        none m among e its))

    there : HoldsBody db dictionary n d × IsNew db numbers d → IsWhole db dictionary n
    there both = record { deposit = d; row = row; named = named; body = both.0; alone = first both.1 }

    back : IsWhole db dictionary n → HoldsBody db dictionary n d × IsNew db numbers d
    back w =
        let one : w.deposit ≡ d = same_deposit n w.deposit d _ w.row row in
        let alone = subst (IsFirst db n) one w.alone in
        (subst (HoldsBody db dictionary n) one w.body, λ m among e its. (let it = below (own_digest d) m among in alone m it.0 it.1 e its))

-- the row that is shown of a whole deposit is its row
pub only_shown : (db : Database) (dictionary : Entries) (n : ℕ) (rows : List Row) → IsPermutation rows (filter (has_number n) (deposit_table db.trees)) → (w : IsWhole db dictionary n) → rows ≡ given_deposit n w.deposit ∷ []
only_shown db dictionary n rows found w = one_permutation (given_deposit n w.deposit) rows (IsPermutation-sym _ _ (subst (λ all. IsPermutation rows all) w.row found))

-- so what is known and the digest are those of the deposit
pub head_shown : (r : Result (Option DigestedHead) TableError) (db : Database) (dictionary : Entries) (n : ℕ) (kept : Sent) (rows : List Row) → IsPermutation rows (filter (has_number n) (deposit_table db.trees)) → rows ≡ given_deposit n kept ∷ []
    → IfOk r (λ found. IfSome found (IsDigestedFrom dictionary kept)) → IfOk r (λ found. IfSome found (IsDigestedAt db dictionary n))
head_shown (Err e) db dictionary n kept rows found read its = tt
head_shown (Ok None) db dictionary n kept rows found read its = tt
head_shown (Ok (Some one)) db dictionary n kept rows found read its = λ d row.
    (let alone : rows ≡ given_deposit n d ∷ [] = one_permutation (given_deposit n d) rows (IsPermutation-sym _ _ (subst (λ all. IsPermutation rows all) row found)) in
    let same : kept ≡ d = same_deposit n kept d rows read alone in
    subst (λ (x : Sent). IsDigestedFrom dictionary x one) same its)

-- what is found under the digest shows whether a deposit is new
new_tests : (db : Database) (numbers : List ℕ) (d : Sent) → HasNoEqual db numbers d.firm d.project d.bytes → Tests true (IsNew db numbers d)
new_tests db numbers d none = record { yes = λ e. ∣ none ∣₁; no = λ e. absurd cc }

old_tests : (db : Database) (numbers : List ℕ) (d : Sent) (n : ℕ) → HasEqual db d.firm d.project d.bytes n → is_among n numbers ≡ true → Tests false (IsNew db numbers d)
old_tests db numbers d n has among = record { yes = λ e. absurd cc; no = λ e none. absurd (let clash : true ≡ false = sym has.2 ∙ none n among has.0 has.1 in cc) }

-- whether an equal deposit was found among those of these numbers
pub repeat_tests : (db : Database) (numbers : List ℕ) (d : Sent) (content : List ℕ) (found : Option ℕ) (is : Bool) → content ≡ d.bytes → is_some found ≡ not is
    → IfSome found (HasEqual db d.firm d.project content) → IfSome found (λ n. is_among n numbers ≡ true) → (found ≡ None → HasNoEqual db numbers d.firm d.project content) → Tests is (IsNew db numbers d)
repeat_tests db numbers d content (Some n) false same e has among none = old_tests db numbers d n (subst (λ b. HasEqual db d.firm d.project b n) same has) among
repeat_tests db numbers d content (Some n) true same e has among none = absurd cc
repeat_tests db numbers d content None true same e has among none = new_tests db numbers d (subst (λ b. HasNoEqual db numbers d.firm d.project b) same (none refl))
repeat_tests db numbers d content None false same e has among none = absurd cc

pub tests_true : {is : Bool} {P : Type 0} → is ≡ true → Tests is P → Tests true P
tests_true {is} {P} e test = subst (λ (b : Bool). Tests b P) e test

pub tests_false : {is : Bool} {P : Type 0} → is ≡ false → Tests is P → Tests false P
tests_false {is} {P} e test = subst (λ (b : Bool). Tests b P) e test

pub tests_some : {X : Type 0} {found : Option X} {x : X} {P : Type 0} → found ≡ Some x → Tests (is_some found) P → Tests true P
tests_some {X} {found} {x} {P} e test = subst (λ (o : Option X). Tests (is_some o) P) e test

pub tests_empty : {X : Type 0} {found : Option X} {P : Type 0} → ((x : X) → found ≡ Some x → ⊥) → Tests (is_some found) P → Tests false P
tests_empty {found = None} none test = test
tests_empty {found = Some x} none test = absurd (none x refl)

pub tests_none : (P : Type 0) → (P → ⊥) → Tests false P
tests_none P none = record { yes = λ e. absurd cc; no = λ e. none }

pub tests_all : (P : ℕ → Type 0) (count : ℕ) → ((k : ℕ) → k < count → ∥ P k ∥₁) → Tests true ((k : ℕ) → k < count → P k)
tests_all P count each = record { yes = λ e. of_all P count each; no = λ e. absurd cc }

-- the first deposits are whole, and so is the next
pub whole_more : (old mid : Database) (dictionary : Entries) (at : ℕ) → mid ≡ old → Tests true (IsWhole mid dictionary (at + 1)) → ((k : ℕ) → k < at → ∥ IsWhole old dictionary (k + 1) ∥₁)
    → (k : ℕ) → k < at + 1 → ∥ IsWhole old dictionary (k + 1) ∥₁
whole_more old mid dictionary at same test all k low = elim (cases_lt k at) [
  | inl below ↦ all k (omega arith)
  | inr up ↦ (let e : at ≡ k = omega (arith, low) in subst (λ (j : ℕ). ∥ IsWhole old dictionary (j + 1) ∥₁) e (subst (λ (db : Database). ∥ IsWhole db dictionary (at + 1) ∥₁) same (test.yes refl)))
]

-- one deposit is not whole
pub whole_not : (old mid : Database) (dictionary : Entries) (at count : ℕ) → mid ≡ old → at < count → Tests false (IsWhole mid dictionary (at + 1)) → Tests false (AreWhole old dictionary count)
whole_not old mid dictionary at count same low test = record { yes = λ e. absurd cc; no = λ e all. test.no refl (subst (λ (db : Database). IsWhole db dictionary (at + 1)) (sym same) (all at low)) }

-- a file with a finding is no file of the register
pub no_file : (dictionary : Entries) (d : Sent) (found : List Finding) → Findings dictionary d.bytes found → found ≢ [] → (file : CheckedFile) → IsFileOf dictionary d file → ⊥
no_file dictionary d found stands some file its =
    let none : Findings dictionary d.bytes [] = subst₂ (λ (g : Entries) (b : List ℕ). Findings g b []) its.given its.bytes its.clean.file.findings in
    absurd (some (one_list dictionary d.bytes found [] stands none))

-- a file that is longer than it may be, or that has a finding, is held of no deposit
pub no_body : (db : Database) (dictionary : Entries) (n : ℕ) (d : Sent) → ((file : CheckedFile) → IsFileOf dictionary d file → ⊥) → Tests false (HoldsBody db dictionary n d)
no_body db dictionary n d none = record { yes = λ e. absurd cc; no = λ e held. none held.file held.its }

-- ---- meta

-- no bytes are a dictionary and have a finding, or lack DICT or a heading of it
pub not_dictionary : (text : List ℕ) (found : List Finding) → LooseFindings text found → found ≢ [] → (dictionary : Entries) → IsDictionary text dictionary → ⊥
not_dictionary text found stands some dictionary reads =
    let g = reads.1.1 in
    let none : LooseFindings text [] = (g.0, g.1, g.2) in
    absurd (some (one_loose_list text found [] stands none))

same_contents : (text : List ℕ) (a b : List Contents) → HasContents text a → HasContents text b → a ≡ b
same_contents text a b x y = x.2 ∙ ap contents_of (one_loose_grouping text x.0 y.0 x.1 y.1) ∙ sym y.2

pub has_dict_then : (text : List ℕ) → LacksDict text → (dictionary : Entries) → IsDictionary text dictionary → ⊥
has_dict_then text lacks dictionary reads = let clash : true ≡ false = sym reads.2 ∙ ap has_dict (same_contents text reads.0 lacks.0 reads.1 lacks.1) ∙ lacks.2 in absurd cc

pub has_headings_then : (text : List ℕ) → LacksHeading text → (dictionary : Entries) → IsDictionary text dictionary → ⊥
has_headings_then text lacks dictionary reads = let clash : true ≡ false = sym lacks.3 ∙ ap lacks_heading (same_contents text lacks.0 reads.0 lacks.1 reads.1) ∙ reads.3 in absurd cc

pub one_dictionary : (text : List ℕ) (a b : Entries) → IsDictionary text a → IsDictionary text b → a ≡ b
one_dictionary text a b x y = x.4 ∙ ap entries_of_file (same_contents text x.0 y.0 x.1 y.1) ∙ sym y.4

-- the bytes in the rows of meta
abbrev text_of : List Row → List ℕ
text_of rows = bytes (column (get_or rows 0 []) 2)

one_text : (number : ℕ) (rows : List Row) (text other : List ℕ) → rows ≡ meta_columns number text → rows ≡ meta_columns number other → other ≡ text
one_text number rows text other a b = ap text_of (sym b ∙ a)

pub meta_reads : (number : ℕ) (r : Result Entries AdoptError) (rows : List Row) (text : List ℕ) → rows ≡ meta_columns number text → ((n : ℤ) (row : Row) → Contains rows row → IsFormatRow n row → n ≡ pos number)
    → IfOk r (λ dictionary. (length text ≤ READABLE) × IsDictionary text dictionary) → (r ≡ Err NotRegister → (dictionary : Entries) → length text ≤ READABLE → IsDictionary text dictionary → ⊥)
    → IfErr r (λ e. (e ≡ NotRegister) ⊎ (e ≡ NoMemory)) → ReadsMeta number rows r
meta_reads number (Ok dictionary) rows text same formats read refused named = (text, same, read.0, read.1)
meta_reads number (Err NotRegister) rows text same formats read refused named = (
  λ n has. formats n has.0 has.1 has.2,
  λ dictionary reads.
      (let one = one_text number rows text reads.0 same reads.1 in
      refused refl dictionary (subst (λ (t : List ℕ). length t ≤ READABLE) one reads.2) (subst (λ (t : List ℕ). IsDictionary t dictionary) one reads.3)),
)
meta_reads number (Err NoMemory) rows text same formats read refused named = tt
meta_reads number (Err x) rows text same formats read refused (inl e) = absurd cc
meta_reads number (Err x) rows text same formats read refused (inr e) = absurd cc

pub meta_of : (number : ℕ) (r : Result Entries AdoptError) (db : Database) (rows : List Row) → HasTables db.schema → IsPermutation rows (map columns_3 (db.trees 0)) → AreMetaByName db rows
    → ReadsMeta number rows r → MetaOf number db r
meta_of number (Ok dictionary) db rows schema all found reads = record { text = reads.0; short = reads.2; reads = reads.3; meta = subst (λ rs. IsPermutation rs (map columns_3 (db.trees 0))) reads.1 all }
meta_of number (Err (Version n)) db rows schema all found reads = (reads.0, (tables_first db.schema schema, (reads.1.0, Contains-permutation _ _ _ all reads.1.1, reads.1.2)))
meta_of number (Err NotRegister) db rows schema all found reads =
    (λ n has. reads.0 n (has.1.0, Contains-permutation _ _ _ (IsPermutation-sym _ _ all) has.1.1, has.1.2), λ dictionary meta. reads.1 dictionary (meta.text, found number meta.text meta.meta, meta.short, meta.reads))
meta_of number (Err e) db rows schema all found reads = tt

pub register_meta : (format : Format) (db : Database) (dictionary : Entries) (list : List Sent) → HoldsSent format db dictionary list → HasMeta (format_number format) db dictionary
register_meta format db dictionary list r = record { text = r.text; short = r.short; reads = r.reads; meta = r.meta }

-- ---- a register is found

pub finds_whole : (format : Format) (db : Database) (dictionary : Entries) (count : ℕ) → db.schema ≡ schema_of format → IsDatabase db → HasMeta (format_number format) db dictionary → Counts db (Some count) → ∥ AreWhole db dictionary count ∥₁
    → CountsDeposits format db dictionary (Some count)
finds_whole format db dictionary count schema sound meta counts all = ∥∥₁_map all (λ whole. adopts_whole format db dictionary count schema sound meta counts whole)

pub finds_none : (format : Format) (db : Database) (dictionary : Entries) (count : ℕ) → Counts db (Some count) → (AreWhole db dictionary count → ⊥) → CountsDeposits format db dictionary None
finds_none format db dictionary count counts none list r =
    let ids = IsPermutation-map first_column _ _ r.deposits in
    let rows = length_permutation _ _ counts.1 ∙ numbers_long 1 count in
    let listed = length_permutation _ _ ids ∙ length-map (deposit_rows 1 list) first_column ∙ rows-length 1 list in
    let same : length list ≡ count = sym listed ∙ rows in
    none (subst (AreWhole db dictionary) same (whole_at {format = format} db dictionary list r))

pub meta_examines : (format : Format) (r : Result Entries AdoptError) (db : Database) (e : AdoptError) → r ≡ Err e → MetaOf (format_number format) db r → Examines format db (Err e)
meta_examines format (Ok dictionary) db e same meta = absurd cc
meta_examines format (Err x) db e same meta = go e (subst (λ (y : AdoptError). MetaOf (format_number format) db (Err y)) is meta)
  where
    is : x ≡ e
    is = cc

    go : (y : AdoptError) → MetaOf (format_number format) db (Err y) → Examines format db (Err y)
    go (Version n) m = m
    go NotRegister m = (m.0, λ dictionary list r. m.1 dictionary (register_meta format db dictionary list r))
    go y m = tt

-- a row of meta is one of the two
two_rows : (number : ℕ) (text : List ℕ) (row : Row) → Contains (meta_columns number text) row → (row ≡ dictionary_row text) ⊎ (row ≡ format_row number)
two_rows number text row (zero, low, is) = inl (sym is)
two_rows number text row (suc zero, low, is) = inr (sym is)
two_rows number text row (suc (suc k), low, is) = absurd (omega (arith, low))

one_number : (number : ℕ) (text : List ℕ) (n : ℤ) (row : Row) → (row ≡ dictionary_row text) ⊎ (row ≡ format_row number) → IsFormatRow n row → n ≡ pos number
one_number number text n row (inl e) is = absurd (let names : codes "format" ≡ codes "dictionary" = ap (λ (r : Row). bytes (column r 0)) (sym is.1 ∙ e) in cc)
one_number number text n row (inr e) is = ap (λ (r : Row). integer_in (column r 1)) (sym is.1 ∙ e)

pub one_format_in : (number : ℕ) (db : Database) (dictionary : Entries) → HasMeta number db dictionary → HasNoOtherFormat number db
one_format_in number db dictionary meta n has = one_number number meta.text n has.1.0 (two_rows number meta.text has.1.0 (Contains-permutation _ _ _ (IsPermutation-sym _ _ meta.meta) has.1.1)) has.1.2

its_text : (number : ℕ) (text other : List ℕ) → (dictionary_row text ≡ dictionary_row other) ⊎ (dictionary_row text ≡ format_row number) → text ≡ other
its_text number text other (inl e) = ap (λ (r : Row). bytes (column r 2)) e
its_text number text other (inr e) = absurd (let names : codes "dictionary" ≡ codes "format" = ap (λ (r : Row). bytes (column r 0)) e in cc)

pub one_meta : (number : ℕ) (db : Database) (a b : Entries) → HasMeta number db a → HasMeta number db b → a ≡ b
one_meta number db a b x y =
    let there = Contains-permutation _ _ _ (IsPermutation-sym _ _ y.meta) (Contains-permutation _ _ _ x.meta (first_row number x.text)) in
    let text : x.text ≡ y.text = its_text number x.text y.text (two_rows number y.text _ there) in
    one_dictionary y.text a b (subst (λ (t : List ℕ). IsDictionary t a) text x.reads) y.reads

pub none_examines : (format : Format) (db : Database) (dictionary : Entries) → HasMeta (format_number format) db dictionary → CountsDeposits format db dictionary None → Examines format db (Err NotRegister)
none_examines format db dictionary meta none = (
  one_format_in (format_number format) db dictionary meta,
  λ other list r. none list (subst (λ (d : Entries). HoldsSent format db d list) (one_meta (format_number format) db other dictionary (register_meta format db other list r) meta) r),
)

-- ---- what was sent, and the marks

-- where no such thing was sent, the tables are no register
pub refused_sent : (format : Format) (db : Database) (e : AdoptError) → Examines format db (Err e) → Adopts format db (Err e)
refused_sent format db (Version n) h = h
refused_sent format db NotRegister h = (h.0, λ dictionary list r. h.1 dictionary (sents list) r.holds)
refused_sent format db e h = tt
