-- A register in memory: what is known of a kept deposit and of its file.
use Rattle.std.proofs.Common.{◌≡◌, ◌≢◌, ℕ, zero, suc, ◌+◌, ◌-◌, ◌<◌, ◌≤◌, Bool, true, false, List, [], ◌∷◌, ◌++◌, length, map, drop, All, Some, Ok, Err, Result, get_or, if◌then◌else◌, refl, sym, ap, subst, ◌∙◌, append_assoc, arith}
use Rattle.std.specs.Prelude.{IfOk, option_map, slice_get, slice_set}
use Rattle.std.specs.Str.{bytes_eq}
use Rattle.std.proofs.Math.Logic.{∥∥₁_map, ∥∥₁_elim}
use Rattle.std.proofs.Math.ListN.{get_or-map}
use Rattle.std.proofs.Props.{props}
use Rattle.std.proofs.lemmas.List.{drop_more, length-map, map-append}
use Rattle.std.proofs.lemmas.List.Elements.{All-append}
use Rattle.std.proofs.lemmas.Option.{get_or_from_slice_get, slice_get-map, slice_get_read}
use Rattle.ags_rows.specs.declared.TheConstants.{LIMIT, READABLE}
use Rattle.ags_rows.specs.declared.finding.Finding.{Finding}
use Rattle.ags_dict.specs.Entries.{Entries}
use Rattle.ags_check.specs.Findings.{CheckedFile, Findings, IsClean}
use Rattle.ags_check.proofs.Lemmas.{one_list, one_clean_file}
use Rattle.reg_store.specs.declared.keep.Kept.{Kept}
use Rattle.reg_store.specs.Keep.{OfDeposit, deposit_of, sent_of}
use Rattle.reg_store.specs.Sent.{Sent, numbers_from}
use Rattle.reg_store.specs.Deposit.{Deposit, sents, as_withdrawn, with_withdrawn}
use Rattle.reg_store.proofs.DepositLemmas.{sents_with_withdrawn}
use Rattle.reg_store.specs.Fit.{IsFit, IsFileOf}
use Rattle.reg_store.specs.PlainLaws.{fit_of}
use Rattle.reg_store.specs.Reading.{OfFile}

-- ---- a fit deposit

-- the deposit of a checked file is fit
pub checked_fit : (dictionary : Entries) (file : CheckedFile) (d : Sent) → file.given ≡ dictionary → d.bytes ≡ file.bytes → IsClean file → length file.bytes ≤ LIMIT → IsFit dictionary d
checked_fit dictionary file d given bytes clean short =
    ∣ (file, record { given = given; bytes = sym bytes; clean = clean; short = subst (λ (b : List ℕ). length b ≤ LIMIT) (sym bytes) short }) ∣₁

pub fit_is_short : (dictionary : Entries) (d : Sent) → IsFit dictionary d → length d.bytes ≤ LIMIT
fit_is_short dictionary d fit = ∥∥₁_elim fit (Prim.hlevel props) (λ (one : (file : CheckedFile) × IsFileOf dictionary d file). one.1.short)

pub fit_is_readable : (dictionary : Entries) (d : Sent) → IsFit dictionary d → length d.bytes ≤ READABLE
fit_is_readable dictionary d fit = let short = fit_is_short dictionary d fit in omega (arith, short)

-- no findings are listed for it
pub fit_is_clean : (dictionary : Entries) (d : Sent) (found : List Finding) → IsFit dictionary d → Findings dictionary d.bytes found → found ≢ [] → ⊥
fit_is_clean dictionary d found fit h some = ∥∥₁_elim fit (Prim.hlevel props) none
  where
    none : (file : CheckedFile) × IsFileOf dictionary d file → ⊥
    none (file, its) =
        let there : Findings dictionary file.bytes [] = subst (λ (given : Entries). Findings given file.bytes []) its.given its.clean.file.findings in
        some (one_list dictionary d.bytes found [] h (subst (λ (bytes : List ℕ). Findings dictionary bytes []) its.bytes there))

-- ---- the list of deposits

one_fit : (dictionary : Entries) (d : Sent) → IsFit dictionary d → All (IsFit dictionary) (d ∷ [])
one_fit dictionary d h = λ k x low. let first : k ≡ 0 = omega arith in rw first h

-- what was sent, straight from what is kept
kept_sents : (kept : List Kept) → sents (map deposit_of kept) ≡ map sent_of kept
kept_sents [] = refl
kept_sents (one ∷ more) = ap (λ (rest : List Sent). sent_of one ∷ rest) (kept_sents more)

-- one deposit more
pub fit_push : (dictionary : Entries) (old : List Kept) (kept : Kept) (ok : Bool) → IsFit dictionary (sent_of kept) → ∥ All (IsFit dictionary) (sents (map deposit_of old)) ∥₁
    → ∥ All (IsFit dictionary) (sents (map deposit_of (if ok then old ++ kept ∷ [] else old))) ∥₁
fit_push dictionary old kept false one all = all
fit_push dictionary old kept true one all =
    let list : map sent_of old ++ sent_of kept ∷ [] ≡ sents (map deposit_of (old ++ kept ∷ [])) = sym (kept_sents (old ++ kept ∷ []) ∙ map-append sent_of old (kept ∷ [])) in
    ∥∥₁_map all (λ (h : All (IsFit dictionary) (sents (map deposit_of old))). subst (All (IsFit dictionary)) list
    (All-append (IsFit dictionary) (map sent_of old) (sent_of kept ∷ []) (subst (All (IsFit dictionary)) (kept_sents old) h) (one_fit dictionary (sent_of kept) one)))

-- the deposit at a place
pub kept_is_fit : (dictionary : Entries) (kept : List Kept) (n : ℕ) (one : Kept) → ∥ All (IsFit dictionary) (sents (map deposit_of kept)) ∥₁ → (0 < n) × (n ≤ length (map deposit_of kept)) → one ≡ get_or kept (n - 1) one → IsFit dictionary (sent_of one)
kept_is_fit dictionary kept n one all number is =
    subst (IsFit dictionary) (get_or-map sent_of kept (n - 1) one ∙ ap sent_of (sym is))
    (fit_of dictionary (map sent_of kept) (subst (λ (list : List Sent). ∥ All (IsFit dictionary) list ∥₁) (kept_sents kept) all) (n - 1) (sent_of one) (omega (arith, number.0, number.1, length-map kept deposit_of, length-map kept sent_of)))

-- what is seen of it there
pub kept_is : {X : Type 0} (view : Kept → X) (kept : List Kept) (k : ℕ) (one : Kept) (d : X) → one ≡ get_or kept k one → slice_get (map view kept) k ≡ Some d → d ≡ view one
kept_is view kept k one d is there = sym (get_or_from_slice_get (map view kept) k d (view one) there) ∙ get_or-map view kept k one ∙ ap view (sym is)

-- what holds of the file of what is kept there holds of the file of deposit n
pub of_kept : (dictionary : Entries) (kept : List Kept) (n : ℕ) (one : Kept) (Holds : CheckedFile → Type 0) → one ≡ get_or kept (n - 1) one → OfFile dictionary (sent_of one) Holds → OfDeposit dictionary (sents (map deposit_of kept)) n Holds
of_kept dictionary kept n one Holds is holds = λ d file there its.
    let same : d ≡ sent_of one = kept_is sent_of kept (n - 1) one d is (ap (λ (list : List Sent). slice_get list (n - 1)) (sym (kept_sents kept)) ∙ there) in
    holds file (subst (λ (sent : Sent). IsFileOf dictionary sent file) same its)

-- the list has the deposit at its place
pub kept_at : (kept : List Kept) (k : ℕ) (one : Kept) → k < length kept → one ≡ get_or kept k one → slice_get (map deposit_of kept) k ≡ Some (deposit_of one)
kept_at kept k one low is = slice_get-map deposit_of kept k ∙ ap (option_map deposit_of) (slice_get_read kept (length kept) k one refl low is)

withdrawn_place : (kept : List Kept) (k : ℕ) (one new : Kept) → one ≡ get_or kept k one → deposit_of new ≡ as_withdrawn (deposit_of one) → map deposit_of (slice_set kept k new) ≡ with_withdrawn (suc k) (map deposit_of kept)
withdrawn_place [] k one new is said = refl
withdrawn_place (x ∷ kept) zero one new is said = ap (λ (d : Deposit). d ∷ map deposit_of kept) (said ∙ ap (λ (y : Kept). as_withdrawn (deposit_of y)) is)
withdrawn_place (x ∷ kept) (suc k) one new is said = ap (λ (rest : List Deposit). deposit_of x ∷ rest) (withdrawn_place kept k one new is said)

-- one of them is withdrawn
pub kept_withdrawn : (kept : List Kept) (n : ℕ) (one new : Kept) → 0 < n → one ≡ get_or kept (n - 1) one → deposit_of new ≡ as_withdrawn (deposit_of one) → map deposit_of (slice_set kept (n - 1) new) ≡ with_withdrawn n (map deposit_of kept)
kept_withdrawn kept n one new low is said =
    let number : suc (n - 1) ≡ n = omega (arith, low) in
    withdrawn_place kept (n - 1) one new is said ∙ ap (λ (m : ℕ). with_withdrawn m (map deposit_of kept)) number

-- a withdrawal leaves them fit
pub withdrawn_fit : (dictionary : Entries) (old new : List Kept) (n : ℕ) → map deposit_of new ≡ with_withdrawn n (map deposit_of old) → ∥ All (IsFit dictionary) (sents (map deposit_of old)) ∥₁ → ∥ All (IsFit dictionary) (sents (map deposit_of new)) ∥₁
withdrawn_fit dictionary old new n is all =
    subst (λ (list : List Sent). ∥ All (IsFit dictionary) list ∥₁) (sym (ap sents is ∙ sents_with_withdrawn n (map deposit_of old))) all

-- ---- the numbers of a project's deposits

-- a number is put to those so far, or is left out
joined : (same : Bool) (n : ℕ) (old new rest all : List ℕ) → new ≡ (if same then old ++ n ∷ [] else old) → old ++ (if same then n ∷ rest else rest) ≡ all → new ++ rest ≡ all
joined true n old new rest all is before = rw is (append_assoc old (n ∷ []) rest ∙ before)
joined false n old new rest all is before = rw is before

-- one deposit more is looked at
pub numbers_more : (project : List ℕ) (kept : List Kept) (i n : ℕ) (one : Kept) (old new all : List ℕ) → i < length kept → one ≡ get_or kept i one → new ≡ (if bytes_eq one.project project then old ++ n ∷ [] else old)
    → old ++ numbers_from n project (sents (map deposit_of (drop i kept))) ≡ all → new ++ numbers_from (n + 1) project (sents (map deposit_of (drop (i + 1) kept))) ≡ all
numbers_more project kept i n one old new all low is told before =
    let here : drop i kept ≡ one ∷ drop (i + 1) kept = drop_more kept i one low ∙ ap (λ (x : Kept). x ∷ drop (i + 1) kept) (sym is) in
    joined (bytes_eq one.project project) n old new (numbers_from (n + 1) project (sents (map deposit_of (drop (i + 1) kept)))) all told (subst (λ (l : List Kept). old ++ numbers_from n project (sents (map deposit_of l)) ≡ all) here before)

-- ---- its file

-- a deposit has one checked file
one_file : (dictionary : Entries) (d : Sent) (a b : CheckedFile) → IsFileOf dictionary d a → IsFileOf dictionary d b → a ≡ b
one_file dictionary d a b x y = one_clean_file a b x.clean y.clean (x.given ∙ sym y.given) (x.bytes ∙ sym y.bytes)

-- what holds of the file that was checked holds of the deposit's file
pub of_checked : {X E : Type 0} (dictionary : Entries) (d : Sent) (checked : CheckedFile) (Holds : X → CheckedFile → Type 0) (r : Result X E) → IsFileOf dictionary d checked
    → IfOk r (λ x. Holds x checked) → IfOk r (λ x. OfFile dictionary d (Holds x))
of_checked dictionary d checked Holds (Ok x) its holds = λ file other. subst (Holds x) (one_file dictionary d checked file its other) holds
of_checked dictionary d checked Holds (Err e) its holds = tt
