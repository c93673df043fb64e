-- What is known of the deposits, as it is looked up, noted and grows with the list.
use Rattle.std.proofs.Common.{zero, suc, ◌≡◌, ℕ, ◌+◌, ◌-◌, ◌<◌, ◌≤◌, Bool, true, false, List, [], ◌∷◌, ◌++◌, get_or, length, map, take, if◌then◌else◌, Some, slice_get, refl, sym, ap, subst, subst₂, ◌∙◌, arith}
use Rattle.std.proofs.Math.ListN.{set}
use Rattle.std.proofs.lemmas.List.{length_push}
use Rattle.std.proofs.lemmas.Option.{slice_get_read}
use Rattle.std.proofs.lemmas.Slice.Zip.{AllZip-long}
use Rattle.std.specs.List.{AllZip}
use Rattle.std.specs.Str.{bytes_eq}
use Rattle.sqlite.specs.Effect.{Database}
use Rattle.sqlite.specs.State.{State, HasCleanDisk}
use Rattle.ags_dict.specs.Entries.{Entries}
use Rattle.reg_store.specs.declared.keep.KeptHead.{KeptHead}
use Rattle.reg_store.specs.Sent.{Sent, numbers_from}
use Rattle.reg_store.specs.Deposit.{Deposit, with_withdrawn, sents, new_deposit}
use Rattle.reg_store.proofs.Lemmas.{sents_with_withdrawn}
use Rattle.reg_tables.specs.declared.memory.Coming.{Coming}
use Rattle.reg_tables.specs.declared.memory.Known.{Known}
use Rattle.reg_tables.specs.declared.memory.Memory.{Memory}
use Rattle.reg_tables.specs.declared.memory.digests.Digests.{Digests}
use Rattle.reg_tables.specs.Private.Digests.{AddsNumber, AreBelow, AreDigested, PutsNumbers, numbers_under, own_digest}
use Rattle.reg_tables.specs.Private.Heads.{AreNew, IsNewOf, KnowsFile}
use Rattle.sqlite_catalog.proofs.ListFacts.{zip_push}
use Rattle.reg_tables.proofs.MethodsLaws.{zip_at}
use Rattle.reg_tables.specs.Private.Memory.{Agrees, AreKnown, IsComing, IsKnown, with_mark}
use Rattle.reg_tables.proofs.Known.{bare_of, marked_as, with_marks}
use Rattle.reg_tables.specs.Quiet.{IsStill}
use Rattle.reg_tables.proofs.QuietLaws.{clean_before}
use Rattle.reg_tables.specs.Register.{deposits_in, marks_of}
use Rattle.reg_tables.proofs.MarksLaws.{deposit_there, length_marked, marked_none, sents_push}
use Rattle.reg_tables.specs.Private.Marks.{long_sents}
use Rattle.reg_tables.proofs.RepeatsLemmas.{below_more, below_same, digested_push, digested_same}

-- ---- what is known of each deposit

known_at : (dictionary : Entries) (list : List Deposit) (known : List Known) (k : ℕ) (one : Known) (d : Deposit) → AllZip (IsKnown dictionary) list known → slice_get known k ≡ Some one → slice_get list k ≡ Some d → IsKnown dictionary d one
known_at dictionary list known k one d all here there =
    let it = zip_at (IsKnown dictionary) list known k d all there in
    let same : it.0 ≡ one = cc (it.1, here) in
    subst (IsKnown dictionary d) same it.2

zipped : (dictionary : Entries) (list : List Deposit) (known : List Known) → AreKnown dictionary list known → AllZip (IsKnown dictionary) list known
zipped dictionary [] [] are = tt
zipped dictionary (d ∷ list) (one ∷ known) are =
    (are.each 0 d one refl refl, zipped dictionary list known (record { long = omega (arith, are.long); each = λ k e other there here. are.each (suc k) e other there here }))
zipped dictionary list known are = absurd (omega (arith, are.long))

unzipped : (dictionary : Entries) (list : List Deposit) (known : List Known) → AllZip (IsKnown dictionary) list known → AreKnown dictionary list known
unzipped dictionary list known all = record { long = AllZip-long (IsKnown dictionary) list known all; each = λ k d one there here. known_at dictionary list known k one d all here there }

pub known_here : (dictionary : Entries) (list : List Deposit) (known : List Known) (k : ℕ) (one : Known) (d : Deposit) → AreKnown dictionary list known → k < length known → one ≡ get_or known k one → slice_get list k ≡ Some d → IsKnown dictionary d one
known_here dictionary list known k one d are low is there = are.each k d one there (slice_get_read known (length known) k one refl low is)

-- so is what is known at the place of what was sent
pub known_sent : (dictionary : Entries) (list : List Deposit) (known : List Known) (k : ℕ) (one : Known) (sent : Sent) → AreKnown dictionary list known → k < length known → one ≡ get_or known k one → slice_get (sents list) k ≡ Some sent
    → (d : Deposit) × (d.sent ≡ sent) × IsKnown dictionary d one
known_sent dictionary list known k one sent are low is there =
    let d = deposit_there list k sent there in (d.0, d.2, known_here dictionary list known k one d.0 are low is d.1)

marked_is_known : (dictionary : Entries) (d : Deposit) (one : Known) → IsNewOf dictionary d.sent one → IsKnown dictionary d (marked_as one d.withdrawn)
marked_is_known dictionary d one new = record { head = ap (λ (h : KeptHead). with_mark h d.withdrawn) new.head; file = new.file }

-- what is found of deposits agrees with them once it has their marks
new_zip : (dictionary : Entries) (list : List Sent) (known : List Known) → length known ≡ length list → AreNew dictionary known list → AllZip (IsNewOf dictionary) list known
new_zip dictionary [] [] long are = tt
new_zip dictionary (d ∷ list) (one ∷ known) long are = (are 0 d one refl refl, new_zip dictionary list known (omega (arith, long)) (λ k e other there here. are (suc k) e other there here))
new_zip dictionary list known long are = absurd (omega (arith, long))

marked_zip : (dictionary : Entries) (list : List Deposit) (known : List Known) → AllZip (IsNewOf dictionary) (sents list) known → AllZip (IsKnown dictionary) list (with_marks (marks_of list) known)
marked_zip dictionary [] [] all = tt
marked_zip dictionary (d ∷ list) (one ∷ known) all = (marked_is_known dictionary d one all.0, marked_zip dictionary list known all.1)
marked_zip dictionary list known all = absurd all

pub known_marked : (dictionary : Entries) (list : List Deposit) (known : List Known) → length known ≡ length list → AreNew dictionary known (sents list) → AreKnown dictionary list (with_marks (marks_of list) known)
known_marked dictionary list known long are =
    unzipped dictionary list _ (marked_zip dictionary list known (new_zip dictionary (sents list) known (long ∙ sym (long_sents list)) are))

pub marks_long : (marks : List Bool) (known : List Known) → length (with_marks marks known) ≡ length known
marks_long [] known = refl
marks_long (m ∷ marks) [] = refl
marks_long (m ∷ marks) (one ∷ known) = ap suc (marks_long marks known)

-- one mark more
pub marks_more : (marks : List Bool) (known : List Known) (k : ℕ) (mark : Bool) (one : Known) → slice_get marks k ≡ Some mark → slice_get (with_marks (take k marks) known) k ≡ Some one
    → set (with_marks (take k marks) known) k (marked_as one mark) ≡ with_marks (take (suc k) marks) known
marks_more [] known k mark one at here = absurd cc
marks_more (m ∷ marks) [] zero mark one at here = absurd cc
marks_more (m ∷ marks) [] (suc k) mark one at here = absurd cc
marks_more (m ∷ marks) (x ∷ known) zero mark one at here =
    let p : m ≡ mark = cc in
    let q : x ≡ one = cc in
    rw (p, q) refl
marks_more (m ∷ marks) (x ∷ known) (suc k) mark one at here = ap (λ all. marked_as x m ∷ all) (marks_more marks known k mark one at here)

-- the heads give the numbers of a project
numbers_zipped : (n : ℕ) (project : List ℕ) (dictionary : Entries) (list : List Deposit) (known : List Known) → AllZip (IsKnown dictionary) list known → numbers_from n project (map bare_of known) ≡ numbers_from n project (sents list)
numbers_zipped n project dictionary [] [] all = refl
numbers_zipped n project dictionary [] (x ∷ known) all = absurd all
numbers_zipped n project dictionary (d ∷ list) [] all = absurd all
numbers_zipped n project dictionary (d ∷ list) (x ∷ known) all =
    rw (ap (λ (h : KeptHead). h.project) all.0.head) (go (bytes_eq d.sent.project project) (numbers_zipped (n + 1) project dictionary list known all.1))
  where
    go : (b : Bool) → numbers_from (n + 1) project (map bare_of known) ≡ numbers_from (n + 1) project (sents list)
        → (if b then n ∷ numbers_from (n + 1) project (map bare_of known) else numbers_from (n + 1) project (map bare_of known))
        ≡ (if b then n ∷ numbers_from (n + 1) project (sents list) else numbers_from (n + 1) project (sents list))
    go true h = ap (λ all. n ∷ all) h
    go false h = h

pub numbers_held : (n : ℕ) (project : List ℕ) (dictionary : Entries) (list : List Deposit) (known : List Known) → AreKnown dictionary list known → numbers_from n project (map bare_of known) ≡ numbers_from n project (sents list)
numbers_held n project dictionary list known are = numbers_zipped n project dictionary list known (zipped dictionary list known are)

-- ---- one deposit more

pub agrees_push : (old new : Memory) (coming : Coming) (dictionary : Entries) (list : List Deposit) (d : Sent) → new.known.items ≡ old.known.items ++ coming.known ∷ [] → PutsNumbers old.digests new.digests coming.digest coming.numbers.items
    → IsComing old d coming → KnowsFile dictionary d coming.known.file → Agrees old dictionary list → Agrees new dictionary (list ++ new_deposit d ∷ [])
agrees_push old new coming dictionary list d known puts its read agrees =
    let number : length old.known.items + 1 ≡ length list + 1 = ap (λ n. n + 1) agrees.known.long in
    let numbers = its.numbers ∙ ap (λ n. numbers_under old.digests (own_digest d) ++ n ∷ []) number ∙ ap (λ (x : List ℕ). numbers_under old.digests x ++ (length list + 1) ∷ []) (sym its.digest) in
    let adds : AddsNumber old.digests new.digests coming.digest (length list + 1) = subst (PutsNumbers old.digests new.digests coming.digest) numbers puts in
    let next = list ++ new_deposit d ∷ [] in
    record {
      known = subst (AreKnown dictionary next) (sym known)
          (unzipped dictionary next _ (zip_push (IsKnown dictionary) list old.known.items (new_deposit d) coming.known (zipped dictionary list old.known.items agrees.known) (record { head = its.head; file = read })));
      digests = digested_push old.digests new.digests coming.digest (sents list) (sents next) d (length list + 1) agrees.digests adds its.digest (ap (λ n. n + 1) (sym (long_sents list))) (sents_push list d);
      below = subst (λ n. AreBelow new.digests (n + 1)) (sym (length_push list (new_deposit d))) (below_more old.digests new.digests coming.digest (length list + 1) (omega arith) adds agrees.below);
    }

-- where room is made, what is known stays
pub agrees_same : (memory : Memory) (digests : Digests) (known : List Known) (dictionary : Entries) (list : List Deposit) → known ≡ memory.known.items → ((digest : List ℕ) → numbers_under digests digest ≡ numbers_under memory.digests digest) → Agrees memory dictionary list
    → AreKnown dictionary list known × AreDigested digests (sents list) × AreBelow digests (length list + 1)
agrees_same memory digests known dictionary list is same agrees =
    (subst (AreKnown dictionary list) (sym is) agrees.known, digested_same memory.digests digests (sents list) (sents list) same refl agrees.digests, below_same memory.digests digests (length list + 1) same agrees.below)

-- ---- one mark more

mark_zipped : (dictionary : Entries) (list : List Deposit) (known : List Known) (k : ℕ) (one : Known) → slice_get known k ≡ Some one → AllZip (IsKnown dictionary) list known → AllZip (IsKnown dictionary) (with_withdrawn (suc k) list) (set known k (marked_as one true))
mark_zipped dictionary [] [] k one at all = tt
mark_zipped dictionary (e ∷ list) (x ∷ known) zero one at all =
    let same : x ≡ one = cc in
    let was : IsKnown dictionary e one = subst (IsKnown dictionary e) same all.0 in
    (record { head = ap (λ (h : KeptHead). with_mark h true) was.head; file = was.file }, all.1)
mark_zipped dictionary (e ∷ list) (x ∷ known) (suc k) one at all = (all.0, mark_zipped dictionary list known k one at all.1)
mark_zipped dictionary list known k one at all = absurd all

-- what is known agrees with the list, whose deposit is marked
pub agrees_mark : (old new : Memory) (dictionary : Entries) (list : List Deposit) (n : ℕ) (one : Known) → 0 < n → slice_get old.known.items (n - 1) ≡ Some one → new.known.items ≡ set old.known.items (n - 1) (marked_as one true)
    → new.digests ≡ old.digests → Agrees old dictionary list → Agrees new dictionary (with_withdrawn n list)
agrees_mark old new dictionary list n one low at known digests agrees =
    let e : suc (n - 1) ≡ n = omega (arith, low) in
    let all = mark_zipped dictionary list old.known.items (n - 1) one at (zipped dictionary list old.known.items agrees.known) in
    record {
      known = subst₂ (λ (j : ℕ) (items : List Known). AreKnown dictionary (with_withdrawn j list) items) e (sym known) (unzipped dictionary (with_withdrawn (suc (n - 1)) list) _ all);
      digests = subst₂ AreDigested (sym digests) (sym (sents_with_withdrawn n list)) agrees.digests;
      below = subst₂ (λ (held : Digests) (m : ℕ). AreBelow held (m + 1)) (sym digests) (sym (length_marked n list)) agrees.below;
    }

-- no deposit has the number
pub agrees_unmarked : (memory : Memory) (dictionary : Entries) (list : List Deposit) (n : ℕ) → (0 < n → n ≤ length memory.known.items → ⊥) → Agrees memory dictionary list → Agrees memory dictionary (with_withdrawn n list)
agrees_unmarked memory dictionary list n none agrees = subst (Agrees memory dictionary) (sym (marked_none n list (λ low high. none low (omega (arith, high, agrees.known.long))))) agrees

-- ---- for the calls of the store

-- where the connection is still, what is known stays so
pub agrees_still : (old new : State) {failed : Bool} (memory : Memory) (dictionary : Entries) → (HasCleanDisk old → Agrees memory dictionary (deposits_in old.committed.trees)) → IsStill old new failed → HasCleanDisk new → failed ≡ false
    → Agrees memory dictionary (deposits_in new.committed.trees)
agrees_still old new memory dictionary agrees quiet clean well =
    subst (λ (db : Database). Agrees memory dictionary (deposits_in db.trees)) (sym (quiet.same clean well).1) (agrees (clean_before old new quiet.survives clean))
