-- Numbers under digests, as they grow, and the repeats that are found by them.
use Rattle.std.proofs.Common.{zero, suc, ◌≡◌, ℕ, ◌+◌, ◌-◌, ◌<◌, Bool, true, false, ◌||◌, eqb, cond, List, [], ◌∷◌, ◌++◌, length, take, get_or, Option, Some, None, IfSome, slice_get, Result, Ok, Err, IfOk, refl, sym, ap, subst, ◌∙◌, arith, inl, inr, ◌⊎◌}
use Rattle.std.proofs.Math.Bool.{or-true}
use Rattle.std.proofs.Math.Logic.{∥∥₁_elim}
use Rattle.std.proofs.Props.{props}
use Rattle.std.specs.List.{list_any, position_from}
use Rattle.std.specs.List.Sorted.{IsPermutation}
use Rattle.std.specs.Prelude.{is_some}
use Rattle.std.specs.BTreeMap.{BTreeMap, UpdatesBy, get_by}
use Rattle.std.specs.Cmp.Lexicographic.{slice_cmp}
use Rattle.std.specs.Option.{option_map_or}
use Rattle.std.specs.Ordering.{nat_cmp}
use Rattle.std.specs.declared.alloc.Global.{Global}
use Rattle.std.specs.declared.vec.Vec.{Vec}
use Rattle.std.proofs.lemmas.Option.{slice_get_within}
use Rattle.std.proofs.lemmas.Map.Text.{is_eq-slice_cmp}
use Rattle.std.specs.Str.{bytes_eq}
use Rattle.std.proofs.lemmas.Bool.{cases_lt, eq-eqb, eqb-true}
use Rattle.std.proofs.lemmas.List.{take_more}
use Rattle.std.proofs.lemmas.List.Folds.{list_any-append}
use Rattle.std.proofs.lemmas.Slice.Eq.{bytes_eq-Decides}
use Rattle.sqlite.specs.Effect.{Database}
use Rattle.sqlite.specs.State.{State}
use Rattle.ags_dict.specs.Entries.{Entries}
use Rattle.reg_tables.specs.declared.error.TableError.{TableError}
use Rattle.reg_tables.specs.declared.memory.digests.Digests.{Digests}
use Rattle.reg_store.specs.Apart.{AreApart}
use Rattle.reg_tables.proofs.ApartLaws.{none_at, parts_of}
use Rattle.reg_store.specs.Sent.{Sent, is_repeat, number_of}
use Rattle.reg_store.specs.Deposit.{sents}
use Rattle.reg_tables.specs.Private.Digests.{AddsNumber, AreBelow, AreDigested, HasEqual, HasNoEqual, HoldsDigests, IsRowOf, digest_of, is_among, numbers_under, own_digest}
use Rattle.reg_tables.specs.Private.Marks.{long_sents}
use Rattle.reg_tables.proofs.MethodsLaws.{same_deposit, slice_get_in}
use Rattle.reg_tables.specs.Register.{deposit_rows, deposits_in, KeepsRegister}
use Rattle.reg_tables.specs.Rows.{deposit_table}
use Rattle.reg_tables.proofs.ShowsLaws.{row_of_number}

-- ---- a number more at the end of a list

among_kept : (m n : ℕ) (xs : List ℕ) → is_among m xs ≡ true → is_among m (xs ++ n ∷ []) ≡ true
among_kept m n xs h = list_any-append (eqb m) xs (n ∷ []) ∙ rw h refl

among_last : (n : ℕ) (xs : List ℕ) → is_among n (xs ++ n ∷ []) ≡ true
among_last n xs = list_any-append (eqb n) xs (n ∷ []) ∙ rw (eq-eqb n n refl) (or-true (list_any (eqb n) xs))

pub among_either : (m n : ℕ) (xs : List ℕ) → is_among m (xs ++ n ∷ []) ≡ true → (is_among m xs ≡ true) ⊎ (m ≡ n)
among_either m n xs h = go (list_any (eqb m) xs) (eqb m n) refl refl (sym (list_any-append (eqb m) xs (n ∷ [])) ∙ h)
  where
    go : (a b : Bool) → list_any (eqb m) xs ≡ a → eqb m n ≡ b → (a || (b || false)) ≡ true → (is_among m xs ≡ true) ⊎ (m ≡ n)
    go true b e f h = inl e
    go false true e f h = inr (eqb-true m n f)
    go false false e f h = absurd cc

-- ---- what an insertion leaves

-- the numbers in what is at a digest
abbrev items_in : Option (Vec ℕ Global) → List ℕ
items_in o = option_map_or (λ v. v.items) o []

pub noted : (held now : BTreeMap (List ℕ) (Vec ℕ Global)) (digest : List ℕ) (v : Vec ℕ Global) → UpdatesBy (slice_cmp nat_cmp) (slice_cmp nat_cmp digest) held now (Some v)
    → (other : List ℕ) → items_in (get_by (slice_cmp nat_cmp other) now) ≡ cond (bytes_eq digest other) v.items (items_in (get_by (slice_cmp nat_cmp other) held))
noted held now digest v updates other =
    ap items_in (updates.0 other ∙ ap (λ b. cond b (Some v) (get_by (slice_cmp nat_cmp other) held)) (is_eq-slice_cmp digest other)) ∙ go (bytes_eq digest other)
  where
    go : (b : Bool) → items_in (cond b (Some v) (get_by (slice_cmp nat_cmp other) held)) ≡ cond b v.items (items_in (get_by (slice_cmp nat_cmp other) held))
    go true = refl
    go false = refl

nothing_there : (o : Option (Vec ℕ Global)) → is_some o ≡ false → items_in o ≡ []
nothing_there None e = refl
nothing_there (Some v) e = absurd cc

-- a digest under which nothing stood has no numbers yet
pub room_made : (held now : BTreeMap (List ℕ) (Vec ℕ Global)) (digest : List ℕ) (v : Vec ℕ Global) → is_some (get_by (slice_cmp nat_cmp digest) held) ≡ false → v.items ≡ [] → UpdatesBy (slice_cmp nat_cmp) (slice_cmp nat_cmp digest) held now (Some v)
    → (other : List ℕ) → items_in (get_by (slice_cmp nat_cmp other) now) ≡ items_in (get_by (slice_cmp nat_cmp other) held)
room_made held now digest v free none updates other = noted held now digest v updates other ∙ go (bytes_eq digest other) refl
  where
    go : (b : Bool) → bytes_eq digest other ≡ b → cond b v.items (items_in (get_by (slice_cmp nat_cmp other) held)) ≡ items_in (get_by (slice_cmp nat_cmp other) held)
    go true e =
        let same : digest ≡ other = (bytes_eq-Decides digest other).0 e in
        none ∙ sym (nothing_there (get_by (slice_cmp nat_cmp other) held) (subst (λ (x : List ℕ). is_some (get_by (slice_cmp nat_cmp x) held) ≡ false) same free))
    go false e = refl

-- ---- a number more under a digest

adds_here : (old new : Digests) (digest other : List ℕ) (n : ℕ) → AddsNumber old new digest n → bytes_eq digest other ≡ true → numbers_under new other ≡ numbers_under old other ++ n ∷ []
adds_here old new digest other n adds e =
    let it : numbers_under new other ≡ numbers_under old digest ++ n ∷ [] = rw e at (adds other) in
    it ∙ ap (λ (x : List ℕ). numbers_under old x ++ n ∷ []) ((bytes_eq-Decides digest other).0 e)

adds_else : (old new : Digests) (digest other : List ℕ) (n : ℕ) → AddsNumber old new digest n → bytes_eq digest other ≡ false → numbers_under new other ≡ numbers_under old other
adds_else old new digest other n adds e = let it : numbers_under new other ≡ numbers_under old other = rw e at (adds other) in it

pub under_kept : (old new : Digests) (digest other : List ℕ) (n m : ℕ) → AddsNumber old new digest n → is_among m (numbers_under old other) ≡ true → is_among m (numbers_under new other) ≡ true
under_kept old new digest other n m adds h = go (bytes_eq digest other) refl
  where
    go : (b : Bool) → bytes_eq digest other ≡ b → is_among m (numbers_under new other) ≡ true
    go true e = ap (is_among m) (adds_here old new digest other n adds e) ∙ among_kept m n (numbers_under old other) h
    go false e = ap (is_among m) (adds_else old new digest other n adds e) ∙ h

under_new : (old new : Digests) (digest : List ℕ) (n : ℕ) → AddsNumber old new digest n → is_among n (numbers_under new digest) ≡ true
under_new old new digest n adds = ap (is_among n) (adds_here old new digest digest n adds ((bytes_eq-Decides digest digest).1 refl)) ∙ among_last n (numbers_under old digest)

under_only : (old new : Digests) (digest other : List ℕ) (n m : ℕ) → AddsNumber old new digest n → is_among m (numbers_under new other) ≡ true → (is_among m (numbers_under old other) ≡ true) ⊎ (m ≡ n)
under_only old new digest other n m adds h = go (bytes_eq digest other) refl
  where
    go : (b : Bool) → bytes_eq digest other ≡ b → (is_among m (numbers_under old other) ≡ true) ⊎ (m ≡ n)
    go true e = among_either m n (numbers_under old other) (sym (ap (is_among m) (adds_here old new digest other n adds e)) ∙ h)
    go false e = inl (sym (ap (is_among m) (adds_else old new digest other n adds e)) ∙ h)

pub none_below : (digests : Digests) (n : ℕ) → ((digest : List ℕ) → numbers_under digests digest ≡ []) → AreBelow digests n
none_below digests n none digest m h = absurd (let no : false ≡ true = sym (ap (is_among m) (none digest)) ∙ h in cc)

pub below_more : (old new : Digests) (digest : List ℕ) (n : ℕ) → 0 < n → AddsNumber old new digest n → AreBelow old n → AreBelow new (n + 1)
below_more old new digest n low adds below other m h = elim (under_only old new digest other n m adds h) [
  | inl was ↦ (let it = below other m was in (it.0, omega (arith, it.1)))
  | inr e ↦ (omega (arith, low, e), omega (arith, e))
]

pub held_more : (db : Database) (old new : Digests) (digest : List ℕ) (n : ℕ) → AddsNumber old new digest n → ((d : Sent) → IsRowOf db n d → digest ≡ own_digest d) → HoldsDigests db n old → HoldsDigests db (n + 1) new
held_more db old new digest n adds own held m low high d row = elim (cases_lt m n) [
  | inl below ↦ under_kept old new digest (own_digest d) n m adds (held m low below d row)
  | inr up ↦ (let e : n ≡ m = omega (arith, up, high) in
      let its : digest ≡ own_digest d = own d (subst (λ (k : ℕ). IsRowOf db k d) (sym e) row) in
      subst (λ (x : List ℕ). is_among m (numbers_under new x) ≡ true) its (subst (λ (k : ℕ). is_among k (numbers_under new digest) ≡ true) e (under_new old new digest n adds)))
]

-- ---- digests of a list

push_cases : (list : List Sent) (d e : Sent) (k : ℕ) → slice_get (list ++ d ∷ []) k ≡ Some e → (slice_get list k ≡ Some e) ⊎ ((k ≡ length list) × (d ≡ e))
push_cases [] d e zero at = inr (refl, cc)
push_cases [] d e (suc k) at = absurd cc
push_cases (x ∷ list) d e zero at = inl at
push_cases (x ∷ list) d e (suc k) at = elim (push_cases list d e k at) [ inl h ↦ inl h | inr p ↦ inr (ap suc p.0, p.1) ]

pub digested_push : (old new : Digests) (digest : List ℕ) (list more : List Sent) (d : Sent) (n : ℕ) → AreDigested old list → AddsNumber old new digest n → digest ≡ own_digest d → n ≡ length list + 1 → more ≡ list ++ d ∷ [] → AreDigested new more
digested_push old new digest list more d n are adds own long grown k e at = elim (push_cases list d e k (sym (ap (λ all. slice_get all k) grown) ∙ at)) [
  | inl h ↦ under_kept old new digest (own_digest e) n (k + 1) adds (are k e h)
  | inr p ↦ (let same : n ≡ k + 1 = omega (arith, long, p.0) in
      subst (λ (x : Sent). is_among (k + 1) (numbers_under new (own_digest x)) ≡ true) p.1
      (subst (λ (x : List ℕ). is_among (k + 1) (numbers_under new x) ≡ true) own (subst (λ (m : ℕ). is_among m (numbers_under new digest) ≡ true) same (under_new old new digest n adds))))
]

pub digested_same : (old new : Digests) (list other : List Sent) → ((digest : List ℕ) → numbers_under new digest ≡ numbers_under old digest) → other ≡ list → AreDigested old list → AreDigested new other
digested_same old new list other same is are k d at = ap (is_among (k + 1)) (same (own_digest d)) ∙ are k d (sym (ap (λ all. slice_get all k) is) ∙ at)

pub below_same : (old new : Digests) (n : ℕ) → ((digest : List ℕ) → numbers_under new digest ≡ numbers_under old digest) → AreBelow old n → AreBelow new n
below_same old new n same below digest m h = below digest m (sym (ap (is_among m) (same digest)) ∙ h)

-- what is under digests is that of the list, where the tables hold it
pub digested_held : (db : Database) (digests : Digests) (list : List Sent) → IsPermutation (deposit_rows 1 list) (deposit_table db.trees) → HoldsDigests db (length list + 1) digests → AreDigested digests list
digested_held db digests list there held k d at =
    let e : (k + 1) - 1 ≡ k = omega arith in
    held (k + 1) (omega arith) (omega (arith, slice_get_within list k d at)) d (row_of_number (k + 1) list (deposit_table db.trees) d (omega arith) there (ap (slice_get list) e ∙ at))

-- ---- repeats

pub false_if : (b : Bool) → (b ≡ true → b ≡ false) → b ≡ false
false_if true h = h refl
false_if false h = refl

-- equal deposits have equal digests
pub same_digest : (firm project bytes : List ℕ) (d : Sent) → is_repeat firm project bytes d ≡ true → own_digest d ≡ digest_of firm project bytes
same_digest firm project bytes d is =
    let it = parts_of firm project bytes d is in
    ap (λ (x : List ℕ). digest_of x d.project d.bytes) it.0 ∙ ap (λ (x : List ℕ). digest_of firm x d.bytes) it.1 ∙ ap (λ (x : List ℕ). digest_of firm project x) it.2

first_found : (n : ℕ) (firm project bytes : List ℕ) (list : List Sent) (k : ℕ) (d : Sent) → AreApart list → slice_get list k ≡ Some d → is_repeat firm project bytes d ≡ true → position_from (is_repeat firm project bytes) n list ≡ Some (n + k)
first_found n firm project bytes [] k d apart at is = absurd cc
first_found n firm project bytes (x ∷ list) zero d apart at is =
    let same : x ≡ d = cc in
    let here : is_repeat firm project bytes x ≡ true = subst (λ (y : Sent). is_repeat firm project bytes y ≡ true) (sym same) is in
    let e : n ≡ n + 0 = omega arith in
    rw here (ap Some e)
first_found n firm project bytes (x ∷ list) (suc k) d apart at is =
    let e : (n + 1) + k ≡ n + suc k = omega arith in
    rw (not_here (is_repeat firm project bytes x) refl) (first_found (n + 1) firm project bytes list k d apart.1 at is ∙ ap Some e)
  where
    not_here : (b : Bool) → is_repeat firm project bytes x ≡ b → is_repeat firm project bytes x ≡ false
    not_here false e = e
    not_here true e =
        let it = parts_of firm project bytes x e in
        let clash : is_repeat firm project bytes d ≡ false = rw (it.0, it.1, it.2) at (none_at (is_repeat x.firm x.project x.bytes) list k d apart.0 at) in
        absurd (let no : true ≡ false = sym is ∙ clash in cc)

not_found : (n : ℕ) (firm project bytes : List ℕ) (list : List Sent) → ((k : ℕ) (d : Sent) → slice_get list k ≡ Some d → is_repeat firm project bytes d ≡ false) → position_from (is_repeat firm project bytes) n list ≡ None
not_found n firm project bytes [] none = refl
not_found n firm project bytes (x ∷ list) none = rw (none 0 x refl) (not_found (n + 1) firm project bytes list (λ k d at. none (suc k) d at))

found_some : (db : Database) (firm project bytes : List ℕ) (list : List Sent) (n : ℕ) → IsPermutation (deposit_rows 1 list) (deposit_table db.trees) → AreApart list → 0 < n → n < length list + 1 → HasEqual db firm project bytes n → Some n ≡ number_of firm project bytes list
found_some db firm project bytes list n there apart low high has =
    let place = slice_get_in list (n - 1) (omega (arith, low, high)) in
    let one : place.0 ≡ has.0 = same_deposit n place.0 has.0 _ (row_of_number n list (deposit_table db.trees) place.0 low there place.1) has.1 in
    let is : is_repeat firm project bytes place.0 ≡ true = subst (λ (x : Sent). is_repeat firm project bytes x ≡ true) (sym one) has.2 in
    let e : 1 + (n - 1) ≡ n = omega (arith, low) in
    sym (first_found 1 firm project bytes list (n - 1) place.0 apart place.1 is ∙ ap Some e)

found_none : (db : Database) (firm project bytes : List ℕ) (list : List Sent) (digests : Digests) → IsPermutation (deposit_rows 1 list) (deposit_table db.trees) → AreDigested digests list
    → HasNoEqual db (numbers_under digests (digest_of firm project bytes)) firm project bytes → None ≡ number_of firm project bytes list
found_none db firm project bytes list digests there are none = sym (not_found 1 firm project bytes list each)
  where
    each : (k : ℕ) (d : Sent) → slice_get list k ≡ Some d → is_repeat firm project bytes d ≡ false
    each k d at = false_if (is_repeat firm project bytes d) (λ yes.
        (let e : (k + 1) - 1 ≡ k = omega arith in
        let row = row_of_number (k + 1) list (deposit_table db.trees) d (omega arith) there (ap (slice_get list) e ∙ at) in
        none (k + 1) (subst (λ (x : List ℕ). is_among (k + 1) (numbers_under digests x) ≡ true) (same_digest firm project bytes d yes) (are k d at)) d row))

-- what is found under the digest is the first repeat
pub repeat_found : {s : State} {dictionary : Entries} {count : ℕ} (firm project bytes : List ℕ) (digests : Digests) (numbers : List ℕ) (r : Result (Option ℕ) TableError) → ∥ KeepsRegister s dictionary count ∥₁
    → numbers ≡ numbers_under digests (digest_of firm project bytes) → AreBelow digests (count + 1) → AreDigested digests (sents (deposits_in s.committed.trees))
    → IfOk r (λ found. IfSome found (HasEqual s.now firm project bytes)) → IfOk r (λ found. IfSome found (λ n. is_among n numbers ≡ true)) → (r ≡ Ok None → HasNoEqual s.now numbers firm project bytes)
    → IfOk r (λ n. n ≡ number_of firm project bytes (sents (deposits_in s.committed.trees)))
repeat_found {s} {dictionary} {count} firm project bytes digests numbers (Ok (Some n)) kept own below are equal among none = ∥∥₁_elim kept (Prim.hlevel props) found
  where
    found : KeepsRegister s dictionary count → Some n ≡ number_of firm project bytes (sents (deposits_in s.committed.trees))
    found k =
        let it = below (digest_of firm project bytes) n (subst (λ all. is_among n all ≡ true) own among) in
        found_some s.now firm project bytes (sents (deposits_in s.committed.trees)) n k.register.holds.deposits k.register.holds.apart it.0 (omega (arith, it.1, k.counted, long_sents (deposits_in s.committed.trees))) equal
repeat_found {s} {dictionary} {count} firm project bytes digests numbers (Ok None) kept own below are equal among none = ∥∥₁_elim kept (Prim.hlevel props) found
  where
    found : KeepsRegister s dictionary count → None ≡ number_of firm project bytes (sents (deposits_in s.committed.trees))
    found k = found_none s.now firm project bytes (sents (deposits_in s.committed.trees)) digests k.register.holds.deposits are (subst (λ all. HasNoEqual s.now all firm project bytes) own (none refl))
repeat_found firm project bytes digests numbers (Err e) kept own below are equal among none = tt

-- one number more of which the deposit is not equal
no_more : (db : Database) (firm project bytes : List ℕ) (numbers : List ℕ) (i : ℕ) (d : Sent) → i < length numbers → HasNoEqual db (take i numbers) firm project bytes → IsRowOf db (get_or numbers i 0) d → is_repeat firm project bytes d ≡ false
    → HasNoEqual db (take (i + 1) numbers) firm project bytes
no_more db firm project bytes numbers i d low none row is m among e its = elim (among_either m (get_or numbers i 0) (take i numbers) (sym (ap (is_among m) (take_more numbers i 0 low)) ∙ among)) [
  | inl before ↦ none m before e its
  | inr here ↦ (let same : d ≡ e = same_deposit m d e _ (subst (λ (k : ℕ). IsRowOf db k d) (sym here) row) its in
      subst (λ (x : Sent). is_repeat firm project bytes x ≡ false) same is)
]

-- the deposit of the next number was tested, and is not equal
pub no_more_by : (old mid : Database) (firm project bytes numbers : List ℕ) (i : ℕ) (is : Bool) → mid ≡ old → i < length numbers → HasNoEqual old (take i numbers) firm project bytes
    → (d : Sent) × IsRowOf mid (get_or numbers i 0) d × (is ≡ is_repeat firm project bytes d) → is ≡ false → HasNoEqual old (take (i + 1) numbers) firm project bytes
no_more_by old mid firm project bytes numbers i is same low none it told = no_more old firm project bytes numbers i it.0 low none (subst (λ (db : Database). IsRowOf db (get_or numbers i 0) it.0) same it.1) (sym it.2 ∙ told)

-- it was tested, and is equal
pub equal_by : (old mid : Database) (firm project bytes : List ℕ) (n : ℕ) (is : Bool) → mid ≡ old → (d : Sent) × IsRowOf mid n d × (is ≡ is_repeat firm project bytes d) → is ≡ true → HasEqual old firm project bytes n
equal_by old mid firm project bytes n is same it told = (it.0, subst (λ (db : Database). IsRowOf db n it.0) same it.1, sym it.2 ∙ told)

-- of no number yet
pub none_yet : (db : Database) (firm project bytes numbers : List ℕ) → HasNoEqual db (take 0 numbers) firm project bytes
none_yet db firm project bytes numbers n among d row = absurd cc
