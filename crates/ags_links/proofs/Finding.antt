-- The index, one more row at a time.
use Rattle.std.proofs.Common.{◌≡◌, ℕ, ◌+◌, ◌<◌, ◌≤◌, Bool, true, false, cond, List, [], ◌∷◌, ◌++◌, length, take, get_or, map, sym, ap, subst, ◌∙◌, arith, inl, inr, ◌⊎◌, ◌↔◌, Contains, append-nil, Result, Ok, Err, IfOk}
use Rattle.std.specs.List.{filter}
use Rattle.std.specs.Str.{bytes_eq}
use Rattle.std.specs.List.Sorted.{IsStrictlyIncreasing}
use Rattle.std.proofs.lemmas.Bool.{cases_Bool}
use Rattle.std.proofs.lemmas.Slice.Eq.{bytes_eq-Decides}
use Rattle.std.proofs.lemmas.List.{take_more, length-take-le, length-map, map-append, map_more, take_all, get_or_default, get_or-take}
use Rattle.std.proofs.lemmas.List.Elements.{Contains-push, Contains-push_cases, Contains-append_cases, Contains-append_left, filter-append}
use Rattle.ags_links.specs.Lookups.{Lookup, found, Finds, FindsAsked}
use Rattle.ags_links.specs.declared.placed.PlacedRow.{PlacedRow}
use Rattle.ags_rows.specs.Collecting.{At}
use Rattle.ags_links.specs.DataRows.{DataRow}
use Rattle.ags_links.specs.Families.{HasText, HasAmong}
use Rattle.ags_links.specs.Placing.{row_of}
use Rattle.ags_links.proofs.Rising.{rising_push, earlier_is_below}
use Rattle.ags_links.proofs.Members.{contains_if}
use Rattle.ags_links.proofs.RowLemmas.{at_before, at_last, at_cases, one_at}

-- one row was added at a text
abbrev pub IsAdded : Lookup → Lookup → List ℕ → ℕ → Type 0
IsAdded old new text n = (q : List ℕ) → found new q ≡ found old q ++ cond (bytes_eq text q) (n ∷ []) []

-- rows found at one text, with what was added
abbrev FoundNext : (t : Bool) → List ℕ → List ℕ → ℕ → Type 0
FoundNext t old new n = new ≡ old ++ cond t (n ∷ []) []

rising_next : (t : Bool) (old new : List ℕ) (n : ℕ) → FoundNext t old new n → IsStrictlyIncreasing old → ((m : ℕ) → Contains old m → m < n) → IsStrictlyIncreasing new
rising_next true old new n e rises below = subst IsStrictlyIncreasing (sym e) (rising_push old n rises below)
rising_next false old new n e rises below = subst IsStrictlyIncreasing (sym (e ∙ append-nil old)) rises

contains_next : (t : Bool) (old new : List ℕ) (n m : ℕ) → FoundNext t old new n → Contains new m ↔ (Contains old m ⊎ ((t ≡ true) × (n ≡ m)))
contains_next t old new n m e = (
  λ h. elim (Contains-append_cases old (cond t (n ∷ []) []) m (subst (λ l. Contains l m) e h)) [ inl was ↦ inl was | inr is ↦ inr (contains_if t n m is) ],
  λ h. subst (λ l. Contains l m) (sym e) (elim h [ inl was ↦ Contains-append_left old (cond t (n ∷ []) []) m was | inr is ↦ rw (is.0, ← is.1) (Contains-push old n) ]),
)

-- the new row is above those before, and has this text alone
pub finds_more : (old new : Lookup) (Had Has : ℕ → List ℕ → Type 0) (n : ℕ) (text : List ℕ) → Finds old Had → IsAdded old new text n
    → ((m : ℕ) (q : List ℕ) → Had m q → m < n) → ((m : ℕ) (q : List ℕ) → Had m q → Has m q) → Has n text
    → ((m : ℕ) (q : List ℕ) → Has m q → Had m q ⊎ ((n ≡ m) × (text ≡ q))) → Finds new Has
finds_more old new Had Has n text so_far added below kept here cases = record {
  rising = λ q. rising_next (bytes_eq text q) (found old q) (found new q) n (added q) (so_far.rising q) (λ m h. below m q ((so_far.exact q m).0 h));
  exact = λ q m. (
    λ h. elim ((contains_next (bytes_eq text q) (found old q) (found new q) n m (added q)).0 h) [
      | inl was ↦ kept m q ((so_far.exact q m).0 was)
      | inr is ↦ subst (λ (k : ℕ). Has k q) is.1 (subst (Has n) ((bytes_eq-Decides text q).0 is.0) here)
    ],
    λ h. (contains_next (bytes_eq text q) (found old q) (found new q) n m (added q)).1
        (elim (cases m q h) [ inl was ↦ inl ((so_far.exact q m).1 was) | inr is ↦ inr ((bytes_eq-Decides text q).1 is.1, is.0) ]),
  );
}

-- what is found at each text is found at those that are asked for
pub finds_asked : (lookup : Lookup) (IsAsked : List ℕ → Type 0) (Had Has : ℕ → List ℕ → Type 0) → Finds lookup Had
    → ((m : ℕ) (q : List ℕ) → IsAsked q → Had m q → Has m q) → ((m : ℕ) (q : List ℕ) → IsAsked q → Has m q → Had m q) → FindsAsked lookup IsAsked Has
finds_asked lookup IsAsked Had Has so_far to from = record {
  rising = so_far.rising;
  exact = λ q asked m. (λ h. to m q asked ((so_far.exact q m).0 h), λ h. (so_far.exact q m).1 (from m q asked h));
}

pub asked_same : (lookup : Lookup) (WasAsked IsAsked : List ℕ → Type 0) (Had Has : ℕ → List ℕ → Type 0) → FindsAsked lookup WasAsked Had → ((q : List ℕ) → IsAsked q → WasAsked q)
    → ((m : ℕ) (q : List ℕ) → Had m q → Has m q) → ((m : ℕ) (q : List ℕ) → Has m q → Had m q) → FindsAsked lookup IsAsked Has
asked_same lookup WasAsked IsAsked Had Has so_far asks to from = record {
  rising = so_far.rising;
  exact = λ q asked m. (λ h. to m q ((so_far.exact q (asks q asked) m).0 h), λ h. (so_far.exact q (asks q asked) m).1 (from m q h));
}

-- two look-ups that find the same rows at each text
pub finds_ok : {E : Type 0} (r : Result Lookup E) (old : Lookup) (Has : ℕ → List ℕ → Type 0) → IfOk r (λ l. (q : List ℕ) → found l q ≡ found old q) → Finds old Has → IfOk r (λ l. Finds l Has)
finds_ok (Ok l) old Has same so_far = record {
  rising = λ q. subst IsStrictlyIncreasing (sym (same q)) (so_far.rising q);
  exact = λ q m. subst (λ ns. Contains ns m ↔ Has m q) (sym (same q)) (so_far.exact q m);
}
finds_ok (Err e) old Has same so_far = same

-- ---- rows of a file, from the first on

rows_next : (rows : List PlacedRow) (i : ℕ) (x : PlacedRow) → At rows i x → map row_of (take (i + 1) rows) ≡ map row_of (take i rows) ++ row_of x ∷ []
rows_next rows i x at = map_more row_of rows i x at.0 ∙ ap (λ y. map row_of (take i rows) ++ row_of y ∷ []) at.1

rows_length : (rows : List PlacedRow) (i : ℕ) → i < length rows → length (map row_of (take i rows)) ≡ i
rows_length rows i lt = length-map (take i rows) row_of ∙ length-take-le i rows (omega arith)

-- the next row is added at its text
pub finds_row : (old new : Lookup) (Has : DataRow → List ℕ → Type 0) (rows : List PlacedRow) (i : ℕ) (x : PlacedRow) (text : List ℕ) → At rows i x
    → Finds old (HasText (map row_of (take i rows)) Has) → IsAdded old new text i → Has (row_of x) text → ((q : List ℕ) → Has (row_of x) q → text ≡ q)
    → Finds new (HasText (map row_of (take (i + 1) rows)) Has)
finds_row old new Has rows i x text at so_far added here only =
    let before = map row_of (take i rows) in
    let len = rows_length rows i at.0 in
    subst (λ rs. Finds new (HasText rs Has)) (sym (rows_next rows i x at)) (finds_more old new (HasText before Has) (HasText (before ++ row_of x ∷ []) Has) i text so_far added
    (λ m q h. omega (arith, h.1.0, len))
    (λ m q h. (h.0, at_before before (row_of x) m h.0 h.1, h.2))
    (row_of x, subst (λ (k : ℕ). At (before ++ row_of x ∷ []) k (row_of x)) len (at_last before (row_of x)), here)
    (λ m q h. elim (at_cases before (row_of x) m h.0 h.1) [
      | inl was ↦ inl (h.0, was, h.2)
      | inr is ↦ inr (sym (is.0 ∙ len), only q (subst (λ r. Has r q) (sym is.1) h.2))
    ]))

-- the next row has no text
pub finds_over : (old : Lookup) (Has : DataRow → List ℕ → Type 0) (rows : List PlacedRow) (i : ℕ) (x : PlacedRow) → At rows i x
    → Finds old (HasText (map row_of (take i rows)) Has) → ((q : List ℕ) → Has (row_of x) q → ⊥) → Finds old (HasText (map row_of (take (i + 1) rows)) Has)
finds_over old Has rows i x at so_far none =
    let before = map row_of (take i rows) in
    subst (λ rs. Finds old (HasText rs Has)) (sym (rows_next rows i x at)) (record {
      rising = so_far.rising;
      exact = λ q m. (
        λ h. let was = (so_far.exact q m).0 h in (was.0, at_before before (row_of x) m was.0 was.1, was.2),
        λ h. elim (at_cases before (row_of x) m h.0 h.1) [
          | inl was ↦ (so_far.exact q m).1 (h.0, was, h.2)
          | inr is ↦ absurd (none q (subst (λ r. Has r q) (sym is.1) h.2))
        ],
      );
    })

-- all rows
pub finds_rows : (lookup : Lookup) (Has : DataRow → List ℕ → Type 0) (rows : List PlacedRow) (i : ℕ) → length rows ≤ i → Finds lookup (HasText (map row_of (take i rows)) Has) → Finds lookup (HasText (map row_of rows) Has)
finds_rows lookup Has rows i le so_far = subst (λ rs. Finds lookup (HasText (map row_of rs) Has)) (take_all i rows le) so_far

-- ---- rows of a list of numbers

pub before_next : (numbers : List ℕ) (i m : ℕ) → IsStrictlyIncreasing numbers → i < length numbers → Contains (take i numbers) m → m < get_or numbers i 0
before_next numbers i m rises lt h =
    let len : length (take i numbers) ≡ i = length-take-le i numbers (omega arith) in
    let below : h.0 < i = omega (arith, h.1, len) in
    let at : get_or numbers h.0 m ≡ m = sym (get_or-take i numbers h.0 m below) ∙ h.2 in
    let at0 : get_or numbers h.0 0 ≡ m = get_or_default numbers h.0 0 m (omega arith) ∙ at in
    omega (arith, earlier_is_below numbers h.0 i rises below lt, at0)

pub finds_number : (old new : Lookup) (Has : DataRow → List ℕ → Type 0) (rows : List DataRow) (numbers : List ℕ) (i : ℕ) (x : DataRow) (text : List ℕ) → i < length numbers → IsStrictlyIncreasing numbers
    → Finds old (HasAmong (take i numbers) rows Has) → IsAdded old new text (get_or numbers i 0) → At rows (get_or numbers i 0) x → Has x text → ((q : List ℕ) → Has x q → text ≡ q)
    → Finds new (HasAmong (take (i + 1) numbers) rows Has)
finds_number old new Has rows numbers i x text lt rises so_far added row here only =
    let n = get_or numbers i 0 in
    let next = take_more numbers i 0 lt in
    finds_more old new (HasAmong (take i numbers) rows Has) (HasAmong (take (i + 1) numbers) rows Has) n text so_far added
    (λ m q h. before_next numbers i m rises lt h.0)
    (λ m q h. (subst (λ l. Contains l m) (sym next) (Contains-append_left (take i numbers) (n ∷ []) m h.0), h.1))
    (subst (λ l. Contains l n) (sym next) (Contains-push (take i numbers) n), (x, row, here))
    (λ m q h. elim (Contains-push_cases (take i numbers) n m (subst (λ l. Contains l m) next h.0)) [
      | inl was ↦ inl (was, h.1)
      | inr is ↦ inr (is, only q (subst (λ r. Has r q) (one_at rows m h.1.0 x h.1.1 (subst (λ (k : ℕ). At rows k x) is row)) h.1.2))
    ])

-- the row of the next number has no text
pub finds_over_number : (old : Lookup) (Has : DataRow → List ℕ → Type 0) (rows : List DataRow) (numbers : List ℕ) (i : ℕ) (x : DataRow) → i < length numbers → Finds old (HasAmong (take i numbers) rows Has) → At rows (get_or numbers i 0) x → ((q : List ℕ) → Has x q → ⊥)
    → Finds old (HasAmong (take (i + 1) numbers) rows Has)
finds_over_number old Has rows numbers i x lt so_far row none =
    let n = get_or numbers i 0 in
    let next = take_more numbers i 0 lt in
    record {
      rising = so_far.rising;
      exact = λ q m. (
        λ h. let was = (so_far.exact q m).0 h in (subst (λ l. Contains l m) (sym next) (Contains-append_left (take i numbers) (n ∷ []) m was.0), was.1),
        λ h. elim (Contains-push_cases (take i numbers) n m (subst (λ l. Contains l m) next h.0)) [
          | inl was ↦ (so_far.exact q m).1 (was, h.1)
          | inr is ↦ absurd (none q (subst (λ r. Has r q) (one_at rows m h.1.0 x h.1.1 (subst (λ (k : ℕ). At rows k x) is row)) h.1.2))
        ],
      );
    }

-- one pair more
pub one_added : (old new : Lookup) (text : List ℕ) (n : ℕ) → new ≡ old ++ (text, n) ∷ [] → IsAdded old new text n
one_added old new text n e q =
    ap (λ l. found l q) e
    ∙ ap (map (λ (p : List ℕ × ℕ). p.1)) (filter-append (λ (p : List ℕ × ℕ). bytes_eq p.0 q) old ((text, n) ∷ []))
    ∙ map-append (λ (p : List ℕ × ℕ). p.1) (filter (λ (p : List ℕ × ℕ). bytes_eq p.0 q) old) (filter (λ (p : List ℕ × ℕ). bytes_eq p.0 q) ((text, n) ∷ []))
    ∙ ap (λ l. found old q ++ l) last where
      last : found ((text, n) ∷ []) q ≡ cond (bytes_eq text q) (n ∷ []) []
      last = elim (cases_Bool (bytes_eq text q)) [ inl e ↦ rw e | inr e ↦ rw e ]
