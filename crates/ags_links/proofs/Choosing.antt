-- Those of the rows of a parent group that may be parent rows of one row.
use Rattle.std.proofs.Common.{◌≡◌, ℕ, ◌+◌, ◌<◌, Bool, true, false, not, Option, List, [], ◌∷◌, ◌++◌, length, take, get_or, map, sym, ap, subst, ◌∙◌, arith, inl, inr, Contains, All}
use Rattle.std.specs.Str.{bytes_eq}
use Rattle.std.proofs.lemmas.Bool.{true≢false, cases_eq}
use Rattle.std.proofs.lemmas.Slice.Eq.{bytes_eq-Decides}
use Rattle.ags_rows.specs.Contents.{place_in, field_at}
use Rattle.ags_dict.specs.Entries.{Entries}
use Rattle.ags_links.specs.declared.families.Family.{Family}
use Rattle.ags_links.specs.declared.placed.PlacedRow.{PlacedRow}
use Rattle.std.specs.List.Sorted.{IsStrictlyIncreasing}
use Rattle.std.proofs.lemmas.List.{take_more, length-map}
use Rattle.std.proofs.lemmas.List.Elements.{Contains-get_or, Contains-push, Contains-push_cases, Contains-append_left}
use Rattle.ags_rows.specs.Collecting.{At}
use Rattle.ags_links.specs.DataRows.{DataRow, entry_of}
use Rattle.ags_links.specs.Families.{HasAmong, HasEntries, HasFamily}
use Rattle.ags_links.specs.Lookups.{Lookup, Finds, FindsAsked}
use Rattle.ags_links.specs.ParentRows.{AreCandidates, text_at}
use Rattle.ags_links.specs.Placing.{row_of}
use Rattle.ags_links.proofs.Finding.{before_next, finds_asked}
use Rattle.ags_links.proofs.Rising.{rising_push}
use Rattle.ags_links.proofs.Heading.{entries_at}
use Rattle.ags_links.proofs.Kept.{kept_family}
use Rattle.ags_rows.proofs.Lemmas.{at_map}
use Rattle.ags_links.proofs.RowLemmas.{one_at, some_at}
use Rattle.ags_links.proofs.Spelled.{key_text_same}

-- what is made of two lists alike is so at each place
pub same_at : {X Y Z : Type 0} (f : X → Z) (g : Y → Z) (xs : List X) (ys : List Y) (i : ℕ) (x : X) (y : Y) → map f xs ≡ map g ys → At xs i x → At ys i y → f x ≡ g y
same_at f g xs ys i x y same at also = one_at (map g ys) i (f x) (g y) (subst (λ l. At l i (f x)) same (at_map f xs i x at)) (at_map g ys i y also)

pub unequal : (x y : List ℕ) (t : Bool) → t ≡ not (bytes_eq x y) → t ≡ true → x ≡ y → ⊥
unequal x y t e is same = true≢false (sym is ∙ e ∙ ap not ((bytes_eq-Decides x y).1 same))

-- a row whose entries do not agree does not have the text
pub has_no_text : (entries : Entries) (families : List Family) (rows : List PlacedRow) (n place : ℕ) (x y : PlacedRow) (family : Family) (places stood : List (Option ℕ)) (names : List (List ℕ)) (t : Bool) → All (HasFamily entries families) rows → At rows n x
    → get_or families place family ≡ family → stood ≡ map (place_in family.headings) names → ((x.place ≡ place → ⊥) → t ≡ true) → (map (field_at (row_of y).fields) places ≡ map (field_at (row_of x).fields) stood → t ≡ true) → t ≡ false
    → HasEntries names (row_of x) (text_at places y) → ⊥
has_no_text entries families rows n place x y family places stood names t have at is stands apart agree fails has = elim (cases_eq x.place place) [
  | inr other ↦ true≢false (sym (apart other) ∙ fails)
  | inl same ↦
      let kept = kept_family entries families rows n x family have at (ap (λ k. get_or families k family) same ∙ is) in
      let entries_of : map (field_at (row_of x).fields) stood ≡ map (entry_of (row_of x)) names =
      ap (map (field_at (row_of x).fields)) (stands ∙ ap (λ hs. map (place_in hs) names) kept.headings) ∙ entries_at (row_of x) names in
      let alike : map (entry_of (row_of x)) names ≡ map (field_at (row_of y).fields) places = key_text_same (map (entry_of (row_of x)) names) (map (field_at (row_of y).fields) places) has in
      true≢false (sym (agree (sym alike ∙ sym entries_of)) ∙ fails)
]

-- a row that has the text has its first entry
pub first_entry : (names : List (List ℕ)) (places : List (Option ℕ)) (x y : PlacedRow) (place : Option ℕ) → At places 0 place → HasEntries names (row_of x) (text_at places y)
    → (name : List ℕ) × At names 0 name × (entry_of (row_of x) name ≡ field_at (row_of y).fields place)
first_entry names places x y place placed has =
    let same = key_text_same (map (entry_of (row_of x)) names) (map (field_at (row_of y).fields) places) has in
    let name = some_at names 0 (omega (arith, placed.0, ap length same, length-map names (entry_of (row_of x)), length-map places (field_at (row_of y).fields))) in
    (name.0, name.1, same_at (entry_of (row_of x)) (field_at (row_of y).fields) names places 0 name.0 place same name.1 placed)

module _ (rows : List DataRow) (numbers : List ℕ) (headings : List (List ℕ)) (text : List ℕ) where
  -- one more of the numbers is chosen
  pub chosen_next : (chosen new : List ℕ) (i : ℕ) → i < length numbers → IsStrictlyIncreasing numbers → AreCandidates rows (take i numbers) headings text chosen → new ≡ chosen ++ get_or numbers i 0 ∷ [] → AreCandidates rows (take (i + 1) numbers) headings text new
  chosen_next chosen new i lt rises so_far e =
      let n = get_or numbers i 0 in
      let next = take_more numbers i 0 lt in
      subst (AreCandidates rows (take (i + 1) numbers) headings text) (sym e) (record {
        rising = rising_push chosen n so_far.rising (λ m h. before_next numbers i m rises lt (so_far.among m h));
        among = λ m h. elim (Contains-push_cases chosen n m h) [
          | inl was ↦ subst (λ l. Contains l m) (sym next) (Contains-append_left (take i numbers) (n ∷ []) m (so_far.among m was))
          | inr is ↦ subst (Contains (take (i + 1) numbers)) is (subst (λ l. Contains l n) (sym next) (Contains-push (take i numbers) n))
        ];
        all = λ m s h row has. elim (Contains-push_cases (take i numbers) n m (subst (λ l. Contains l m) next h)) [
          | inl was ↦ Contains-append_left chosen (n ∷ []) m (so_far.all m s was row has)
          | inr is ↦ subst (Contains (chosen ++ n ∷ [])) is (Contains-push chosen n)
        ];
      })

  -- one more of the numbers is passed over
  pub chosen_over : (chosen : List ℕ) (i : ℕ) (x : DataRow) → i < length numbers → AreCandidates rows (take i numbers) headings text chosen → At rows (get_or numbers i 0) x → (HasEntries headings x text → ⊥) → AreCandidates rows (take (i + 1) numbers) headings text chosen
  chosen_over chosen i x lt so_far at other =
      let n = get_or numbers i 0 in
      let next = take_more numbers i 0 lt in
      record {
        rising = so_far.rising;
        among = λ m h. subst (λ l. Contains l m) (sym next) (Contains-append_left (take i numbers) (n ∷ []) m (so_far.among m h));
        all = λ m s h row has. elim (Contains-push_cases (take i numbers) n m (subst (λ l. Contains l m) next h)) [
          | inl was ↦ so_far.all m s was row has
          | inr is ↦ absurd (other (subst (λ r. HasEntries headings r text) (one_at rows m s x row (subst (λ (k : ℕ). At rows k x) is at)) has))
        ];
      }

  -- of rows that are not chosen none has the text
  pub chosen_asked : (chosen : List ℕ) (lookup : Lookup) → AreCandidates rows numbers headings text chosen → Finds lookup (HasAmong chosen rows (HasEntries headings)) → FindsAsked lookup (λ asked. text ≡ asked) (HasAmong numbers rows (HasEntries headings))
  chosen_asked chosen lookup are finds =
      finds_asked lookup (λ asked. text ≡ asked) (HasAmong chosen rows (HasEntries headings)) (HasAmong numbers rows (HasEntries headings)) finds
      (λ m q is h. (are.among m h.0, h.1))
      (λ m q is h. (are.all m h.1.0 h.0 h.1.1 (h.1.2 ∙ sym is), h.1))

pub chosen_below : (rows : List DataRow) (numbers : List ℕ) (headings : List (List ℕ)) (text chosen : List ℕ) (count : ℕ) → AreCandidates rows numbers headings text chosen → All (λ n. n < count) numbers → All (λ n. n < count) chosen
chosen_below rows numbers headings text chosen count are below k d lt =
    let h = are.among (get_or chosen k d) (Contains-get_or chosen k d lt) in
    subst (λ n. n < count) h.2 (below h.0 (get_or chosen k d) h.1)
