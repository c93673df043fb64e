-- Rows whose texts are asked for.
use Rattle.std.proofs.Common.{◌≡◌, ℕ, ◌+◌, ◌<◌, ◌≤◌, Option, None, List, [], ◌∷◌, ◌++◌, length, take, get_or, map, refl, sym, ap, subst, ◌∙◌, arith, inl, inr, Contains, Bor, cond, Result, Ok, Err, IfOk}
use Rattle.std.specs.Str.{bytes_eq}
use Rattle.std.proofs.lemmas.List.{take_all, take_more, length_push}
use Rattle.std.proofs.lemmas.List.Elements.{Contains-push_cases}
use Rattle.std.proofs.lemmas.Slice.Eq.{bytes_eq-Decides}
use Rattle.ags_rows.specs.Collecting.{At}
use Rattle.ags_links.specs.declared.parents.LinkPlaces.{LinkPlaces}
use Rattle.ags_links.specs.declared.placed.PlacedRow.{PlacedRow}
use Rattle.ags_links.specs.DataRows.{DataRow}
use Rattle.ags_links.specs.Families.{HasAmong, HasEntries}
use Rattle.ags_links.specs.Lookups.{Lookup, Finds, FindsAsked, found}
use Rattle.ags_links.specs.ParentRows.{AddsAsked, AreTextsOf, HasAskedAmong, HasUsers, IsAskedIn, IsAskedOf, IsLinkText, text_at}
use Rattle.ags_links.specs.Placing.{row_of}
use Rattle.ags_links.proofs.Finding.{IsAdded, finds_asked, finds_number, finds_over_number, one_added}
use Rattle.std.specs.List.Sorted.{IsStrictlyIncreasing}

-- the next row, whose text is this, is added if that is asked for
pub finds_asked_number : (asked : Option (Bor Lookup)) (rows : List PlacedRow) (numbers : List ℕ) (names : List (List ℕ)) (old new : Lookup) (i : ℕ) (x : DataRow) (text : List ℕ) → i < length numbers → IsStrictlyIncreasing numbers
    → Finds old (HasAskedAmong asked (take i numbers) rows names) → AddsAsked asked text (get_or numbers i 0) old new → At (map row_of rows) (get_or numbers i 0) x → HasEntries names x text → Finds new (HasAskedAmong asked (take (i + 1) numbers) rows names)
finds_asked_number asked rows numbers names old new i x text lt rises so_far adds row has = elim adds [
  | inl is ↦ finds_number old new (λ r q. HasEntries names r q × IsAskedIn asked q) (map row_of rows) numbers i x text lt rises so_far (one_added old new text (get_or numbers i 0) is.1) row (has, is.0) (λ q h. sym has ∙ h.0)
  | inr not ↦ subst (λ l. Finds l (HasAskedAmong asked (take (i + 1) numbers) rows names)) (sym not.1)
      (finds_over_number old (λ r q. HasEntries names r q × IsAskedIn asked q) (map row_of rows) numbers i x lt so_far row (λ q h. not.0 (subst (IsAskedIn asked) (sym h.0 ∙ has) h.1)))
]

-- where all texts are asked for, all rows are found
pub finds_all : (lookup : Lookup) (numbers : List ℕ) (rows : List PlacedRow) (names : List (List ℕ)) → Finds lookup (HasAskedAmong None numbers rows names) → Finds lookup (HasAmong numbers (map row_of rows) (HasEntries names))
finds_all lookup numbers rows names finds = record {
  rising = finds.rising;
  exact = λ q m. (
    λ h. let is = (finds.exact q m).0 h in (is.0, (is.1.0, is.1.1, is.1.2.0)),
    λ h. (finds.exact q m).1 (h.0, (h.1.0, h.1.1, (h.1.2, tt))),
  );
}

-- where the texts of all users are asked for, the rows that have them are found
pub finds_users : (lookup : Lookup) (IsIn : List ℕ → Type 0) (numbers : List ℕ) (rows : List PlacedRow) (of_groups : List LinkPlaces) (place : ℕ) (names : List (List ℕ)) → ((q : List ℕ) → IsAskedOf rows of_groups place q → IsIn q)
    → Finds lookup (HasAmong numbers (map row_of rows) (λ r q. HasEntries names r q × IsIn q)) → FindsAsked lookup (IsAskedOf rows of_groups place) (HasAmong numbers (map row_of rows) (HasEntries names))
finds_users lookup IsIn numbers rows of_groups place names all finds =
    finds_asked lookup (IsAskedOf rows of_groups place) (HasAmong numbers (map row_of rows) (λ r q. HasEntries names r q × IsIn q)) (HasAmong numbers (map row_of rows) (HasEntries names)) finds
    (λ m q asks h. (h.0, (h.1.0, h.1.1, h.1.2.0)))
    (λ m q asks h. (h.0, (h.1.0, h.1.1, (h.1.2, all q asks))))

pub users_ask : (rows : List PlacedRow) (of_groups : List LinkPlaces) (place : ℕ) (users : List ℕ) (asked : Lookup) → HasUsers rows of_groups place users → AreTextsOf rows of_groups users asked → (q : List ℕ) → IsAskedOf rows of_groups place q → found asked q ≡ [] → ⊥
users_ask rows of_groups place users asked uses texts q asks none =
    texts asks.0 asks.1 asks.2 ((uses asks.0).1 (asks.1, asks.2, asks.3)) asks.3.stands asks.3.grouped (ap (found asked) asks.4 ∙ none)

-- ---- the texts that are asked for

empty_left : (xs ys : List ℕ) → xs ++ ys ≡ [] → xs ≡ []
empty_left [] ys e = refl
empty_left (x ∷ xs) ys e = let none : x ∷ (xs ++ ys) ≡ [] = e in absurd cc

-- what is found stays found
stays : (old new : Lookup) (text q : List ℕ) (n : ℕ) → IsAdded old new text n → (found old q ≡ [] → ⊥) → found new q ≡ [] → ⊥
stays old new text q n added some none = some (empty_left (found old q) (cond (bytes_eq text q) (n ∷ []) []) (sym (added q) ∙ none))

-- those found by a sorted look-up
pub texts_found : {E : Type 0} (rows : List PlacedRow) (of_groups : List LinkPlaces) (users : List ℕ) (i : ℕ) (r : Result Lookup E) (old : Lookup) → length users ≤ i → AreTextsOf rows of_groups (take i users) old → IfOk r (λ l. (q : List ℕ) → found l q ≡ found old q)
    → IfOk r (AreTextsOf rows of_groups users)
texts_found rows of_groups users i (Ok l) old le so_far same = λ n row links h at_row at_links none. so_far n row links (subst (λ ns. Contains ns n) (sym (take_all i users le)) h) at_row at_links (sym (same (text_at links.places.items row)) ∙ none)
texts_found rows of_groups users i (Err e) old le so_far same = same

-- one more
pub texts_next : (rows : List PlacedRow) (of_groups : List LinkPlaces) (users : List ℕ) (i : ℕ) (old new : Lookup) (text : List ℕ) → i < length users → AreTextsOf rows of_groups (take i users) old
    → IsLinkText rows of_groups (get_or users i 0) text → IsAdded old new text (get_or users i 0) → AreTextsOf rows of_groups (take (i + 1) users) new
texts_next rows of_groups users i old new text lt so_far is_text added n row links h at_row at_links none = elim (Contains-push_cases (take i users) (get_or users i 0) n (subst (λ l. Contains l n) (take_more users i 0 lt) h)) [
  | inl was ↦ stays old new text (text_at links.places.items row) (get_or users i 0) added (so_far n row links was at_row at_links) none
  | inr is ↦
      let same : text ≡ text_at links.places.items row = is_text row links (subst (λ (j : ℕ). At rows j row) (sym is) at_row) at_links in
      let e : found old (text_at links.places.items row) ++ get_or users i 0 ∷ [] ≡ [] =
      ap (λ b. found old (text_at links.places.items row) ++ cond b (get_or users i 0 ∷ []) []) (sym ((bytes_eq-Decides text (text_at links.places.items row)).1 same)) ∙ sym (added (text_at links.places.items row)) ∙ none in
      omega (arith, ap length e, length_push (found old (text_at links.places.items row)) (get_or users i 0))
]
