-- Where headings are, and what is under them.
use Rattle.std.proofs.Common.{◌≡◌, ℕ, ◌+◌, ◌<◌, Bool, true, false, cond, ltb, Option, Some, None, List, [], ◌∷◌, ◌++◌, length, take, get_or, map, filter, refl, sym, ap, subst, ◌∙◌, arith, inl, inr, ◌⊎◌, ◌↔◌, Contains, Bor, append-nil}
use Rattle.std.specs.Prelude.{is_some}
use Rattle.std.specs.List.{position_or_len}
use Rattle.std.specs.Str.{bytes_eq}
use Rattle.std.proofs.lemmas.Bool.{true≢false, lt-ltb, cases_lt}
use Rattle.std.proofs.lemmas.List.{map-append}
use Rattle.std.proofs.lemmas.List.Sums.{fails_before_first}
use Rattle.std.specs.List.Sorted.{IsPermutation}
use Rattle.std.proofs.lemmas.List.Sorted.{Contains-permutation}
use Rattle.std.proofs.lemmas.List.Quantifiers.{position-Some}
use Rattle.std.proofs.lemmas.Option.{none-some}
use Rattle.std.proofs.lemmas.Simd.{map-map}
use Rattle.std.proofs.lemmas.Slice.Eq.{bytes_eq-Decides}
use Rattle.ags_rows.specs.Contents.{place_in, field_at}
use Rattle.ags_dict.specs.Entries.{Entries, keys_of}
use Rattle.ags_links.specs.DataRows.{DataRow, entry_of}
use Rattle.ags_links.specs.Families.{is_one_of}
use Rattle.ags_links.specs.ParentRows.{AreLinkHeadings}
use Rattle.ags_links.proofs.Kept.{texts, passing_next}
use Rattle.ags_links.proofs.Members.{contains_filter, filter_contains, contains_map, map_contains}

-- ---- whether a name has a place

-- a name of the list has a place
pub placed : (names : List (List ℕ)) (name : List ℕ) → Contains names name → place_in names name ≡ None → ⊥
placed names name h none =
    let test : List ℕ → Bool = λ n. bytes_eq n name in
    elim (cases_lt h.0 (position_or_len test names)) [
      | inl lt ↦
          let fails : bytes_eq (get_or names h.0 name) name ≡ false = fails_before_first test names h.0 name lt in
          true≢false (sym ((bytes_eq-Decides (get_or names h.0 name) name).1 h.2) ∙ fails)
      | inr le ↦
          let found : ltb (position_or_len test names) (length names) ≡ true = lt-ltb (position_or_len test names) (length names) (omega (arith, h.1, le)) in
          none-some (position_or_len test names) (sym none ∙ ap (λ (b : Bool). cond {A = Option ℕ} b (Some (position_or_len test names)) None) found)
    ]

pub place_of : (place : Option ℕ) → ((i : ℕ) × (place ≡ Some i)) ⊎ (place ≡ None)
place_of None = inr refl
place_of (Some i) = inl (i, refl)

-- what has a place is a name, and is at that place
pub at_place : (names : List (List ℕ)) (name : List ℕ) (i : ℕ) → place_in names name ≡ Some i → (i < length names) × (get_or names i name ≡ name)
at_place names name i e =
    let h = position-Some (λ n. bytes_eq n name) names i name e in
    (h.0, (bytes_eq-Decides (get_or names i name) name).0 h.1)

-- a name has a place
pub name_placed : (names : List (List ℕ)) (name : List ℕ) → Contains names name → (i : ℕ) × (place_in names name ≡ Some i)
name_placed names name h = elim (place_of (place_in names name)) [
  | inl k ↦ k
  | inr none ↦ absurd (placed names name h none)
]

among_contains : (names : List (List ℕ)) (name : List ℕ) → is_one_of names name ≡ true → Contains names name
among_contains names name e = elim (place_of (place_in names name)) [
  | inl k ↦ let h = at_place names name k.0 k.1 in (k.0, h.0, h.1)
  | inr none ↦ absurd (true≢false (sym e ∙ ap is_some none))
]

contains_among : (names : List (List ℕ)) (name : List ℕ) → Contains names name → is_one_of names name ≡ true
contains_among names name h = ap is_some (name_placed names name h).1

-- ---- link headings

-- those of a group's headings that are KEY headings of its parent group, in any order
pub link_headings : (entries : Entries) (parent : List ℕ) (headings keys common names : List (List ℕ)) → keys ≡ keys_of entries parent → common ≡ filter (is_one_of keys) headings
    → ((h : List ℕ) → Contains names h ↔ Contains common h) → AreLinkHeadings entries parent headings names
link_headings entries parent headings keys common names of_parent are same = λ h. (
  λ named.
      let k = filter_contains (is_one_of keys) headings h (subst (λ l. Contains l h) are ((same h).0 named)) in
      (subst (λ l. Contains l h) of_parent (among_contains keys h k.1), k.0),
  λ link. (same h).1 (subst (λ l. Contains l h) (sym are) (contains_filter (is_one_of keys) headings h link.1 (contains_among keys h (subst (λ l. Contains l h) (sym of_parent) link.0)))),
)

-- names that change places are the same names
pub texts_permuted : (names moved : List (Bor (List ℕ))) (name : List ℕ) → IsPermutation names moved → Contains (texts names) name → Contains (texts moved) name
texts_permuted names moved name same h =
    let m = map_contains (λ (n : Bor (List ℕ)). n.now) names name h in
    subst (Contains (texts moved)) m.2 (contains_map (λ (n : Bor (List ℕ)). n.now) moved m.0 (Contains-permutation names moved m.0 same m.1))

-- ---- entries

-- what is at the places of headings is what is under the headings
pub entries_at : (row : DataRow) (headings : List (List ℕ)) → map (field_at row.fields) (map (place_in row.headings) headings) ≡ map (entry_of row) headings
entries_at row headings = map-map (field_at row.fields) (place_in row.headings) headings

pub places_named : (headings : List (List ℕ)) (names : List (Bor (List ℕ))) → map (λ n. place_in headings n.now) names ≡ map (place_in headings) (texts names)
places_named headings names = sym (map-map (place_in headings) (λ (n : Bor (List ℕ)). n.now) names)

-- ---- the places of the headings that pass a test

abbrev at_each : (List ℕ → Option ℕ) → (List ℕ → Bool) → List (List ℕ) → List (Option ℕ)
at_each place p headings = map place (filter p headings)

push_cases : (place : List ℕ → Option ℕ) (t : Bool) (xs : List (List ℕ)) (x : List ℕ) → map place (xs ++ cond t (x ∷ []) []) ≡ map place xs ++ cond t (place x ∷ []) []
push_cases place true xs x = map-append place xs (x ∷ [])
push_cases place false xs x = ap (map place) (append-nil xs) ∙ sym (append-nil (map place xs))

at_each_next : (place : List ℕ → Option ℕ) (p : List ℕ → Bool) (headings : List (Bor (List ℕ))) (i : ℕ) (d : Bor (List ℕ)) (t : Bool) → i < length headings → p (get_or headings i d).now ≡ t
    → at_each place p (texts (take (i + 1) headings)) ≡ at_each place p (texts (take i headings)) ++ cond t (place (get_or headings i d).now ∷ []) []
at_each_next place p headings i d t lt tested =
    ap (map place) (passing_next p headings i d t lt tested) ∙ push_cases place t (filter p (texts (take i headings))) (get_or headings i d).now

pub place_taken : (place : List ℕ → Option ℕ) (p : List ℕ → Bool) (old new : List (Option ℕ)) (headings : List (Bor (List ℕ))) (i : ℕ) (d : Bor (List ℕ)) (at : Option ℕ) → i < length headings
    → old ≡ map place (filter p (texts (take i headings))) → p (get_or headings i d).now ≡ true → at ≡ place (get_or headings i d).now → new ≡ old ++ at ∷ [] → new ≡ map place (filter p (texts (take (i + 1) headings)))
place_taken place p old new headings i d at lt so_far passes is grown =
    grown ∙ ap (λ l. l ++ at ∷ []) so_far ∙ ap (λ a. map place (filter p (texts (take i headings))) ++ a ∷ []) is ∙ sym (at_each_next place p headings i d true lt passes)

pub place_passed : (place : List ℕ → Option ℕ) (p : List ℕ → Bool) (old : List (Option ℕ)) (headings : List (Bor (List ℕ))) (i : ℕ) (d : Bor (List ℕ)) → i < length headings
    → old ≡ map place (filter p (texts (take i headings))) → p (get_or headings i d).now ≡ false → old ≡ map place (filter p (texts (take (i + 1) headings)))
place_passed place p old headings i d lt so_far fails =
    so_far ∙ sym (append-nil (map place (filter p (texts (take i headings))))) ∙ sym (at_each_next place p headings i d false lt fails)
