-- Contents are well formed where tests that compute say so.
use Rattle.std.proofs.Common.{◌≡◌, ◌≢◌, ℕ, true, false, Bool, List, [], ◌∷◌, length}
use Rattle.std.specs.Prelude.{nat_eq, not, ◌&&◌}
use Rattle.std.specs.List.{AllByRecursion, IsDistinct, list_all}
use Rattle.std.specs.Str.{bytes_eq}
use Rattle.std.proofs.lemmas.Bool.{and_parts, not-true, eqb-true}
use Rattle.std.proofs.lemmas.Slice.Eq.{bytes_eq-Decides}
use Rattle.std.proofs.lemmas.Map.Made.{AllPairs-from_IsDistinct}
use Rattle.ags_text.specs.Names.{is_group_name, is_heading_name}
use Rattle.ags_rows.specs.Contents.{Contents}
use Rattle.ags_rows.specs.Writing.{IsPlainByte, ArePlain, AreDistinct, AreUnder, AreHeadings, IsWellFormedGroup, IsWellFormed, group_names}
use Rattle.ags_rows.proofs.AtPlaces.{all_by_test}
use Rattle.ags_rows.proofs.Written.{is_plain, plain_from}

-- ---- the tests

abbrev are_plain : List (List ℕ) → Bool
are_plain fields = list_all is_plain fields

abbrev is_filled : {X : Type 0} → List X → Bool
is_filled [] = false
is_filled (x ∷ xs) = true

abbrev are_distinct : List (List ℕ) → Bool
are_distinct [] = true
are_distinct (text ∷ texts) = list_all (λ later. not (bytes_eq text later)) texts && are_distinct texts

abbrev are_under : List (List ℕ) → List (List ℕ) → Bool
are_under headings fields = nat_eq (length fields) (length headings) && are_plain fields

abbrev are_headings : List (List ℕ) → Bool
are_headings headings = is_filled headings && (list_all is_heading_name headings && are_distinct headings)

abbrev is_well_formed_group : Contents → Bool
is_well_formed_group group =
    (is_group_name group.name && are_headings group.headings)
    && ((are_under group.headings group.units && are_under group.headings group.types)
    && (is_filled group.rows && list_all (are_under group.headings) group.rows))

abbrev pub is_well_formed : List Contents → Bool
is_well_formed groups = is_filled groups && (list_all is_well_formed_group groups && are_distinct (group_names groups))

-- ---- what they say

plain_fields : (fields : List (List ℕ)) → are_plain fields ≡ true → ArePlain fields
plain_fields = all_by_test (λ f. AllByRecursion IsPlainByte f) is_plain plain_from

filled : {X : Type 0} (xs : List X) → is_filled xs ≡ true → xs ≢ []
filled [] e = absurd cc
filled (x ∷ xs) e = λ none. absurd cc

distinct : (texts : List (List ℕ)) → are_distinct texts ≡ true → IsDistinct bytes_eq texts
unfolding IsDistinct
distinct [] e = tt
distinct (text ∷ texts) e =
    let parts = and_parts (list_all (λ later. not (bytes_eq text later)) texts) (are_distinct texts) e in (
      all_by_test (λ later. bytes_eq text later ≡ false) (λ later. not (bytes_eq text later)) (λ later. not-true (bytes_eq text later)) texts parts.0,
      distinct texts parts.1,
    )

once : (texts : List (List ℕ)) → are_distinct texts ≡ true → AreDistinct texts
once texts e = AllPairs-from_IsDistinct bytes_eq-Decides texts (distinct texts e)

under : (headings fields : List (List ℕ)) → are_under headings fields ≡ true → AreUnder headings fields
under headings fields e =
    let parts = and_parts (nat_eq (length fields) (length headings)) (are_plain fields) e in
    record { count = eqb-true (length fields) (length headings) parts.0; plain = plain_fields fields parts.1 }

headings_formed : (headings : List (List ℕ)) → are_headings headings ≡ true → AreHeadings headings
headings_formed headings e =
    let parts = and_parts (is_filled headings) (list_all is_heading_name headings && are_distinct headings) e in
    let rest = and_parts (list_all is_heading_name headings) (are_distinct headings) parts.1 in
    record {
      some = filled headings parts.0;
      named = all_by_test (λ h. is_heading_name h ≡ true) is_heading_name (λ h is. is) headings rest.0;
      once = once headings rest.1;
    }

group_formed : (group : Contents) → is_well_formed_group group ≡ true → IsWellFormedGroup group
group_formed group e =
    let parts = and_parts _ _ e in
    let front = and_parts _ _ parts.0 in
    let back = and_parts _ _ parts.1 in
    let middle = and_parts _ _ back.0 in
    let rows = and_parts _ _ back.1 in
    record {
      name = front.0;
      headings = headings_formed group.headings front.1;
      units = under group.headings group.units middle.0;
      types = under group.headings group.types middle.1;
      some_rows = filled group.rows rows.0;
      rows = all_by_test (AreUnder group.headings) (are_under group.headings) (under group.headings) group.rows rows.1;
    }

-- contents that pass the tests are well formed
pub formed_by_test : (groups : List Contents) → is_well_formed groups ≡ true → IsWellFormed groups
formed_by_test groups e =
    let parts = and_parts (is_filled groups) (list_all is_well_formed_group groups && are_distinct (group_names groups)) e in
    let rest = and_parts (list_all is_well_formed_group groups) (are_distinct (group_names groups)) parts.1 in
    record {
      some = filled groups parts.0;
      each = all_by_test IsWellFormedGroup is_well_formed_group group_formed groups rest.0;
      names_once = once (group_names groups) rest.1;
    }
