-- The parts of record links: of all that is in a row, and each once.
use Rattle.std.proofs.Common.{◌≡◌, ℕ, ◌+◌, ◌<◌, ◌≤◌, List, [], ◌∷◌, ◌++◌, length, get_or, map, Option, Some, sym, ap, subst, ◌∙◌, arith, inl, inr, ◌↔◌, Contains, codes}
use Rattle.std.specs.Str.{bytes_eq}
use Rattle.std.proofs.lemmas.Bool.{cases_lt}
use Rattle.std.proofs.lemmas.Slice.Eq.{bytes_eq-Decides}
use Rattle.std.proofs.lemmas.List.{get_or_default}
use Rattle.std.proofs.lemmas.List.Elements.{Contains-push, Contains-push_cases, Contains-append_left, Contains-append_right, Contains-append_cases}
use Rattle.ags_rows.specs.Contents.{place_in, field_at, under}
use Rattle.ags_rows.specs.Parts.{parts_at}
use Rattle.ags_links.specs.DataRows.{DataRow}
use Rattle.ags_links.specs.Families.{record_links}
use Rattle.ags_links.specs.Placing.{IsPartAmong}
use Rattle.ags_links.specs.Steps.{IsLinkedPart}
use Rattle.ags_links.specs.declared.separators.Separators.{Separators}
use Rattle.ags_links.proofs.Heading.{at_place, name_placed}
use Rattle.ags_links.proofs.Members.{contains_map, map_contains, contains_filter, filter_contains}

-- ---- the parts of what is at some places

-- these are the parts of what is at the places
abbrev pub ArePartsAt : ℕ → DataRow → List (Option ℕ) → List (List ℕ) → Type 0
ArePartsAt separator row places parts = (part : List ℕ) → Contains parts part ↔ IsPartAmong separator row places part

pub next_place : (separator : ℕ) (row : DataRow) (places : List (Option ℕ)) (old new : List (List ℕ)) (place : Option ℕ) → ArePartsAt separator row places old → (field_at row.fields place ≡ [] → ⊥)
    → new ≡ old ++ parts_at separator (field_at row.fields place) → ArePartsAt separator row (places ++ place ∷ []) new
next_place separator row places old new place so_far some e part = (
  λ h. elim (Contains-append_cases old (parts_at separator (field_at row.fields place)) part (subst (λ ps. Contains ps part) e h)) [
    | inl was ↦ let k = (so_far part).0 was in (k.0, Contains-append_left places (place ∷ []) k.0 k.1, k.2, k.3)
    | inr here ↦ (place, Contains-push places place, some, here)
  ],
  λ h. subst (λ ps. Contains ps part) (sym e) (elim (Contains-push_cases places place h.0 h.1) [
    | inl was ↦ Contains-append_left old (parts_at separator (field_at row.fields place)) part ((so_far part).1 (h.0, was, h.2, h.3))
    | inr is ↦ Contains-append_right old (parts_at separator (field_at row.fields place)) part (subst (λ p. Contains (parts_at separator (field_at row.fields p)) part) (sym is) h.3)
  ]),
)

pub null_place : (separator : ℕ) (row : DataRow) (places : List (Option ℕ)) (old : List (List ℕ)) (place : Option ℕ) → ArePartsAt separator row places old → field_at row.fields place ≡ [] → ArePartsAt separator row (places ++ place ∷ []) old
null_place separator row places old place so_far null part = (
  λ h. let k = (so_far part).0 h in (k.0, Contains-append_left places (place ∷ []) k.0 k.1, k.2, k.3),
  λ h. elim (Contains-push_cases places place h.0 h.1) [
    | inl was ↦ (so_far part).1 (h.0, was, h.2, h.3)
    | inr is ↦ absurd (h.2 (ap (field_at row.fields) (sym is) ∙ null))
  ],
)

-- the row's record links are at the places of the headings of type RL
pub linked_part : (separators : Separators) (row : DataRow) (links : List (Option ℕ)) (part : List ℕ) → links ≡ map (place_in row.headings) (record_links row.headings row.types)
    → IsPartAmong separators.concatenator row links part ↔ IsLinkedPart separators row part
linked_part separators row links part e = (
  λ h.
      let from = map_contains (place_in row.headings) (record_links row.headings row.types) h.0 (subst (λ ls. Contains ls h.0) e h.1) in
      let passed = filter_contains (λ g. bytes_eq (under row.headings row.types g) (codes "RL")) row.headings from.0 from.1 in (
        from.0,
        (passed.0, (bytes_eq-Decides (under row.headings row.types from.0) (codes "RL")).0 passed.1, subst (λ p. field_at row.fields p ≡ [] → ⊥) (sym from.2) h.2),
        subst (λ p. Contains (parts_at separators.concatenator (field_at row.fields p)) part) (sym from.2) h.3,
      ),
  λ h.
      let passes = contains_filter (λ g. bytes_eq (under row.headings row.types g) (codes "RL")) row.headings h.0 h.1.0 ((bytes_eq-Decides (under row.headings row.types h.0) (codes "RL")).1 h.1.1) in (
        place_in row.headings h.0,
        subst (λ ls. Contains ls (place_in row.headings h.0)) (sym e) (contains_map (place_in row.headings) (record_links row.headings row.types) h.0 passes),
        h.1.2,
        h.2,
      ),
)

-- ---- each text once

-- each text whose first place is before the next place is taken, and no other
pub record TakesFirst (texts : List (List ℕ)) (next : ℕ) (once : List (List ℕ)) : Type 0 where
  pub only : (text : List ℕ) → Contains once text → Contains texts text
  pub each : (text : List ℕ) (place : ℕ) → place_in texts text ≡ Some place → place < next → Contains once text

pub first_taken : (texts once new : List (List ℕ)) (i : ℕ) (text : List ℕ) → TakesFirst texts i once → Contains texts text → (place_in texts text ≡ Some i) → new ≡ once ++ text ∷ [] → TakesFirst texts (i + 1) new
first_taken texts once new i text so_far stands is e = record {
  only = λ other h. elim (Contains-push_cases once text other (subst (λ ts. Contains ts other) e h)) [ inl was ↦ so_far.only other was | inr same ↦ subst (Contains texts) same stands ];
  each = λ other place at lt. subst (λ ts. Contains ts other) (sym e) (elim (cases_lt place i) [
    | inl earlier ↦ Contains-append_left once (text ∷ []) other (so_far.each other place at earlier)
    | inr last ↦
        let same : place ≡ i = omega (arith, last, lt) in
        let there = at_place texts other i (at ∙ ap (λ p. Some p) same) in
        let here = at_place texts text i is in
        let one : text ≡ other = sym here.1 ∙ get_or_default texts i text other here.0 ∙ there.1 in
        subst (Contains (once ++ text ∷ [])) one (Contains-push once text)
  ]);
}

pub later_passed : (texts once : List (List ℕ)) (i : ℕ) (text : List ℕ) → TakesFirst texts i once → get_or texts i text ≡ text → (place_in texts text ≡ Some i → ⊥) → TakesFirst texts (i + 1) once
later_passed texts once i text so_far here later = record {
  only = so_far.only;
  each = λ other place at lt. elim (cases_lt place i) [
    | inl earlier ↦ so_far.each other place at earlier
    | inr last ↦
        let same : place ≡ i = omega (arith, last, lt) in
        let there = at_place texts other i (at ∙ ap (λ p. Some p) same) in
        let one : other ≡ text = sym there.1 ∙ get_or_default texts i other text there.0 ∙ here in
        absurd (later (ap (place_in texts) (sym one) ∙ at ∙ ap (λ p. Some p) same))
  ];
}

pub all_taken : (texts once : List (List ℕ)) (i : ℕ) → length texts ≤ i → TakesFirst texts i once → (text : List ℕ) → Contains once text ↔ Contains texts text
all_taken texts once i past taken text = (
  taken.only text,
  λ h.
      let at = name_placed texts text h in
      let within = at_place texts text at.0 at.1 in
      taken.each text at.0 at.1 (omega (arith, within.0, past)),
)
