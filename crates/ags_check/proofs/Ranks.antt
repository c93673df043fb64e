-- The latest place so far.
use Rattle.std.proofs.Common.{◌≡◌, ℕ, ◌+◌, ◌<◌, ◌≤◌, true, Option, Some, None, List, max, refl, sym, ap, subst, ◌∙◌, arith, inl, inr}
use Rattle.std.proofs.lemmas.Bool.{true≢false, cases_lt, lt-ltb, ltb-true}
use Rattle.std.proofs.lemmas.Option.{none-some, same_Some}
use Rattle.ags_rows.specs.Collecting.{At}
use Rattle.ags_rows.proofs.Lemmas.{before_or_at, at_same}
use Rattle.ags_rows.specs.Contents.{place_in}
use Rattle.ags_check.specs.HeaderSteps.{later, is_before_latest, IsOvertaken}

-- the latest place of the names before the end, none where none has a place
abbrev pub IsLatest : (List ℕ → Option ℕ) → List (List ℕ) → ℕ → Option ℕ → Type 0
IsLatest rank names end None = (place : ℕ) (name : List ℕ) → place < end → At names place name → rank name ≡ None
IsLatest rank names end (Some latest) =
    ((place : ℕ) (name : List ℕ) (this : ℕ) → place < end → At names place name → rank name ≡ Some this → this ≤ latest)
    × ((place : ℕ) × (name : List ℕ) × (place < end) × At names place name × (rank name ≡ Some latest))

pub latest_none : (rank : List ℕ → Option ℕ) (names : List (List ℕ)) → IsLatest rank names 0 None
latest_none rank names = λ place name lt at. absurd (omega (arith, lt))

-- the name at the place is the last of those before the next
here : (names : List (List ℕ)) (i place : ℕ) (name other : List ℕ) → At names i name → place ≡ i → At names place other → other ≡ name
here names i place name other at e at_other = at_same names i other name (subst (λ (k : ℕ). At names k other) e at_other) at

latest_next : (rank : List ℕ → Option ℕ) (names : List (List ℕ)) (i : ℕ) (name : List ℕ) (latest this : Option ℕ) → At names i name → rank name ≡ this
    → IsLatest rank names i latest → IsLatest rank names (i + 1) (later latest this)
latest_next rank names i name None None at e h = λ place other lt at_other. elim (before_or_at place i lt) [
  | inl below ↦ h place other below at_other
  | inr same ↦ ap rank (here names i place name other at same at_other) ∙ e
]
latest_next rank names i name None (Some r) at e h = (
  λ place other this lt at_other ranked. elim (before_or_at place i lt) [
    | inl below ↦ absurd (none-some this (sym (h place other below at_other) ∙ ranked))
    | inr same ↦ let is : r ≡ this = same_Some r this (sym e ∙ ap rank (sym (here names i place name other at same at_other)) ∙ ranked) in omega (arith, is)
  ],
  (i, name, omega arith, at, e),
)
latest_next rank names i name (Some l) None at e h = (
  λ place other this lt at_other ranked. elim (before_or_at place i lt) [
    | inl below ↦ h.0 place other this below at_other ranked
    | inr same ↦ absurd (none-some this (sym e ∙ ap rank (sym (here names i place name other at same at_other)) ∙ ranked))
  ],
  (h.1.0, h.1.1, omega (arith, h.1.2), h.1.3, h.1.4),
)
latest_next rank names i name (Some l) (Some r) at e h = (
  λ place other this lt at_other ranked. elim (before_or_at place i lt) [
    | inl below ↦ let le : this ≤ l = h.0 place other this below at_other ranked in omega (arith, le)
    | inr same ↦ let is : r ≡ this = same_Some r this (sym e ∙ ap rank (sym (here names i place name other at same at_other)) ∙ ranked) in omega (arith, is)
  ],
  elim (cases_lt l r) [
    | inl lt ↦ let top : r ≡ max l r = omega (arith, lt) in (i, name, omega arith, at, e ∙ ap Some top)
    | inr le ↦ let top : l ≡ max l r = omega (arith, le) in (h.1.0, h.1.1, omega (arith, h.1.2), h.1.3, h.1.4 ∙ ap Some top)
  ],
)

-- one name more
pub latest_more : (rank : List ℕ → Option ℕ) (names : List (List ℕ)) (i : ℕ) (name : List ℕ) (latest : Option ℕ) → At names i name
    → IsLatest rank names i latest → IsLatest rank names (i + 1) (later latest (rank name))
latest_more rank names i name latest at h = latest_next rank names i name latest (rank name) at refl h

before_then : (order names : List (List ℕ)) (i : ℕ) (name : List ℕ) (latest this : Option ℕ) → place_in order name ≡ this
    → IsLatest (place_in order) names i latest → is_before_latest this latest ≡ true → IsOvertaken order names i name
before_then order names i name latest None e h b = absurd (true≢false (sym b))
before_then order names i name None (Some r) e h b = absurd (true≢false (sym b))
before_then order names i name (Some l) (Some r) e h b = (h.1.0, h.1.1, h.1.2, h.1.3, (r, l, e, h.1.4, ltb-true r l b))

-- a name whose place is before the latest one is overtaken
pub before_overtaken : (order names : List (List ℕ)) (i : ℕ) (name : List ℕ) (latest : Option ℕ)
    → IsLatest (place_in order) names i latest → is_before_latest (place_in order name) latest ≡ true → IsOvertaken order names i name
before_overtaken order names i name latest h b = before_then order names i name latest (place_in order name) refl h b

-- and only such a name is
pub overtaken_before : (order names : List (List ℕ)) (i : ℕ) (name : List ℕ) (latest : Option ℕ)
    → IsLatest (place_in order) names i latest → IsOvertaken order names i name → is_before_latest (place_in order name) latest ≡ true
overtaken_before order names i name None h o = absurd (none-some o.4.1 (sym (h o.0 o.1 o.2 o.3) ∙ o.4.3))
overtaken_before order names i name (Some l) h o =
    let le : o.4.1 ≤ l = h.0 o.0 o.1 o.4.1 o.2 o.3 o.4.3 in
    ap (λ (p : Option ℕ). is_before_latest p (Some l)) o.4.2 ∙ lt-ltb o.4.0 l (omega (arith, le, o.4.4))
