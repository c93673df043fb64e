-- From what is noted of names to the rules of the HEADING row.
use Rattle.std.proofs.Common.{◌≡◌, ℕ, Option, Some, None, List, refl, sym, ap, subst, inl, inr, true≢false}
use Rattle.std.specs.Prelude.{Contains, IsSome, is_some}
use Rattle.ags_rows.specs.declared.code.Code.{Code}
use Rattle.ags_rows.specs.declared.finding.Finding.{Finding}
use Rattle.ags_rows.specs.declared.rows.Group.{Group}
use Rattle.ags_rows.specs.Collecting.{At, Adds}
use Rattle.ags_rows.specs.Contents.{place_in, group_contents}
use Rattle.ags_dict.specs.Entries.{Entries, order_of}
use Rattle.ags_links.proofs.Lemmas.{placed, place_of, at_place}
use Rattle.ags_check.specs.Header.{IsMisplaced, IsMisnamed}
use Rattle.ags_check.specs.HeaderSteps.{IsOvertaken, IsMisnamedBy}
use Rattle.ags_check.specs.Placing.{AtNames, AtHeading}
use Rattle.ags_rows.proofs.Lemmas.{contains_at, at_contained}
use Rattle.ags_check.proofs.Naming.{at_heading}

-- ---- whether a name has a place

-- a place has the name
pub has_place : (names : List (List ℕ)) (name : List ℕ) (i : ℕ) → place_in names name ≡ Some i → Contains names name
has_place names name i e = let h = at_place names name i e in (i, h.0, h.1)

pub unplaced : (names : List (List ℕ)) (name : List ℕ) → (Contains names name → ⊥) → place_in names name ≡ None
unplaced names name absent = elim (place_of (place_in names name)) [
  | inl h ↦ absurd (absent (has_place names name h.0 h.1))
  | inr e ↦ e
]

-- in this list, and not in that one
abbrev pub OnlyIn : List (List ℕ) → List (List ℕ) → List ℕ → Type 0
OnlyIn this that name = Contains this name × ¬ (Contains that name)

-- ---- the rules

-- what is noted of the names of one list that are not in another
pub only_in : (group : Group) (code : Code) (names listed that : List (List ℕ)) (old new : List Finding) → names ≡ listed
    → Adds (AtNames group.heading_line code names (λ _ name. place_in that name ≡ None)) old new → Adds (AtHeading code (OnlyIn listed that) group) old new
only_in group code names listed that old new same x =
    at_heading names group code (λ _ name. place_in that name ≡ None) (OnlyIn listed that) old new
    (λ place name at none. (subst (λ (l : List (List ℕ)). Contains l name) same (contains_at names place name at), λ h. placed that name h none))
    (λ name rule.
    let h = subst (λ (l : List (List ℕ)). Contains l name) (sym same) rule.0 in
    (h.0, at_contained names name h, unplaced that name rule.1))
    x

pub misplaced_rule : (entries : Entries) (group : Group) (code : Code) (names : List (List ℕ)) (old new : List Finding) → names ≡ group.headings
    → Adds (AtNames group.heading_line code names (IsOvertaken (order_of entries group.name) names)) old new
    → Adds (AtHeading code (IsMisplaced (order_of entries group.name) group.headings) group) old new
misplaced_rule entries group code names old new same x =
    let order = order_of entries group.name in
    at_heading names group code (IsOvertaken order names) (IsMisplaced (order_of entries group.name) group.headings) old new
    (λ place name at o.
    let stands = subst (λ (l : List (List ℕ)). At l place name) same at in
    let other_stands = subst (λ (l : List (List ℕ)). At l o.0 o.1) same o.3 in
    (place, o.0, o.1, stands, other_stands, o.2, o.4))
    (λ name rule.
    let stands = subst (λ (l : List (List ℕ)). At l rule.0 name) (sym same) rule.3 in
    let other_stands = subst (λ (l : List (List ℕ)). At l rule.1 rule.2) (sym same) rule.4 in
    (rule.0, stands, (rule.1, rule.2, rule.5, other_stands, rule.6)))
    x

pub some_there : {X : Type 0} (o : Option X) → IsSome o → (x : X) × (o ≡ Some x)
some_there None h = absurd (true≢false (sym h))
some_there (Some x) h = (x, refl)

pub has_some : (names : List (List ℕ)) (name : List ℕ) → Contains names name → IsSome (place_in names name)
has_some names name h = elim (place_of (place_in names name)) [
  | inl k ↦ ap is_some k.1
  | inr e ↦ absurd (placed names name h e)
]

pub misnamed_rule : (given entries : Entries) (group : Group) (code : Code) (names : List (List ℕ)) (old new : List Finding) → names ≡ group.headings
    → Adds (AtNames group.heading_line code names (λ _ name. IsMisnamedBy given entries group.name name)) old new
    → Adds (AtHeading code (IsMisnamed given entries (group_contents group)) group) old new
misnamed_rule given entries group code names old new same x =
    let order = order_of entries group.name in
    let given_order = order_of given group.name in
    at_heading names group code (λ _ name. IsMisnamedBy given entries group.name name) (IsMisnamed given entries (group_contents group)) old new
    (λ place name at m.
    let some = some_there (place_in order name) m.known in
    let stands = subst (λ (l : List (List ℕ)). Contains l name) same (contains_at names place name at) in
    (stands, (has_place order name some.0 some.1, λ h. placed given_order name h m.own), m.other_name, m.nowhere_else))
    (λ name rule.
    let h = subst (λ (l : List (List ℕ)). Contains l name) (sym same) rule.0 in (
      h.0,
      at_contained names name h,
      record { known = has_some order name rule.1.0; own = unplaced given_order name rule.1.1; other_name = rule.2; nowhere_else = rule.3 },
    ))
    x
