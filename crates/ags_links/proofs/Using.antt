-- Which rows have their parent rows in one look-up.
use Rattle.std.proofs.Common.{◌≡◌, ℕ, ◌+◌, ◌<◌, ◌≤◌, ◌↔◌, List, [], ◌∷◌, ◌++◌, Vec, length, get_or, set, All, Contains, refl, sym, ap, subst, ◌∙◌, arith, inl, inr}
use Rattle.std.specs.declared.alloc.Global.{Global}
use Rattle.std.proofs.lemmas.Bool.{cases_eq, cases_lt}
use Rattle.std.proofs.lemmas.List.{get_or-set_same, get_or-set_other, length-map, length-set}
use Rattle.std.proofs.lemmas.List.Elements.{Contains-append_left, Contains-get_or, Contains-push, Contains-push_cases}
use Rattle.ags_dict.specs.Entries.{Entries}
use Rattle.ags_links.specs.declared.families.Family.{Family}
use Rattle.ags_links.specs.declared.parents.ParentLinks.{ParentLinks}
use Rattle.ags_links.specs.declared.parents.LinkPlaces.{LinkPlaces}
use Rattle.ags_links.specs.declared.placed.PlacedRow.{PlacedRow}
use Rattle.ags_rows.specs.Collecting.{At}
use Rattle.ags_links.specs.Families.{AreKept, HasFamily}
use Rattle.ags_links.specs.ParentRows.{HasPlaces, HasUsers, HaveUsers, IsAskedOf, IsPlacedAt, IsUser, text_at, texts_in}
use Rattle.ags_links.proofs.Heading.{at_place}
use Rattle.ags_links.proofs.RowLemmas.{one_at, some_at}

-- the lists have exactly those of the rows before this one that have their parent rows in each look-up
abbrev pub UsersBefore : List PlacedRow → List LinkPlaces → ℕ → List (Vec ℕ Global) → Type 0
UsersBefore rows of_groups i users = (l : ℕ) (d : Vec ℕ Global) → l < length users → (n : ℕ) → Contains (get_or users l d).items n ↔ ((n < i) × IsUser rows of_groups l n)

-- all of them
pub all_users : (rows : List PlacedRow) (of_groups : List LinkPlaces) (i : ℕ) (users : List (Vec ℕ Global)) → length rows ≤ i → UsersBefore rows of_groups i users → HaveUsers rows of_groups users
all_users rows of_groups i users le so_far l d lt n = (
  λ h. ((so_far l d lt n).0 h).1,
  λ h. (so_far l d lt n).1 (omega (arith, h.2.stands.0, le), h),
)

-- the users of a look-up are rows
pub users_below : (rows : List PlacedRow) (of_groups : List LinkPlaces) (lookup : ℕ) (users : List ℕ) → HasUsers rows of_groups lookup users → All (λ n. n < length rows) users
users_below rows of_groups lookup users has k d lt = ((has (get_or users k d)).0 (Contains-get_or users k d lt)).2.stands.0

-- the users of one look-up
pub users_at : (rows : List PlacedRow) (of_groups : List LinkPlaces) (place : ℕ) (users : List (Vec ℕ Global)) (v : Vec ℕ Global) (listed : List ℕ) → HaveUsers rows of_groups users → place < length users → v ≡ get_or users place v → listed ≡ v.items
    → HasUsers rows of_groups place listed
users_at rows of_groups place users v listed have lt is same = subst (HasUsers rows of_groups place) (sym (same ∙ ap (λ (w : Vec ℕ Global). w.items) is)) (have place v lt)

-- one more row
pub users_next : (rows : List PlacedRow) (of_groups : List LinkPlaces) (users : List (Vec ℕ Global)) (i : ℕ) (x : PlacedRow) (k : LinkPlaces) (before after : Vec ℕ Global) → UsersBefore rows of_groups i users → At rows i x → At of_groups x.place k
    → k.lookup < length users → before ≡ get_or users k.lookup before → after.items ≡ before.items ++ i ∷ [] → UsersBefore rows of_groups (i + 1) (set users k.lookup after)
users_next rows of_groups users i x k before after so_far at_x at_k below was grown l d lt n =
    let inside : l < length users = omega (arith, lt, length-set users k.lookup after) in
    elim (cases_eq l k.lookup) [
      | inl e ↦ rw e (subst (λ (v : Vec ℕ Global). Contains v.items n ↔ ((n < i + 1) × IsUser rows of_groups k.lookup n)) (sym (get_or-set_same users k.lookup after d below)) (subst (λ ns. Contains ns n ↔ ((n < i + 1) × IsUser rows of_groups k.lookup n)) (sym grown) here))
      | inr other ↦ subst (λ (v : Vec ℕ Global). Contains v.items n ↔ ((n < i + 1) × IsUser rows of_groups l n)) (sym (get_or-set_other users k.lookup l after d other)) (
        λ h. let is = (so_far l d inside n).0 h in (omega (arith, is.0), is.1),
        λ h. elim (cases_lt n i) [
          | inl earlier ↦ (so_far l d inside n).1 (earlier, h.1)
          | inr late ↦ absurd (other (uses l n h.1 (omega (arith, late, h.0))))
        ],
      )
    ] where
      old : (n : ℕ) → Contains before.items n ↔ ((n < i) × IsUser rows of_groups k.lookup n)
      old n = subst (λ (v : Vec ℕ Global). Contains v.items n ↔ ((n < i) × IsUser rows of_groups k.lookup n)) (sym was) (so_far k.lookup before below n)

      here : Contains (before.items ++ i ∷ []) n ↔ ((n < i + 1) × IsUser rows of_groups k.lookup n)
      here = (
        λ h. elim (Contains-push_cases before.items i n h) [
          | inl earlier ↦ let is = (old n).0 earlier in (omega (arith, is.0), is.1)
          | inr last ↦ (omega (arith, last), subst (IsUser rows of_groups k.lookup) last (x, k, record { stands = at_x; grouped = at_k; uses = refl }))
        ],
        λ h. elim (cases_lt n i) [
          | inl earlier ↦ Contains-append_left before.items (i ∷ []) n ((old n).1 (earlier, h.1))
          | inr late ↦ let e : i ≡ n = omega (arith, late, h.0) in subst (Contains (before.items ++ i ∷ [])) e (Contains-push before.items i)
        ],
      )

      uses : (l n : ℕ) → IsUser rows of_groups l n → i ≡ n → l ≡ k.lookup
      uses l n is e =
          let row_is : is.0 ≡ x = one_at rows i is.0 x (subst (λ j. At rows j is.0) (sym e) is.2.stands) at_x in
          let links_are : is.1 ≡ k = one_at of_groups x.place is.1 k (subst (λ (r : PlacedRow). At of_groups r.place is.1) row_is is.2.grouped) at_k in
          sym is.2.uses ∙ ap (λ (j : LinkPlaces). j.lookup) links_are

-- each row's group has link places, and a look-up
pub have_places : (entries : Entries) (families : List Family) (links : List ParentLinks) (texts : List (List ℕ)) (of_groups : List LinkPlaces) (rows : List PlacedRow) → All (HasFamily entries families) rows → length families ≡ length links → texts ≡ texts_in links
    → AreKept links of_groups (IsPlacedAt families texts) → All (HasPlaces of_groups) rows
have_places entries families links texts of_groups rows have size are placed i d lt =
    let row = get_or rows i d in
    let below : row.place < length families = (have i d lt).0 in (
      omega (arith, below, size, placed.each_has),
      λ k at.
          let l = some_at links row.place (omega (arith, below, size)) in
          let first = at_place texts l.0.text.items k.lookup (placed.each row.place l.0 k l.1 at).1 in
          omega (arith, first.0, ap length are, length-map links (λ (j : ParentLinks). j.text.items), placed.each_has),
    )

-- lists of few rows
pub no_user : (users : List ℕ) → length users < 1 → users ≡ []
no_user [] lt = refl
no_user (m ∷ users) lt = absurd (omega (arith, lt))

pub one_user : (users : List ℕ) → 1 ≤ length users → length users < 2 → users ≡ get_or users 0 0 ∷ []
one_user [] le lt = absurd (omega (arith, le))
one_user (m ∷ []) le lt = refl
one_user (m ∷ n ∷ users) le lt = absurd (omega (arith, lt))

-- a look-up that one row uses is asked for that row's text
pub one_asked : (rows : List PlacedRow) (of_groups : List LinkPlaces) (lookup m : ℕ) (x : PlacedRow) (k : LinkPlaces) (text : List ℕ) → HasUsers rows of_groups lookup (m ∷ []) → At rows m x → At of_groups x.place k → IsAskedOf rows of_groups lookup text → text_at k.places.items x ≡ text
one_asked rows of_groups lookup m x k text users at_x at_k asked =
    let n = asked.0 in
    let row = asked.1 in
    let links = asked.2 in
    let is = asked.3 in
    let same : m ≡ n = only ((users n).1 (row, links, is)) in
    let row_is : x ≡ row = one_at rows n x row (subst (λ j. At rows j x) same at_x) is.stands in
    let links_are : k ≡ links = one_at of_groups row.place k links (subst (λ (r : PlacedRow). At of_groups r.place k) row_is at_k) is.grouped in
    ap (λ (j : LinkPlaces). text_at j.places.items x) links_are ∙ ap (text_at links.places.items) row_is ∙ asked.4 where
      only : Contains (m ∷ []) asked.0 → m ≡ asked.0
      only h = elim (Contains-push_cases [] m asked.0 h) [ inl none ↦ absurd (omega (arith, none.1)) | inr is ↦ is ]

-- one that no row uses is asked for none
pub none_asked : (rows : List PlacedRow) (of_groups : List LinkPlaces) (lookup : ℕ) (text : List ℕ) → HasUsers rows of_groups lookup [] → IsAskedOf rows of_groups lookup text → ⊥
none_asked rows of_groups lookup text users asked = omega (arith, ((users asked.0).1 (asked.1, asked.2, asked.3)).1)
