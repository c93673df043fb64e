-- Names that were met, and names that come earlier in their list.
use Rattle.std.proofs.Common.{◌≡◌, ℕ, ◌+◌, Bool, true, false, cond, eqb, nat_cmp, List, [], ◌∷◌, length, Option, Some, refl, sym, ap, subst, ◌∙◌, arith, inl, inr}
use Rattle.std.specs.Prelude.{◌⊎◌, ◌↔◌, is_some}
use Rattle.std.specs.Str.{bytes_eq}
use Rattle.std.specs.Borrow.{Bor}
use Rattle.std.specs.BTreeMap.{BTreeMap, UpdatesBy}
use Rattle.std.specs.Cmp.Lexicographic.{slice_cmp}
use Rattle.std.proofs.lemmas.Bool.{eqb-true, eq-eqb}
use Rattle.std.proofs.lemmas.List.{nil_from_length}
use Rattle.std.proofs.lemmas.Slice.Eq.{bytes_eq-Decides}
use Rattle.std.proofs.lemmas.Map.Text.{btree_map_updates_str}
use Rattle.ags_rows.specs.declared.code.Code.{Code}
use Rattle.ags_rows.specs.declared.code.Code.TheVariants.{Rule19, Rule19a, P1, P2}
use Rattle.ags_rows.specs.declared.finding.Finding.{Finding}
use Rattle.ags_rows.specs.declared.rows.Group.{Group}
use Rattle.ags_text.specs.Names.{is_group_name, is_heading_name}
use Rattle.ags_rows.specs.Collecting.{At, Adds, Notes, OneOf}
use Rattle.ags_rows.specs.Stands.{IsRepeat, shape_rules, group_rules}
use Rattle.ags_rows.specs.Parsing.{IsMet, met_rules, StandsInHeadings}
use Rattle.ags_rows.proofs.Collecting.{adds_same, before_or_at}
use Rattle.ags_rows.proofs.AtPlaces.{at_same}

-- ---- lists without items

pub empties : {X : Type 0} (xs : List X) (b : Bool) → b ≡ eqb (length xs) 0 → b ≡ true → xs ≡ []
empties xs b is e = nil_from_length xs (eqb-true (length xs) 0 (sym is ∙ e))

pub empty : {X : Type 0} (xs : List X) (b : Bool) → b ≡ eqb (length xs) 0 → xs ≡ [] → b ≡ true
empty xs b is e = is ∙ eq-eqb (length xs) 0 (ap length e)

-- ---- one name more

-- a key that was put in is among the keys, and so are those that were there
pub put_in : {X : Type 0} (name other : List ℕ) (x : X) (there : Option X) → (is_some (cond (bytes_eq name other) (Some x) there) ≡ true) ↔ ((name ≡ other) ⊎ (is_some there ≡ true))
put_in {X} name other x there = by_test (bytes_eq name other) (bytes_eq-Decides name other) where
  by_test : (b : Bool) → (b ≡ true → name ≡ other) × (name ≡ other → b ≡ true) → (is_some (cond b (Some x) there) ≡ true) ↔ ((name ≡ other) ⊎ (is_some there ≡ true))
  by_test true d = (λ h. inl (d.0 refl), λ h. refl)
  by_test false d = (λ h. inr h, λ h. elim h [ inl e ↦ absurd (let z : false ≡ true = d.1 e in cc) | inr k ↦ k ])

-- a name that is put in is met from then on
pub met_after : (name : List ℕ) (met new : BTreeMap (Bor (List ℕ)) (Unit {0})) → UpdatesBy (λ x y. slice_cmp nat_cmp x.now y.now) (λ key. slice_cmp nat_cmp name key.now) met new (Some tt)
    → (other : List ℕ) → IsMet new other ↔ ((name ≡ other) ⊎ IsMet met other)
met_after name met new updates other =
    subst (λ o. (is_some o ≡ true) ↔ ((name ≡ other) ⊎ IsMet met other)) (sym (btree_map_updates_str name met new _ updates other)) (put_in name other tt _)

-- what was met before one more name, and after it
pub repeat_more : (names : List (List ℕ)) (i : ℕ) (name : List ℕ) (Old New : List ℕ → Type 0) → At names i name → ((q : List ℕ) → Old q ↔ IsRepeat names i q)
    → ((q : List ℕ) → New q ↔ ((name ≡ q) ⊎ Old q)) → (q : List ℕ) → New q ↔ IsRepeat names (i + 1) q
repeat_more names i name Old New at before more q = (
  λ n. elim ((more q).0 n) [
    | inl e ↦ (i, omega arith, subst (At names i) e at)
    | inr m ↦ let r = (before q).0 m in (r.0, omega (arith, r.1), r.2)
  ],
  λ r. elim (before_or_at r.0 i r.1) [
    | inl lt ↦ (more q).1 (inr ((before q).1 (r.0, lt, r.2)))
    | inr e ↦ (more q).1 (inl (at_same names i name q at (subst (λ (k : ℕ). At names k q) e r.2)))
  ],
)

-- ---- the same rules in other words

-- of a name at a place of a list: that it may not be one, and that it is at an earlier place as well
abbrev pub StandsInName : ℕ → Code → Code → (List ℕ → Bool) → List (List ℕ) → ℕ → List ℕ → Finding → Type 0
StandsInName line wrong repeated is_name names place name =
    OneOf (Notes line wrong name (is_name name ≡ false) ∷ Notes line repeated name (IsRepeat names place name) ∷ [])

met_to : (line : ℕ) (wrong repeated : Code) (name : List ℕ) (is_name : Bool) (Met Repeat : Type 0) → (Met → Repeat) → (f : Finding) → OneOf (met_rules line wrong repeated name is_name Met) f → OneOf (met_rules line wrong repeated name is_name Repeat) f
met_to line wrong repeated name is_name Met Repeat to f (inl k) = inl k
met_to line wrong repeated name is_name Met Repeat to f (inr (inl k)) = inr (inl (to k.0, k.1, k.2, k.3))
met_to line wrong repeated name is_name Met Repeat to f (inr (inr k)) = inr (inr k)

-- of a heading
pub heading_same : (line : ℕ) (headings : List (List ℕ)) (place : ℕ) (heading : List ℕ) (Met : Type 0) (a b : List Finding) → Met ↔ IsRepeat headings place heading
    → Adds (OneOf (met_rules line Rule19a P2 heading (is_heading_name heading) Met)) a b → Adds (StandsInName line Rule19a P2 is_heading_name headings place heading) a b
heading_same line headings place heading Met a b same =
    let Repeat = IsRepeat headings place heading in
    adds_same a b (met_to line Rule19a P2 heading (is_heading_name heading) Met Repeat same.0) (met_to line Rule19a P2 heading (is_heading_name heading) Repeat Met same.1)

-- of a group
pub group_same : (names : List (List ℕ)) (place : ℕ) (group : Group) (Met : Type 0) (a b : List Finding) → Met ↔ IsRepeat names place group.name
    → Adds (OneOf (OneOf (shape_rules group) ∷ OneOf (met_rules group.line Rule19 P1 group.name (is_group_name group.name) Met) ∷ StandsInHeadings group ∷ [])) a b → Adds (OneOf (group_rules names place group)) a b
group_same names place group Met a b same =
    let Repeat = IsRepeat names place group.name in
    adds_same a b
    (λ f h. elim h [ inl k ↦ inl k | inr (inl k) ↦ inr (inl (met_to group.line Rule19 P1 group.name (is_group_name group.name) Met Repeat same.0 f k)) | inr (inr k) ↦ inr (inr k) ])
    (λ f h. elim h [ inl k ↦ inl k | inr (inl k) ↦ inr (inl (met_to group.line Rule19 P1 group.name (is_group_name group.name) Repeat Met same.1 f k)) | inr (inr k) ↦ inr (inr k) ])
