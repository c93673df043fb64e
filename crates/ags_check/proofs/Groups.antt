-- The groups of a file and their names.
use Rattle.std.proofs.Common.{◌≡◌, ℕ, Bool, not, Some, List, map, sym, ap, subst, ◌∙◌, inl, inr}
use Rattle.std.specs.Prelude.{◌↔◌, IsTrue, Contains, is_some}
use Rattle.std.proofs.lemmas.Bool.{true≢false, false_from_ne_true, not-true}
use Rattle.std.proofs.lemmas.Option.{same_Some}
use Rattle.ags_rows.specs.declared.rows.Group.{Group}
use Rattle.ags_rows.specs.Collecting.{At}
use Rattle.ags_rows.specs.Contents.{Contents, group_contents, contents_of, place_in}
use Rattle.ags_dict.specs.Entries.{Entries, parent_of}
use Rattle.ags_check.specs.Header.{HasGroup, LacksParentGroup}
use Rattle.ags_rows.proofs.Lemmas.{at_map, at_mapped, contains_at, at_contained}
use Rattle.ags_links.proofs.Lemmas.{placed, place_of}
use Rattle.ags_check.proofs.HeaderRules.{has_place, has_some, some_there}

-- ---- the names of groups

abbrev pub name_of : Group → List ℕ
name_of group = group.name

pub contains_name : (groups : List Group) (name : List ℕ) → Contains (map name_of groups) name → HasGroup (contents_of groups) name
contains_name groups name h =
    let there = at_mapped name_of groups h.0 name (at_contained (map name_of groups) name h) in
    (group_contents there.0, contains_at (contents_of groups) h.0 (group_contents there.0) (at_map group_contents groups h.0 there.0 there.1), there.2)

pub name_contained : (groups : List Group) (name : List ℕ) → HasGroup (contents_of groups) name → Contains (map name_of groups) name
name_contained groups name h =
    let there = at_mapped group_contents groups h.1.0 h.0 (at_contained (contents_of groups) h.0 h.1) in
    let same : there.0.name ≡ name = ap (λ (c : Contents). c.name) there.2 ∙ h.2 in
    contains_at (map name_of groups) h.1.0 name (subst (At (map name_of groups) h.1.0) same (at_map name_of groups h.1.0 there.0 there.1))

-- a name has a place where a group has it
pub named : (groups : List Group) (name : List ℕ) → IsTrue (is_some (place_in (map name_of groups) name)) ↔ HasGroup (contents_of groups) name
named groups name = (
  λ e. let k = some_there (place_in (map name_of groups) name) e in contains_name groups name (has_place (map name_of groups) name k.0 k.1),
  λ h. has_some (map name_of groups) name (name_contained groups name h),
)

-- ---- the parent group

pub lacks_parent_group : (entries : Entries) (file : List Contents) (group : Contents) (parent : List ℕ) (b : Bool) → parent_of entries group.name ≡ Some parent
    → IsTrue b ↔ HasGroup file parent → IsTrue (not b) ↔ LacksParentGroup entries file group
lacks_parent_group entries file group parent b is means = (
  λ e. (parent, is, λ h. true≢false (sym (means.1 h) ∙ not-true b e)),
  λ rule.
      let same : rule.0 ≡ parent = same_Some rule.0 parent (sym rule.1 ∙ is) in
      ap not (false_from_ne_true b (λ e. rule.2 (subst (HasGroup file) (sym same) (means.0 e)))),
)

-- a group that does not fail to be there is there
pub group_there : (groups : List Group) (name : List ℕ) → ¬ (¬ (HasGroup (contents_of groups) name)) → HasGroup (contents_of groups) name
group_there groups name some = elim (place_of (place_in (map name_of groups) name)) [
  | inl k ↦ (named groups name).0 (ap is_some k.1)
  | inr none ↦ absurd (some (λ h. placed (map name_of groups) name (name_contained groups name h) none))
]
