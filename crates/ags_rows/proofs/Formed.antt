-- Groups have no finding where their contents are well formed, and the other way round.
use Rattle.std.proofs.Common.{◌≡◌, ◌≢◌, ℕ, true, List, [], length, map, refl, sym, ap, subst, ◌∙◌, inl, inr}
use Rattle.std.specs.List.{AllByRecursion}
use Rattle.std.proofs.lemmas.Bool.{both_ways, cases_eq, true_from_ne_false}
use Rattle.std.proofs.lemmas.List.{length-map, nil_from_length}
use Rattle.std.proofs.lemmas.Simd.{map-map}
use Rattle.ags_rows.specs.declared.rows.Row.{Row}
use Rattle.ags_rows.specs.declared.rows.Group.{Group}
use Rattle.ags_rows.specs.declared.code.Code.TheVariants.{Rule2, Rule4, Rule19, Rule19a, P1, P2}
use Rattle.ags_rows.specs.declared.finding.Finding.{Finding}
use Rattle.ags_text.specs.Names.{is_group_name, is_heading_name}
use Rattle.ags_rows.specs.Collecting.{At, finding_at, OneOf}
use Rattle.ags_rows.specs.Stands.{shape_rules, StandsInGroups}
use Rattle.ags_rows.specs.Parsing.{StandsInHeadings}
use Rattle.ags_rows.specs.Contents.{Contents, contents_of, fields_of, group_contents}
use Rattle.ags_rows.specs.Writing.{ArePlain, IsPlainGroup, AreUnder, AreHeadings, AreDistinct, group_names, IsWellFormedGroup, IsWellFormed}
use Rattle.ags_rows.proofs.AtPlaces.{all_at, all_from_at, at_map, at_mapped}
use Rattle.ags_rows.proofs.Repeats.{StandsInName}
use Rattle.ags_rows.proofs.WellFormed.{once_apart, once_from}

-- ---- the names of groups

abbrev scanned_names : List Group → List (List ℕ)
scanned_names groups = map (λ group. group.name) groups

same_names : (groups : List Group) → group_names (contents_of groups) ≡ scanned_names groups
same_names groups = map-map (λ (c : Contents). c.name) group_contents groups

-- ---- well formed contents break nothing

shape_clear : (g : Group) → IsWellFormedGroup (group_contents g) → (f : Finding) → OneOf (shape_rules g) f → ⊥
shape_clear g w f (inl n) = w.some_rows (ap (λ (rows : List Row). map fields_of rows) n.0)
shape_clear g w f (inr (inl n)) = w.headings.some n.0
shape_clear g w f (inr (inr (inl n))) = n.0 w.units.count
shape_clear g w f (inr (inr (inr (inl n)))) = n.0 w.types.count
shape_clear g w f (inr (inr (inr (inr (inl n))))) =
    let under = all_at (AreUnder g.headings) (map fields_of g.rows) n.0 n.1.cells w.rows (at_map fields_of g.rows n.0 n.1 n.2) in
    n.3.0 under.count
shape_clear g w f (inr (inr (inr (inr (inr n))))) = n

name_clear : (groups : List Group) (k : ℕ) (g : Group) → At groups k g → IsWellFormedGroup (group_contents g) → AreDistinct (scanned_names groups) → (f : Finding) → StandsInName g.line Rule19 P1 is_group_name (scanned_names groups) k g.name f → ⊥
name_clear groups k g at w once f (inl n) = both_ways (is_group_name g.name) n.0 w.name
name_clear groups k g at w once f (inr (inl n)) = once_apart (scanned_names groups) n.0.0 k g.name g.name once n.0.1 n.0.2 (at_map (λ (x : Group). x.name) groups k g at) refl
name_clear groups k g at w once f (inr (inr n)) = n

headings_clear : (g : Group) → IsWellFormedGroup (group_contents g) → (f : Finding) → StandsInHeadings g f → ⊥
headings_clear g w f h =
    elim h.3 [
      | inl n ↦ both_ways (is_heading_name h.1) n.0 (all_at (λ x. is_heading_name x ≡ true) g.headings h.0 h.1 w.headings.named h.2)
      | inr (inl n) ↦ once_apart g.headings n.0.0 h.0 h.1 h.1 w.headings.once n.0.1 n.0.2 h.2 refl
      | inr (inr n) ↦ n
    ]

pub formed_clear : (groups : List Group) → IsWellFormed (contents_of groups) → (f : Finding) → StandsInGroups groups f → ⊥
formed_clear groups w f h =
    let group = all_at IsWellFormedGroup (contents_of groups) h.0 (group_contents h.1) w.each (at_map group_contents groups h.0 h.1 h.2) in
    let once = subst AreDistinct (same_names groups) w.names_once in
    elim h.3 [
      | inl n ↦ shape_clear h.1 group f n
      | inr (inl n) ↦ name_clear groups h.0 h.1 h.2 group once f n
      | inr (inr (inl n)) ↦ headings_clear h.1 group f n
      | inr (inr (inr n)) ↦ n
    ]

-- ---- what breaks nothing is well formed

-- the groups have no finding
abbrev Clear : List Group → Type 0
Clear groups = (f : Finding) → StandsInGroups groups f → ⊥

same_count : (a b : ℕ) → (a ≢ b → ⊥) → a ≡ b
same_count a b h = elim (cases_eq a b) [ inl e ↦ e | inr ne ↦ absurd (h ne) ]

none_made : {X Y : Type 0} (f : X → Y) (xs : List X) → map f xs ≡ [] → xs ≡ []
none_made f xs e = nil_from_length xs (sym (length-map xs f) ∙ ap length e)

rows_formed : (groups : List Group) → Clear groups → (k : ℕ) (g : Group) → At groups k g → AllByRecursion ArePlain (map fields_of g.rows) → AllByRecursion (AreUnder g.headings) (map fields_of g.rows)
rows_formed groups clear k g at plain =
    all_from_at (AreUnder g.headings) (map fields_of g.rows) (λ j fields here.
    let row = at_mapped fields_of g.rows j fields here in
    subst (AreUnder g.headings) row.2 (record {
      count = same_count (length row.0.cells) (length g.headings) (λ ne. clear (finding_at row.0.line Rule4 g.name) (k, g, at, inl (inr (inr (inr (inr (inl (j, row.0, row.1, (ne, refl, refl, refl)))))))));
      plain = all_at ArePlain (map fields_of g.rows) j row.0.cells plain (at_map fields_of g.rows j row.0 row.1);
    }))

headings_formed : (groups : List Group) → Clear groups → (k : ℕ) (g : Group) → At groups k g → AreHeadings g.headings
headings_formed groups clear k g at = record {
  some = λ e. clear (finding_at g.heading_line Rule4 g.name) (k, g, at, inl (inr (inl (e, refl, refl, refl))));
  named = all_from_at (λ h. is_heading_name h ≡ true) g.headings (λ j h here.
      true_from_ne_false (is_heading_name h) (λ e. clear (finding_at g.heading_line Rule19a h) (k, g, at, inr (inr (inl (j, h, here, inl (e, refl, refl, refl)))))));
  once = once_from g.headings (λ i j x y lt a b e.
      clear (finding_at g.heading_line P2 y) (k, g, at, inr (inr (inl (j, y, b, inr (inl ((i, lt, subst (At g.headings i) e a), refl, refl, refl)))))));
}

group_formed : (groups : List Group) → Clear groups → (k : ℕ) (g : Group) → At groups k g → IsPlainGroup (group_contents g) → IsWellFormedGroup (group_contents g)
group_formed groups clear k g at plain = record {
  name = true_from_ne_false (is_group_name g.name) (λ e. clear (finding_at g.line Rule19 g.name) (k, g, at, inr (inl (inl (e, refl, refl, refl)))));
  headings = headings_formed groups clear k g at;
  units = record {
    count = same_count (length g.units) (length g.headings) (λ ne. clear (finding_at g.unit_line Rule4 g.name) (k, g, at, inl (inr (inr (inl (ne, refl, refl, refl))))));
    plain = plain.units;
  };
  types = record {
    count = same_count (length g.types) (length g.headings) (λ ne. clear (finding_at g.type_line Rule4 g.name) (k, g, at, inl (inr (inr (inr (inl (ne, refl, refl, refl)))))));
    plain = plain.types;
  };
  some_rows = λ e. clear (finding_at g.line Rule2 g.name) (k, g, at, inl (inl (none_made fields_of g.rows e, refl, refl, refl)));
  rows = rows_formed groups clear k g at plain.rows;
}

names_formed : (groups : List Group) → Clear groups → AreDistinct (scanned_names groups)
names_formed groups clear =
    once_from (scanned_names groups) (λ i j x y lt a b e.
    let group = at_mapped (λ (g : Group). g.name) groups j y b in
    let earlier : At (scanned_names groups) i group.0.name = subst (At (scanned_names groups) i) (e ∙ sym group.2) a in
    clear (finding_at group.0.line P1 group.0.name) (j, group.0, group.1, inr (inl (inr (inl ((i, lt, earlier), refl, refl, refl))))))

pub clear_formed : (groups : List Group) → groups ≢ [] → AllByRecursion IsPlainGroup (contents_of groups) → ((f : Finding) → StandsInGroups groups f → ⊥) → IsWellFormed (contents_of groups)
clear_formed groups some plain clear = record {
  some = λ e. some (none_made group_contents groups e);
  each = all_from_at IsWellFormedGroup (contents_of groups) (λ k c here.
      let group = at_mapped group_contents groups k c here in
      subst IsWellFormedGroup group.2 (group_formed groups clear k group.0 group.1 (all_at IsPlainGroup (contents_of groups) k (group_contents group.0) plain (at_map group_contents groups k group.0 group.1))));
  names_once = subst AreDistinct (sym (same_names groups)) (names_formed groups clear);
}
