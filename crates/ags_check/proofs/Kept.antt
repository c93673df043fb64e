-- The contents of groups against which the fourth and the fifth phase have no finding keep the rules.
use Rattle.std.proofs.Common.{◌≡◌, ℕ, ◌+◌, true, List, refl, sym, ap, subst, ◌∙◌, inl, inr, Contains}
use Rattle.std.specs.Prelude.{codes}
use Rattle.std.proofs.lemmas.Bool.{true_from_ne_false}
use Rattle.ags_rows.specs.declared.code.Code.{Code}
use Rattle.ags_rows.specs.declared.code.Code.TheVariants as rule
use Rattle.ags_rows.specs.declared.finding.Finding.{Finding}
use Rattle.ags_rows.specs.declared.rows.Row.{Row}
use Rattle.ags_rows.specs.declared.rows.Group.{Group}
use Rattle.ags_rows.specs.Collecting.{At, OneOf}
use Rattle.ags_rows.specs.Contents.{Contents, group_contents, contents_of, fields_of}
use Rattle.ags_dict.specs.Entries.{Entries, has_group, required_of}
use Rattle.ags_links.specs.DataRows.{row_in, rows_before}
use Rattle.ags_links.proofs.Lemmas.{row_of_group}
use Rattle.ags_check.specs.Header.{unknown_code, group_header_rules, StandsInDictionary}
use Rattle.ags_check.specs.HeaderSteps.{InOnlyRows}
use Rattle.ags_check.specs.RowRules.{unit_over, type_over, IsUnlistedUnit, IsUnlistedType, RepeatsKey, data_row_rules, StandsInEntries}
use Rattle.ags_check.specs.Findings.{IsClear}
use Rattle.ags_check.proofs.Groups.{group_there}
use Rattle.ags_rows.proofs.Lemmas.{at_mapped, at_contained}
use Rattle.ags_check.specs.Keeping.{KeepsOnlyRow, KeepsHeader, KeepsHeaders, KeepsRow, KeepsRows}

abbrev noted : ℕ → Code → List ℕ → Finding
noted line code subject = record { line = line; code = code; subject = subject }

-- the group that contents are those of
abbrev OfGroup : List Group → Contents → Type 0
OfGroup groups c = (k : ℕ) × (g : Group) × At groups k g × (group_contents g ≡ c)

of_group : (groups : List Group) (c : Contents) → Contains (contents_of groups) c → OfGroup groups c
of_group groups c h = let g = at_mapped group_contents groups h.0 c (at_contained (contents_of groups) c h) in (h.0, g.0, g.1, g.2)

-- ---- the fourth phase

only_row : (g : Group) → ((f : Finding) → InOnlyRows g f → ⊥) → (place : ℕ) (row : Row) → At g.rows place row → KeepsOnlyRow (group_contents g) place (fields_of row)
only_row g clear place row at = record {
  delimiter = λ b. clear (noted row.line rule.Rule11a (codes "TRAN_DLIM")) (place, row, at, inl (b, refl, refl, refl));
  concatenator = λ b. clear (noted row.line rule.Rule11b (codes "TRAN_RCON")) (place, row, at, inr (inl (b, refl, refl, refl)));
  one_project = λ b. clear (noted row.line rule.Rule13 (codes "PROJ")) (place, row, at, inr (inr (inl (b, refl, refl, refl))));
  one_transmission = λ b. clear (noted row.line rule.Rule14 (codes "TRAN")) (place, row, at, inr (inr (inr (inl (b, refl, refl, refl)))));
}

header : (given entries : Entries) (file : List Contents) (code : Code) (g : Group) → ((f : Finding) → OneOf (group_header_rules given entries file code g) f → ⊥) → KeepsHeader given entries file (group_contents g)
header given entries file code g clear =
    let has : has_group entries g.name ≡ true = true_from_ne_false (has_group entries g.name) (λ b. clear (noted g.line code g.name) (inl (b, refl, refl, refl))) in
    record {
      known = λ b. clear (noted g.line code g.name) (inl (b, refl, refl, refl));
      parent = λ b. clear (noted g.line rule.Rule10c g.name) (inr (inl (b, refl, refl, refl)));
      order = λ h b. clear (noted g.heading_line rule.Rule7 h) (inr (inr (inl (has, inl (b, refl, refl)))));
      headings = λ h b. clear (noted g.heading_line code h) (inr (inr (inl (has, inr (inl (b, refl, refl))))));
      keys = λ h b. clear (noted g.heading_line rule.Rule10a h) (inr (inr (inl (has, inr (inr (inl (b, refl, refl)))))));
      required = λ h b. clear (noted g.heading_line rule.Rule10b h) (inr (inr (inl (has, inr (inr (inr (inl (b, refl, refl))))))));
      names = λ h b. clear (noted g.heading_line rule.Rule19b h) (inr (inr (inl (has, inr (inr (inr (inr (inl (b, refl, refl)))))))));
      only_rows = λ place fields at.
          let row = at_mapped fields_of g.rows place fields at in
          subst (KeepsOnlyRow (group_contents g) place) row.2 (only_row g (λ f n. clear f (inr (inr (inr (inl n))))) place row.0 row.1);
    }

pub headers_kept : (given entries : Entries) (groups : List Group) → IsClear (StandsInDictionary given entries groups) → KeepsHeaders given entries (contents_of groups)
headers_kept given entries groups clear = record {
  groups = λ c there.
      let of = of_group groups c there in
      subst (KeepsHeader given entries (contents_of groups)) of.3
      (header given entries (contents_of groups) (unknown_code (contents_of groups)) of.1 (λ f n. clear f (inl (of.0, of.1, of.2, n))));
  project = group_there groups (codes "PROJ") (λ b. clear (noted 0 rule.Rule13 (codes "PROJ")) (inr (inl (b, refl, refl, refl))));
  transmission = group_there groups (codes "TRAN") (λ b. clear (noted 0 rule.Rule14 (codes "TRAN")) (inr (inr (inl (b, refl, refl, refl)))));
  units = group_there groups (codes "UNIT") (λ b. clear (noted 0 rule.Rule15 (codes "UNIT")) (inr (inr (inr (inl (b, refl, refl, refl))))));
  types = group_there groups (codes "TYPE") (λ b. clear (noted 0 rule.Rule17 (codes "TYPE")) (inr (inr (inr (inr (inl (b, refl, refl, refl)))))));
}

-- ---- the fifth phase

row : (entries : Entries) (file : List Contents) (g : Group) (number : ℕ) (r : Row) → ((f : Finding) → OneOf (data_row_rules entries file g number r) f → ⊥) → KeepsRow entries file (group_contents g) (fields_of r)
row entries file g number r clear = record {
  each = λ h there.
      let at = at_contained g.headings h there in
      record {
        fits = λ b. clear (noted r.line rule.Rule8 h) (inl (there.0, h, at, inl (b, refl, refl, refl)));
        units = λ b. clear (noted r.line rule.Rule15 h) (inl (there.0, h, at, inr (inl (b, refl, refl, refl))));
        abbreviations = λ b. clear (noted r.line rule.Rule16 h) (inl (there.0, h, at, inr (inr (inl (b, refl, refl, refl)))));
        types = λ b. clear (noted r.line rule.Rule17 h) (inl (there.0, h, at, inr (inr (inr (inl (b, refl, refl, refl))))));
      };
  required = λ h there b. clear (noted r.line rule.Rule10b h) (inr (inr (inl (there.0, h, at_contained (required_of entries g.name) h there, inl (b, refl, refl, refl)))));
  parent = λ b. clear (noted r.line rule.Rule10c g.name) (inr (inr (inr (inl (b, refl, refl, refl)))));
  links = λ h there b. clear (noted r.line rule.Rule11c h) (inr (inr (inr (inr (inl (there.0, h, at_contained g.headings h there, inl (b, refl, refl, refl)))))));
  file_set = λ b. clear (noted r.line rule.Rule20 (codes "FILE_FSET")) (inr (inr (inr (inr (inr (inl (b, refl, refl, refl)))))));
}

pub rows_kept : (entries : Entries) (groups : List Group) → IsClear (StandsInEntries entries groups) → KeepsRows entries (contents_of groups)
rows_kept entries groups clear = record {
  units = λ c there h in_row.
      let of = of_group groups c there in
      let heading = subst (λ (x : Contents). Contains x.headings h) (sym of.3) in_row in
      λ b. clear (noted of.1.unit_line rule.Rule15 h) (of.0, of.1, of.2, inl (heading.0, h, at_contained of.1.headings h heading, inl (subst (λ (x : Contents). IsUnlistedUnit (contents_of groups) (unit_over x h)) (sym of.3) b, refl, refl, refl)));
  types = λ c there h in_row.
      let of = of_group groups c there in
      let heading = subst (λ (x : Contents). Contains x.headings h) (sym of.3) in_row in
      λ b. clear (noted of.1.type_line rule.Rule17 h) (of.0, of.1, of.2, inl (heading.0, h, at_contained of.1.headings h heading, inr (inl (subst (λ (x : Contents). IsUnlistedType (contents_of groups) (type_over x h)) (sym of.3) b, refl, refl, refl))));
  rows = λ c there fields in_group.
      let of = of_group groups c there in
      let there_row = subst (λ (x : Contents). Contains x.rows fields) (sym of.3) in_group in
      let r = at_mapped fields_of of.1.rows there_row.0 fields (at_contained (group_contents of.1).rows fields there_row) in
      let number = rows_before (contents_of groups) of.0 + there_row.0 in
      subst (λ (x : Contents). KeepsRow entries (contents_of groups) x fields) of.3
      (subst (KeepsRow entries (contents_of groups) (group_contents of.1)) r.2
      (row entries (contents_of groups) of.1 number r.0 (λ f n. clear f (of.0, of.1, of.2, inr (inl (there_row.0, r.0, r.1, n))))));
  keys = λ number r at b.
      let p = row_of_group (contents_of groups) number r at in
      let g = at_mapped group_contents groups p.group_place p.group p.of_file in
      let in_group = subst (λ (x : Contents). At x.rows p.place p.fields) (sym g.2) p.of_group in
      let kept = at_mapped fields_of g.0.rows p.place p.fields in_group in
      let same : r ≡ row_in (group_contents g.0) (fields_of kept.0) =
      sym p.same ∙ ap (λ (x : Contents). row_in x p.fields) (sym g.2) ∙ ap (row_in (group_contents g.0)) (sym kept.2) in
      let repeats = subst (RepeatsKey entries (contents_of groups) number) same b in
      let there_key = subst (λ (i : ℕ). RepeatsKey entries (contents_of groups) i (row_in (group_contents g.0) (fields_of kept.0))) p.number repeats in
      clear (noted kept.0.line rule.Rule10a g.0.name)
      (p.group_place, g.0, g.1, inr (inl (p.place, kept.0, kept.1, inr (inl (there_key, refl, refl, refl)))));
}
