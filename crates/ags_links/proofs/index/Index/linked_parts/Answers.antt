use Rattle.std.proofs.Common.{◌≡◌, Contains, subst, ◌∙◌, ◌↔◌}
use Rattle.std.proofs.lemmas.Result.{IfOk-weaker}
use Rattle.ags_links.specs.Indexing.{rows_in}
use Rattle.ags_links.specs.Placing.{row_of, IsPartAmong}
use Rattle.ags_links.specs.RecordLinks.{separators_of}
use Rattle.ags_links.specs.Steps.{IsLinkedPart}
use Rattle.ags_links.proofs.Inside.{inside_separators}
use Rattle.ags_links.proofs.Kept.{texts}
use Rattle.ags_links.proofs.Parting.{linked_part}
use Rattle.ags_links.proofs.RowLemmas.{one_at}
use Rattle.ags_links.proofs.index.Index.linked_parts.Goals as goal

pub returns : goal.returns
returns c = IfOk-weaker c.distinct.result _ _ (λ once lists. λ r row part.
    let file = c.args.self.now in
    let kept = row_of c.kept.result.0.now in
    let is : kept ≡ r = one_at (rows_in file) c.args.row kept r c.kept.ensures.row row in
    let separators : c.self.inside.separators ≡ separators_of file.contents = inside_separators c.self.inside.groups.now c.self.inside.dictionary.now c.self.inside.rows.items c.self.inside.families.items c.self.inside.parents c.self.inside.spans.items c.self.inside.firsts.items c.self.inside.by_key c.self.inside.by_file_set c.self.inside.separators c.args.self.now c.self.invariant c.self.view_is in
    let links = c.deref.ensures.value ∙ c.kept.ensures.family.links in
    let of_kept : IsPartAmong c.self.inside.separators.concatenator kept c.deref.result.now part ↔ IsLinkedPart c.self.inside.separators kept part = linked_part c.self.inside.separators kept c.deref.result.now part links in
    let same = lists part in
    let first = c.in_ok-parts.ensures part in
    subst (λ q. Contains (texts once.items) part ↔ IsLinkedPart (separators_of file.contents) q part) is
    (subst (λ s. Contains (texts once.items) part ↔ IsLinkedPart s kept part) separators (λ h. of_kept.0 (first.0 (same.0 h)), λ h. same.1 (first.1 (of_kept.1 h))))) c.distinct.ensures
