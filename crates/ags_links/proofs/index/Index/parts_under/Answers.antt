use Rattle.std.proofs.Common.{◌≡◌, ◌++◌, Contains, sym, ap, subst, ◌∙◌}
use Rattle.std.proofs.lemmas.Result.{IfOk-weaker}
use Rattle.ags_rows.specs.Contents.{place_in, field_at}
use Rattle.ags_rows.specs.Parts.{parts_at}
use Rattle.ags_links.specs.DataRows.{entry_of}
use Rattle.ags_links.specs.Indexing.{rows_in}
use Rattle.ags_links.specs.Placing.{row_of}
use Rattle.ags_links.specs.RecordLinks.{separators_of}
use Rattle.ags_links.proofs.Inside.{inside_separators}
use Rattle.ags_links.proofs.Kept.{texts}
use Rattle.ags_links.proofs.RowLemmas.{one_at}
use Rattle.ags_links.proofs.index.Index.parts_under.Goals as goal

pub returns : goal.returns
returns c = IfOk-weaker c.distinct.result _ _ (λ once lists. λ r row part.
    let file = c.args.self.now in
    let heading = c.args.heading.now in
    let kept = row_of c.kept.result.0.now in
    let separator = (separators_of file.contents).concatenator in
    let is : kept ≡ r = one_at (rows_in file) c.args.row kept r c.kept.ensures.row row in
    let entry = c.field.ensures ∙ ap (field_at kept.fields) (c.find.ensures ∙ ap (λ hs. place_in hs heading) c.kept.ensures.family.headings) in
    let cut : texts c.push_parts.new.out.items ≡ parts_at separator (entry_of r heading) =
    c.in_ok-push_parts.ensures ∙ ap (λ ps. texts ps ++ parts_at c.self.inside.separators.concatenator c.field.result.now) c.new-parts.ensures.items
    ∙ ap (λ t. parts_at c.self.inside.separators.concatenator t) entry
    ∙ ap (λ s. parts_at s.concatenator (entry_of kept heading)) (inside_separators c.self.inside.groups.now c.self.inside.dictionary.now c.self.inside.rows.items c.self.inside.families.items c.self.inside.parents c.self.inside.spans.items c.self.inside.firsts.items c.self.inside.by_key c.self.inside.by_file_set c.self.inside.separators c.args.self.now c.self.invariant c.self.view_is)
    ∙ ap (λ q. parts_at separator (entry_of q heading)) is in
    let same = lists part in
    (λ h. subst (λ ps. Contains ps part) cut (same.0 h), λ h. same.1 (subst (λ ps. Contains ps part) (sym cut) h))) c.distinct.ensures
