use Rattle.std.proofs.Common.{length, sym, ap, ◌∙◌}
use Rattle.std.proofs.lemmas.List.{length-map}
use Rattle.ags_links.specs.Placing.{row_of}
use Rattle.ags_links.proofs.Inside.{inside_rows}
use Rattle.ags_links.proofs.index.Index.row_count.Goals as goal

pub returns : goal.returns
returns c =
    let i = c.self.inside in
    c.len.ensures ∙ i.rows.ok.0 ∙ sym (length-map i.rows.items row_of)
    ∙ ap length (inside_rows i.groups.now i.dictionary.now i.rows.items i.families.items i.parents i.spans.items i.firsts.items i.by_key i.by_file_set i.separators c.args.self.now c.self.invariant c.self.view_is)
