use Rattle.std.proofs.Common.{sym, ap, ◌∙◌}
use Rattle.std.specs.List.{list_any, filter}
use Rattle.std.specs.Option.{is_some}
use Rattle.ags_dict.specs.Index.{of_group, is_named, is_heading}
use Rattle.ags_dict.proofs.Found.{any_both}
use Rattle.ags_dict.proofs.Ranks.{rank_any}
use Rattle.ags_dict.proofs.headings.indexed.IndexedHeadings.has.Goals as goal

pub returns : goal.returns
returns c =
    let g = c.args.group.now in
    let h = c.args.heading.now in
    let entries = c.self.inside.entries.items in
    c.is_some.ensures ∙ ap is_some (c.rank.ensures ∙ c.self.invariant.orders g h) ∙ rank_any (filter (of_group g) entries) h
    ∙ sym (any_both (of_group g) (is_named h) entries) ∙ ap (list_any (is_heading g h)) c.self.view_is
