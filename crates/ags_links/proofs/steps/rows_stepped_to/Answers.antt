use Rattle.std.proofs.Common.{eqb, ap, ◌∙◌}
use Rattle.ags_links.proofs.Members.{no_items}
use Rattle.ags_links.proofs.Stepping.{all_steps, parents_alone}
use Rattle.ags_links.proofs.steps.rows_stepped_to.Goals as goal

pub returns-then-is_empty : goal.returns-then-is_empty
returns-then-is_empty c =
    parents_alone c.args.index.now c.args.row c.new-found.result.items c.add_link_steps.new.found.items c.add_file_steps.new.found.items c.parent_rows-parents.result.now
    c.new-found.ensures.items c.in_ok-add_link_steps.ensures c.in_ok-add_file_steps.ensures c.parent_rows-parents.ensures
    (no_items c.add_file_steps.new.found.items c.is_empty.result (c.is_empty.ensures ∙ ap (λ n. eqb n 0) c.add_file_steps.new.found.ok.0) c.if-is_empty.true)

pub returns : goal.returns
returns c =
    all_steps c.args.index.now c.args.row c.new-found.result.items c.add_link_steps.new.found.items c.add_file_steps.new.found.items c.extend_from_slice.new.self.items c.each_once.result.items c.parent_rows-parents.result.now
    c.new-found.ensures.items c.in_ok-add_link_steps.ensures c.in_ok-add_file_steps.ensures c.parent_rows-parents.ensures c.in_ok-extend_from_slice.ensures.items c.each_once.ensures.same c.each_once.ensures.rising
