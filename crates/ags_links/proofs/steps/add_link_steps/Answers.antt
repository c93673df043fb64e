use Rattle.std.proofs.Common.{ap, sym, ◌∙◌}
use Rattle.ags_text.specs.Names.{is_definition}
use Rattle.ags_links.specs.Placing.{row_of}
use Rattle.ags_links.proofs.Stepping.{link_steps, no_link_steps}
use Rattle.ags_links.proofs.steps.add_link_steps.Goals as goal

pub returns-in_ok-add_links : goal.returns-in_ok-add_links
returns-in_ok-add_links c =
    link_steps c.args.index.now c.args.row (row_of c.kept.result.0.now) c.args.found.now.items c.add_links.new.found.items c.kept.ensures.row
    (ap is_definition (sym c.as_slice.ensures) ∙ sym c.is_definition.ensures ∙ c.if-not-is_definition.true) c.in_ok-add_links.ensures

pub returns-else-not-is_definition : goal.returns-else-not-is_definition
returns-else-not-is_definition c =
    no_link_steps c.args.index.now c.args.row (row_of c.kept.result.0.now) c.args.found.now.items c.kept.ensures.row
    (ap is_definition (sym c.as_slice.ensures) ∙ sym c.is_definition.ensures ∙ c.if-not-is_definition.false)
