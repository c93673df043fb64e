use Rattle.std.proofs.Common.{ap, sym, ◌∙◌}
use Rattle.ags_links.specs.Placing.{row_of}
use Rattle.ags_links.proofs.Stepping.{may_have_files, file_steps, no_file_steps}
use Rattle.ags_links.proofs.steps.add_file_steps.Goals as goal

pub returns-in_ok-extend_from_slice : goal.returns-in_ok-extend_from_slice
returns-in_ok-extend_from_slice c =
    file_steps c.args.index.now c.args.row (row_of c.kept.result.0.now) c.args.found.now.items c.extend_from_slice.new.self.items c.file_rows.result.now c.kept.ensures.row
    (ap may_have_files (sym c.as_slice.ensures) ∙ sym c.may_have_files.ensures ∙ c.if-may_have_files.true) c.file_rows.ensures c.in_ok-extend_from_slice.ensures.items

pub returns-else-may_have_files : goal.returns-else-may_have_files
returns-else-may_have_files c =
    no_file_steps c.args.index.now c.args.row (row_of c.kept.result.0.now) c.args.found.now.items c.kept.ensures.row
    (ap may_have_files (sym c.as_slice.ensures) ∙ sym c.may_have_files.ensures ∙ c.if-may_have_files.false)
