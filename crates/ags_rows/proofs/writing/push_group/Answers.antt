use Rattle.std.proofs.Common.{List, ℕ, [], ◌++◌, ◌∙◌, ap}
use Rattle.ags_rows.specs.declared.rows.Descriptor.TheVariants as kinds
use Rattle.ags_rows.specs.declared.rows.Row.{Row}
use Rattle.ags_rows.specs.Lines.{line_bytes}
use Rattle.ags_rows.specs.Writing.{written_row, contents_from}
use Rattle.ags_rows.proofs.Texts.{group_more}
use Rattle.ags_rows.proofs.writing.push_group.Goals as goal

pub loop-row-preserved : goal.loop-row-preserved
loop-row-preserved c =
    let group = contents_from c.args.name.now c.args.headings.now c.args.units.now c.args.types.now [] in
    let line = λ (cells : List (List ℕ)). c.loop-row.out.items ++ line_bytes (written_row kinds.Data cells) in
    group_more c.args.out.now.items c.loop-row.out.items c.push_row-in-loop-row.new.out.items group c.args.rows.now c.loop-row.row-index _ c.loop-row-test.true
    c.loop-row.invariant (c.in_ok-push_row-4.ensures.written ∙ ap line (c.as_slice.ensures ∙ ap (λ (row : Row). row.cells) c.row-item.is))
