use Rattle.std.proofs.Common.{sym}
use Rattle.ags_rows.specs.declared.code.Code.TheVariants.{Rule19a, P2}
use Rattle.ags_text.specs.Names.{is_heading_name}
use Rattle.ags_rows.specs.Collecting.{At}
use Rattle.ags_rows.specs.Parsing.{IsMet}
use Rattle.ags_rows.proofs.Collecting.{among_more, among_all}
use Rattle.ags_rows.proofs.Repeats.{StandsInName, repeat_more, heading_same}
use Rattle.ags_rows.proofs.checking.note_headings.Goals as goal

pub loop-heading-preserved : goal.loop-heading-preserved
loop-heading-preserved c =
    let items = c.as_slice-heading-items.result.now in
    let line = c.args.group.now.heading_line in
    let heading = c.heading-item.result in
    let met = c.loop-heading.met in
    let before = c.loop-heading.invariant in
    let at : At items c.loop-heading.heading-index heading = (c.loop-heading-test.true, sym c.heading-item.is) in
    let here = heading_same line items _ heading (IsMet met heading) _ _ (before.met heading) (rw c.as_slice.ensures at c.in_ok-note_heading.ensures.noted) in
    record {
      met = repeat_more items _ heading (IsMet met) (IsMet c.note_heading.new.met) at before.met (rw c.as_slice.ensures at c.in_ok-note_heading.ensures.met);
      noted = among_more items (StandsInName line Rule19a P2 is_heading_name items) _ heading _ _ _ at before.noted here;
    }

pub returns : goal.returns
returns c =
    let items = c.as_slice-heading-items.result.now in
    rw c.as_slice-heading-items.ensures at
    (among_all items (StandsInName c.args.group.now.heading_line Rule19a P2 is_heading_name items) _ _ _ c.loop-heading-test.false c.loop-heading.invariant.noted)
