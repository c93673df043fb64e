use Rattle.std.proofs.Common.{◌∙◌}
use Rattle.ags_dict.proofs.Copied.{heading_same, copied_more, copied_all}
use Rattle.ags_dict.proofs.headings.indexed.IndexedHeadings.copied.Goals as goal

pub loop-entry-preserved : goal.loop-entry-preserved
loop-entry-preserved c =
    let entry = c.entry-item.result in
    copied_more c.deref-entry-items.result.now c.loop-entry.copied c.in_ok-copied.copied c.loop-entry.entry-index entry c.in_ok-entry.entry c.loop-entry-test.true c.loop-entry.invariant c.in_ok-copied.ensures
    (c.in_ok-entry.ensures ∙ heading_same entry _ _ _ c.as_slice-group.ensures c.as_slice-heading.ensures c.as_slice.ensures) c.entry-item.is

pub returns : goal.returns
returns c = copied_all c.deref-entry-items.result.now c.loop-entry.copied c.loop-entry.entry-index c.loop-entry-test.false c.loop-entry.invariant ∙ c.deref-entry-items.ensures.value ∙ c.self.view_is
