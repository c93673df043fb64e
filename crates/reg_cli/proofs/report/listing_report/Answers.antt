use Rattle.std.proofs.Common.{refl, ap, ◌++◌, ◌∙◌}
use Rattle.reg_cli.proofs.Printed.{lists_none, lists_next, lists_all}
use Rattle.reg_cli.proofs.report.listing_report.Goals as goal

pub loop-listed-init : goal.loop-listed-init
loop-listed-init c = lists_none c.args.listing.now _ c.new-text.ensures.items

pub loop-listed-preserved : goal.loop-listed-preserved
loop-listed-preserved c =
    lists_next c.args.listing.now c.loop-listed.text.items c.extend_from_slice.new.self.items _ c.loop-listed.listed-index c.listed-item.result
    c.loop-listed-test.true c.listed-item.is (c.in_ok-extend_from_slice.ensures.items ∙ ap (λ t. c.loop-listed.text.items ++ t) c.as_slice.ensures.value)
    c.in_ok-line.ensures c.loop-listed.invariant

pub returns : goal.returns
returns c = (rw c.from_vec.ensures (lists_all c.args.listing.now _ c.loop-listed.listed-index c.loop-listed-test.false c.loop-listed.invariant), refl)
