use Rattle.std.proofs.Common.{◌≡◌, ℕ, List, [], Bor, get_or, ap, sym, ◌∙◌}
use Rattle.std.specs.Prelude.{is_some}
use Rattle.ags_links.specs.Families.{is_one_of}
use Rattle.ags_links.proofs.Kept.{heading_taken, heading_passed}
use Rattle.ags_links.proofs.parents.common_headings.Goals as goal
use Rattle.ags_links.proofs.parents.common_headings.Goals.{then-is_some+in_ok-push, else-is_some}

pub loop-heading-preserved : goal.loop-heading-preserved
loop-heading-preserved c =
    let names = c.names-heading-items.result.now in
    let i = c.loop-heading.heading-index in
    let d : Bor (List ℕ) = record { ref_ptr = (0, 0); now = [] } in
    let tested : is_one_of c.args.keys.now (get_or names i d).now ≡ c.is_some.result = sym (c.is_some.ensures ∙ ap is_some c.find.ensures) in
    elim c.if-is_some.branch [
      | then-is_some+in_ok-push w ↦ rw w.common-is (heading_taken (is_one_of c.args.keys.now) c.loop-heading.common.items w.push.new.self.items names i d c.loop-heading-test.true c.loop-heading.invariant (tested ∙ w.if-is_some.true) w.in_ok-push.ensures.items)
      | else-is_some w ↦ rw w.common-is (heading_passed (is_one_of c.args.keys.now) c.loop-heading.common.items names i d c.loop-heading-test.true c.loop-heading.invariant (tested ∙ w.if-is_some.false))
    ]
