use Rattle.std.proofs.Common.{◌∙◌, ap, get_or}
use Rattle.ags_links.specs.Lookups.{found, pairs_of}
use Rattle.ags_links.proofs.Asking.{texts_found, texts_next}
use Rattle.ags_links.proofs.ByText.{pushed}
use Rattle.ags_links.proofs.parents.texts_asked.Goals as goal

pub loop-number-preserved : goal.loop-number-preserved
loop-number-preserved c =
    let own = c.write_link_text.new.text in
    texts_next c.args.linked.now.filed.rows.now c.args.linked.now.of_groups.items c.args.users.now c.loop-number.number-index (pairs_of c.loop-number.pairs.items) (pairs_of c.push.new.self.items) own.items c.loop-number-test.true c.loop-number.invariant
    c.in_ok-write_link_text.ensures (λ q. ap (λ ps. found (pairs_of ps) q) c.in_ok-push.ensures.items ∙ pushed c.loop-number.pairs.items own (get_or c.args.users.now c.loop-number.number-index 0) q)

pub returns : goal.returns
returns c =
    texts_found c.args.linked.now.filed.rows.now c.args.linked.now.of_groups.items c.args.users.now c.loop-number.number-index c.rows_by_text.result (pairs_of c.loop-number.pairs.items) c.loop-number-test.false c.loop-number.invariant c.rows_by_text.ensures
