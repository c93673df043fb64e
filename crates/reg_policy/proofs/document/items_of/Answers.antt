use Rattle.std.proofs.Common.{◌≡◌, ◌++◌, ◌∷◌, [], Err, rules}
use Rattle.toml.specs.View.{items_view, view}
use Rattle.reg_policy.specs.Documents.{Each, InTable}
use Rattle.reg_policy.proofs.Items.{each_all, each_more, none_each, refused}
use Rattle.reg_policy.proofs.document.items_of.Goals as goal

pub returns-in_err-one : goal.returns-in_err-one
returns-in_err-one g c =
    let error = c.in_err-one.field-0.0 in
    let same : c.from_residual.result ≡ Err error = search rules in
    rw same
    (refused (InTable g.T.FromTable.says (view c.item-item.result)) (Each g.T.FromTable.says (items_view c.args.items.now)) error c.in_err-one.ensures
    (none_each g.T.FromTable.says c.args.items.now c.loop-item.item-index c.item-item.result c.loop-item-test.true c.item-item.is))

pub loop-item-preserved : goal.loop-item-preserved
loop-item-preserved g c =
    let pushed : c.push.new.self.items ≡ c.loop-item.listed.items ++ c.in_ok-one.one ∷ [] = search rules in
    rw pushed
    (each_more g.T.FromTable.says c.args.items.now c.loop-item.item-index c.item-item.result c.loop-item.listed.items c.in_ok-one.one
    c.loop-item-test.true c.item-item.is c.loop-item.invariant c.in_ok-one.ensures)

pub returns : goal.returns
returns g c =
    each_all g.T.FromTable.says c.args.items.now c.loop-item.item-index c.loop-item.listed.items c.loop-item-test.false c.loop-item.invariant
