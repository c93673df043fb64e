use Rattle.std.proofs.Common.{take}
use Rattle.toml.specs.View.{items_view}
use Rattle.reg_policy.specs.Documents.{Each}
use Rattle.reg_policy.proofs.document.items_of.Given as goal

abbrev pub invariant-loop-item : goal.invariant-loop-item
invariant-loop-item g l = Each g.T.FromTable.says (items_view (take l.item-index l.items)) l.listed.items
