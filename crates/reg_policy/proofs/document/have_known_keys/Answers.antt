use Rattle.std.proofs.Common.{◌∙◌, map, rules, tests}
use Rattle.std.proofs.lemmas.Iterator.{YieldsList-from_slice}
use Rattle.std.proofs.lemmas.Iterator.Search.{all_from_yields_List}
use Rattle.toml.specs.View.{array_view, view}
use Rattle.reg_policy.specs.Documents.{has_known_keys}
use Rattle.reg_policy.proofs.Items.{all_items-view, array_is}
use Rattle.reg_policy.proofs.document.have_known_keys.Goals as goal

pub returns-in-Some : goal.returns-in-Some
returns-in-Some c =
    let items = c.in-Some.items.now in
    let keys = map (λ k. k.now) c.args.table_keys.now in
    let all = all_from_yields_List (λ v. has_known_keys keys (view v)) _ _ c.all.result c.all.ensures.ran (YieldsList-from_slice items.items cc) (λ x b q k. search (rules, tests)) in
    rw (← array_is _ (array_view items) c.in-Some.ensures)
    (all ∙ all_items-view (has_known_keys keys) items.items)
