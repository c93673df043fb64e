use Rattle.std.proofs.Common.{◌∙◌, map, string_bytes, rules, tests}
use Rattle.std.proofs.lemmas.Iterator.Consumers.{YieldsList-from_rest}
use Rattle.std.proofs.lemmas.Iterator.Search.{all_from_yields_List}
use Rattle.std.specs.BTreeMap.{keys}
use Rattle.toml.specs.View.{table_view}
use Rattle.reg_policy.specs.Documents.{is_known_key}
use Rattle.reg_policy.proofs.Items.{all_keys-view, table_is}
use Rattle.reg_policy.proofs.document.has_known_keys.Goals as goal

pub returns-in-Some : goal.returns-in-Some
returns-in-Some c =
    let table = c.in-Some.table.now in
    let known = map (λ k. k.now) c.args.table_keys.now in
    let all = all_from_yields_List (λ k. is_known_key known (string_bytes k)) _ _ c.all.result c.all.ensures.ran (YieldsList-from_rest (keys table) c.keys.ensures.rest) (λ x b q k. search (rules, tests)) in
    rw (← table_is _ (table_view table) c.in-Some.ensures)
    (all ∙ all_keys-view (is_known_key known) table.entries)
