use Rattle.std.proofs.Common.{◌∙◌, string_bytes, rules, tests}
use Rattle.std.proofs.lemmas.Iterator.Consumers.{YieldsList-from_rest}
use Rattle.std.proofs.lemmas.Iterator.Search.{all_from_yields_List}
use Rattle.std.specs.BTreeMap.{keys}
use Rattle.std.specs.Str.{bytes_eq}
use Rattle.reg_policy.proofs.Items.{all_keys-view}
use Rattle.reg_policy.proofs.document.has_one_key.Goals as goal

pub returns : goal.returns
returns c =
    let document = c.args.document.now in
    let key = c.args.array_key.now in
    let all = all_from_yields_List (λ k. bytes_eq (string_bytes k) key) _ _ c.all.result c.all.ensures.ran (YieldsList-from_rest (keys document) c.keys.ensures.rest) (λ x b q k. search (rules, tests)) in
    all ∙ all_keys-view (λ k. bytes_eq k key) document.entries
