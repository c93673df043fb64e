use Rattle.std.proofs.Common.{◌≡◌, ◌∙◌, map, sym, refl, true, rules}
use Rattle.toml.proofs.Views.{table_get}
use Rattle.toml.specs.View.{table_view}
use Rattle.reg_policy.proofs.Items.{known_at}
use Rattle.reg_policy.proofs.document.is_known.Goals as goal

pub returns-in-Some : goal.returns-in-Some
returns-in-Some c =
    let one : c.has_one_key.result ≡ true = search rules in
    let key = c.args.array_key.now in
    let found = table_get c.get.result key c.args.document.now.entries c.get.ensures.value in
    known_at key (map (λ k. k.now) c.args.table_keys.now) (table_view c.args.document.now) key _ _ (sym c.has_one_key.ensures ∙ one) refl
    (rw c.in-Some.is at found) c.have_known_keys.ensures

pub returns-in-None : goal.returns-in-None
returns-in-None c =
    let one : c.has_one_key.result ≡ true = search rules in
    let key = c.args.array_key.now in
    let found = table_get c.get.result key c.args.document.now.entries c.get.ensures.value in
    known_at key (map (λ k. k.now) c.args.table_keys.now) (table_view c.args.document.now) key _ _ (sym c.has_one_key.ensures ∙ one) refl
    (rw c.in-None.is at found) refl
