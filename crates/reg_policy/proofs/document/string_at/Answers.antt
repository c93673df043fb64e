use Rattle.std.proofs.Common.{sym}
use Rattle.toml.proofs.Views.{table_get}
use Rattle.toml.specs.View.{view}
use Rattle.reg_policy.proofs.Keys.{text_some, text_bad, text_none}
use Rattle.reg_policy.proofs.document.string_at.Goals as goal

pub returns-in-None : goal.returns-in-None
returns-in-None c =
    let found = table_get c.get.result c.args.key.now c.args.table.now.entries c.get.ensures.value in
    text_none _ (rw c.in-None.is at found)

pub returns-in-Some-as_str : goal.returns-in-Some-as_str
returns-in-Some-as_str c =
    let found = table_get c.get.result c.args.key.now c.args.table.now.entries c.get.ensures.value in
    text_some _ (view c.in-Some.value.now) c.in-Some-as_str.text (rw c.in-Some.is at found) (sym c.in-Some-as_str.ensures)

pub returns-in-None-as_str : goal.returns-in-None-as_str
returns-in-None-as_str c =
    let found = table_get c.get.result c.args.key.now c.args.table.now.entries c.get.ensures.value in
    text_bad _ (view c.in-Some.value.now) (rw c.in-Some.is at found) (sym c.in-None-as_str.ensures)
