use Rattle.toml.proofs.Views.{table_get}
use Rattle.toml.specs.View.{array_view, view}
use Rattle.reg_policy.proofs.Items.{array_is, no_array}
use Rattle.reg_policy.proofs.document.list_of.Goals as goal

pub returns-in-None : goal.returns-in-None
returns-in-None g c =
    let found = table_get c.get.result c.array_key.result.now c.args.document.now.entries c.get.ensures.value in
    rw (← c.array_key.ensures, ← rw c.in-None.is at found) c.new.ensures.items

pub returns-in-Some-as_array : goal.returns-in-Some-as_array
returns-in-Some-as_array g c =
    let found = table_get c.get.result c.array_key.result.now c.args.document.now.entries c.get.ensures.value in
    let same = c.deref.ensures.value in
    rw (← c.array_key.ensures, ← rw c.in-Some.is at found, ← array_is _ (array_view c.in-Some-as_array.items.now) c.in-Some-as_array.ensures)
    (rw same at c.items_of.ensures)

pub returns-in-None-as_array : goal.returns-in-None-as_array
returns-in-None-as_array g c =
    let found = table_get c.get.result c.array_key.result.now c.args.document.now.entries c.get.ensures.value in
    rw (← c.array_key.ensures)
    (no_array g.T.FromTable.says _ (view c.in-Some.value.now) (rw c.in-Some.is at found) c.in-None-as_array.ensures)
