use Rattle.std.proofs.Common.{◌≡◌, List, Bor, map, take, ap, ◌∙◌, arith}
use Rattle.std.proofs.lemmas.List.{take_all, length-map}
use Rattle.ags_dict.specs.declared.entries.HeadingEntry.{HeadingEntry}
use Rattle.ags_dict.specs.Entries.{Entries, order_of}
use Rattle.ags_dict.proofs.Picked.{picked_each}
use Rattle.ags_dict.proofs.dictionary.Dictionary.order.Goals as goal

pub loop-entry-preserved : goal.loop-entry-preserved
loop-entry-preserved c =
    rw c.in_ok-push.ensures.items
    (picked_each (λ e. e.heading) c.deref-entry-items.result.now c.loop-entry.entry-index c.entry-item.result c.loop-entry.order.items c.as_slice.result
    c.loop-entry-test.true c.entry-item.is c.as_slice.ensures c.loop-entry.invariant)

pub returns : goal.returns
returns c =
    let refs = c.deref-entry-items.result.now in
    let entries : List (Bor HeadingEntry) → List HeadingEntry = map (λ (r : Bor HeadingEntry). r.now) in
    let all : take c.loop-entry.entry-index (entries refs) ≡ entries refs = take_all c.loop-entry.entry-index (entries refs) (omega (arith, length-map refs (λ (r : Bor HeadingEntry). r.now), c.loop-entry-test.false)) in
    c.loop-entry.invariant ∙ ap (λ (l : List HeadingEntry). map (λ e. e.heading) l) (all ∙ ap entries c.deref-entry-items.ensures.value ∙ c.in_ok-entries.ensures)
    ∙ ap (λ (e : Entries). order_of e c.args.group.now) c.self.view_is
