use Rattle.std.proofs.Common.{◌≡◌, ◌+◌, ◌++◌, ◌∙◌, length, take, drop, ap, sym, subst, arith}
use Rattle.ags_links.specs.ParentRows.{AreListed, AreNumbers, AreSpansOf}
use Rattle.ags_links.proofs.Growing.{written_back}
use Rattle.ags_links.proofs.Listing.{none_listed, listed_next}
use Rattle.ags_links.proofs.Using.{users_at, users_below}
use Rattle.ags_links.proofs.listed_parents.lists_of_lookups.Goals as goal

pub lookup_at-requires-clause-numbers : goal.lookup_at-requires-clause-numbers
lookup_at-requires-clause-numbers c = subst (AreNumbers (length c.args.linked.now.filed.rows.now)) (sym c.index-links-place.is) (c.requires.numbers c.loop-place.place c.index-links-place.result c.loop-place-test.true)

pub lookup_at-requires-clause-users : goal.lookup_at-requires-clause-users
lookup_at-requires-clause-users c =
    users_at c.args.linked.now.filed.rows.now c.args.linked.now.of_groups.items c.loop-place.place c.args.users.now c.index-users-place.result c.as_slice-used_by.result.now c.requires.users (omega (arith, c.loop-place-test.true, c.requires.size)) c.index-users-place.is c.as_slice-used_by.ensures.value

pub lookup_at-requires-clause-below : goal.lookup_at-requires-clause-below
lookup_at-requires-clause-below c =
    users_below c.args.linked.now.filed.rows.now c.args.linked.now.of_groups.items c.loop-place.place c.as_slice-used_by.result.now
    (users_at c.args.linked.now.filed.rows.now c.args.linked.now.of_groups.items c.loop-place.place c.args.users.now c.index-users-place.result c.as_slice-used_by.result.now c.requires.users (omega (arith, c.loop-place-test.true, c.requires.size)) c.index-users-place.is c.as_slice-used_by.ensures.value)

pub note_spans-requires-clause-below : goal.note_spans-requires-clause-below
note_spans-requires-clause-below c =
    users_below c.args.linked.now.filed.rows.now c.args.linked.now.of_groups.items c.loop-place.place c.as_slice-used_by.result.now
    (users_at c.args.linked.now.filed.rows.now c.args.linked.now.of_groups.items c.loop-place.place c.args.users.now c.index-users-place.result c.as_slice-used_by.result.now c.requires.users (omega (arith, c.loop-place-test.true, c.requires.size)) c.index-users-place.is c.as_slice-used_by.ensures.value)

pub loop-place-preserved : goal.loop-place-preserved
loop-place-preserved c =
    let rows = c.args.linked.now.filed.rows.now in
    let of_groups = c.args.linked.now.of_groups.items in
    let links = c.args.links.now in
    let i = c.loop-place.place in
    let used_by = c.as_slice-used_by.result.now in
    let spans = c.loop-place.spans in
    let new = c.note_spans.new.spans in
    let left : take spans.len (new ++ drop (length new) spans.items) ≡ new =
    written_back spans.len new spans.items (omega (arith, spans.ok.0)) (omega (arith, c.note_spans.auto.spans, ap length c.deref_mut.ensures.value)) in
    subst (AreListed rows of_groups (take (i + 1) links) c.push.new.self.items) (sym left)
    (rw c.in_ok-push.ensures.items
    (listed_next rows of_groups links i c.loop-place.lists.items spans.items new used_by c.index-links-place.result c.in_ok-lookup.lookup c.in_ok-list.list c.loop-place-test.true c.index-links-place.is c.loop-place.invariant c.in_ok-lookup.ensures
    (c.in_ok-list.ensures.items ∙ c.all_rows.ensures)
    (users_at rows of_groups i c.args.users.now c.index-users-place.result used_by c.requires.users (omega (arith, c.loop-place-test.true, c.requires.size)) c.index-users-place.is c.as_slice-used_by.ensures.value)
    (subst (λ old. AreSpansOf rows of_groups c.in_ok-lookup.lookup used_by old new) c.deref_mut.ensures.value c.in_ok-note_spans.ensures)))

pub loop-place-init : goal.loop-place-init
loop-place-init c =
    none_listed c.args.linked.now.filed.rows.now c.args.linked.now.of_groups.items c.new-lists.result.items c.in_ok-spans.spans.items c.new-lists.ensures.items (omega (arith, c.in_ok-spans.spans.ok.0, c.in_ok-spans.ensures.len))
