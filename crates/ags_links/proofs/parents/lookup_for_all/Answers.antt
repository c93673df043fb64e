use Rattle.std.proofs.Common.{◌≡◌, [], None, map, subst}
use Rattle.ags_links.specs.Families.{HasAmong, HasEntries}
use Rattle.ags_links.specs.Lookups.{Finds, FindsAsked, found}
use Rattle.ags_links.specs.ParentRows.{HasAskedAmong, IsAskedOf, link_names}
use Rattle.ags_links.specs.Placing.{row_of}
use Rattle.ags_links.proofs.Asking.{finds_all, finds_users, users_ask}
use Rattle.ags_links.proofs.Finding.{finds_asked}
use Rattle.ags_links.proofs.Kept.{texts}
use Rattle.ags_links.proofs.parents.lookup_for_all.Goals as goal

pub returns-then-users-numbers : goal.returns-then-users-numbers
returns-then-users-numbers c =
    let rows = c.args.linked.now.filed.rows.now in
    let of_groups = c.args.linked.now.of_groups.items in
    let numbers = c.args.links.now.rows.now in
    let place = c.args.place in
    let lookup = c.in_ok-some.some in
    subst (λ hs. FindsAsked lookup (IsAskedOf rows of_groups place) (HasAmong numbers (map row_of rows) (HasEntries (texts hs)))) c.as_slice-headings.ensures.value
    (finds_users lookup (λ q. found c.in_ok-asked.asked q ≡ [] → ⊥) numbers rows of_groups place (texts c.as_slice-headings.result.now) (users_ask rows of_groups place c.args.users.now c.in_ok-asked.asked c.requires.users c.in_ok-asked.ensures) c.in_ok-some.ensures)

pub returns : goal.returns
returns c =
    let rows = c.args.linked.now.filed.rows.now in
    let numbers = c.args.links.now.rows.now in
    let lookup = c.in_ok-all.all in
    let Has = HasAmong numbers (map row_of rows) (HasEntries (link_names c.args.links.now)) in
    finds_asked lookup (IsAskedOf rows c.args.linked.now.of_groups.items c.args.place) Has Has
    (finds_all lookup numbers rows (link_names c.args.links.now) (subst (λ hs. Finds lookup (HasAskedAmong None numbers rows (texts hs))) c.as_slice-headings.ensures.value c.in_ok-all.ensures))
    (λ m text asked h. h) (λ m text asked h. h)
