use Rattle.std.proofs.Common.{sym, subst}
use Rattle.ags_links.specs.ParentRows.{HaveUsers}
use Rattle.ags_links.proofs.listed_parents.used_lists.Goals as goal

pub lists_of_lookups-requires-clause-users : goal.lists_of_lookups-requires-clause-users
lists_of_lookups-requires-clause-users c = subst (HaveUsers c.args.linked.now.filed.rows.now c.args.linked.now.of_groups.items) (sym c.deref-2.ensures.value) c.in_ok-users.ensures.users
