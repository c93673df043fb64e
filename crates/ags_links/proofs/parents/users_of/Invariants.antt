use Rattle.std.proofs.Common.{◌≡◌, length}
use Rattle.ags_links.proofs.Using.{UsersBefore}
use Rattle.ags_links.proofs.parents.users_of.Given as goal

abbrev pub invariant-loop-number : goal.invariant-loop-number
invariant-loop-number l = record {
  size : length l.users.items ≡ length l.linked.of_groups.items;
  users : UsersBefore l.linked.filed.rows.now l.linked.of_groups.items l.number l.users.items;
}
