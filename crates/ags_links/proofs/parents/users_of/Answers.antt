use Rattle.std.proofs.Common.{◌<◌, ◌∙◌, length, arith}
use Rattle.std.proofs.lemmas.List.{length-set}
use Rattle.ags_links.proofs.Using.{all_users, users_next}
use Rattle.ags_links.proofs.parents.users_of.Goals as goal

pub loop-number-preserved : goal.loop-number-preserved
loop-number-preserved c =
    let users = c.loop-number.users.items in
    let links = c.row.result.1.now in
    let below : links.lookup < length users = omega (arith, c.row.ensures.lookup, c.loop-number.invariant.size) in
    record {
      size = length-set users links.lookup c.push.new.self ∙ c.loop-number.invariant.size;
      users = users_next c.args.linked.now.filed.rows.now c.args.linked.now.of_groups.items users c.loop-number.number c.row.result.0.now links c.index_mut.result.now c.push.new.self c.loop-number.invariant.users c.row.ensures.row c.row.ensures.links below
          c.index_mut.ensures.value c.in_ok-push.ensures.items;
    }

pub returns-clause-users : goal.returns-clause-users
returns-clause-users c = all_users c.args.linked.now.filed.rows.now c.args.linked.now.of_groups.items c.loop-number.number c.loop-number.users.items c.loop-number-test.false c.loop-number.invariant.users
