use Rattle.std.proofs.Common.{sym, ap, ◌∙◌}
use Rattle.reg_tables.specs.declared.memory.digests.Digests.{Digests}
use Rattle.reg_tables.specs.Private.Digests.{numbers_under}
use Rattle.reg_tables.proofs.RepeatsLemmas.{room_made}
use Rattle.reg_tables.proofs.memory.digests.Digests.make_room.Goals as goal
use Rattle.reg_tables.proofs.memory.digests.Digests.make_room.Goals.{then-not-contains_key+in_ok-insert+in-Some-1, then-not-contains_key+in_ok-insert+in-None-1, else-not-contains_key}

pub returns-clause-same : goal.returns-clause-same
returns-clause-same c other =
    let under = λ (digests : Digests). numbers_under digests other in
    let old = c.args.self.now.held in
    elim c.if-not-contains_key.branch [
      | then-not-contains_key+in_ok-insert+in-Some-1 w ↦ ap under w.self-is ∙ room_made old w.insert.new.self c.args.digest.now w.new.result (sym c.contains_key.ensures ∙ w.if-not-contains_key.true) w.new.ensures.items w.in_ok-insert.ensures.updates other
      | then-not-contains_key+in_ok-insert+in-None-1 w ↦ ap under w.self-is ∙ room_made old w.insert.new.self c.args.digest.now w.new.result (sym c.contains_key.ensures ∙ w.if-not-contains_key.true) w.new.ensures.items w.in_ok-insert.ensures.updates other
      | else-not-contains_key w ↦ ap under w.self-is
    ]
