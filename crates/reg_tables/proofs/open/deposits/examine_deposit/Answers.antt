use Rattle.std.specs.Prelude.{Option, IfSome}
use Rattle.std.proofs.Common.{subst}
use Rattle.sqlite.specs.Held.{state}
use Rattle.reg_tables.specs.declared.open.head.DigestedHead.{DigestedHead}
use Rattle.reg_tables.specs.Private.Heads.{IsDigestedAt}
use Rattle.reg_tables.proofs.open.deposits.examine_deposit.Goals as goal

pub returns-clause-put : goal.returns-clause-put
returns-clause-put g c = λ _.
    let old = state g.S.Store c.args.conn.now in (
      c.in-Some.one,
      c.in_ok-push.ensures.items,
      c.in_ok-add.ensures,
      λ clean. subst (λ (found : Option DigestedHead). IfSome found (IsDigestedAt old.now c.args.dictionary.now c.args.number)) c.in-Some.is (c.in_ok-one.ensures.head clean),
    )
