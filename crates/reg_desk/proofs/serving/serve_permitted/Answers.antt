use Rattle.reg_desk.proofs.Bodies.{check_answered}
use Rattle.reg_desk.proofs.serving.serve_permitted.Goals as goal

pub returns-in-Deposit-clause-serves : goal.returns-in-Deposit-clause-serves
returns-in-Deposit-clause-serves g c = rw c.in-Deposit.is (c.serve_deposit.ensures c.args.policy.now _)

pub returns-in-Check-clause-serves : goal.returns-in-Check-clause-serves
returns-in-Check-clause-serves g c = rw c.in-Check.is (λ number permit.
    check_answered g.K.Keep c.args.policy.now _ _ c.in-Check.bytes.now _ c.args.keep.now c.dictionary.result.now c.check_body.result number c.requires permit c.dictionary.ensures c.check_body.ensures)

pub returns-in-List-clause-serves : goal.returns-in-List-clause-serves
returns-in-List-clause-serves g c = rw c.in-List.is c.serve_listing.ensures

pub returns-in-Extract-clause-serves : goal.returns-in-Extract-clause-serves
returns-in-Extract-clause-serves g c = rw c.in-Extract.is c.serve_extract.ensures.serves

pub returns-in-Withdraw-clause-serves : goal.returns-in-Withdraw-clause-serves
returns-in-Withdraw-clause-serves g c = rw c.in-Withdraw.is (c.serve_withdraw.ensures c.args.policy.now _)

pub returns-in-Deposit-clause-rows : goal.returns-in-Deposit-clause-rows
returns-in-Deposit-clause-rows g c = rw c.in-Deposit.is tt

pub returns-in-Check-clause-rows : goal.returns-in-Check-clause-rows
returns-in-Check-clause-rows g c = rw c.in-Check.is tt

pub returns-in-List-clause-rows : goal.returns-in-List-clause-rows
returns-in-List-clause-rows g c = rw c.in-List.is tt

pub returns-in-Extract-clause-rows : goal.returns-in-Extract-clause-rows
returns-in-Extract-clause-rows g c = rw c.in-Extract.is c.serve_extract.ensures.rows

pub returns-in-Withdraw-clause-rows : goal.returns-in-Withdraw-clause-rows
returns-in-Withdraw-clause-rows g c = rw c.in-Withdraw.is tt
