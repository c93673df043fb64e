use Rattle.std.proofs.Common.{◌∙◌, sym, ap, Err, Some, Bool}
use Rattle.reg_desk.specs.Serving.{terms_at}
use Rattle.reg_desk.proofs.Serves.{refused_serves, still_works}
use Rattle.reg_desk.proofs.Withdrawing.{withdraw_asks, withdraw_unknown, withdraw_again, withdraw_made, withdraw_refused, own_within, own_not_withdrawn}
use Rattle.reg_desk.proofs.serving.withdrawal.serve_withdraw.Goals as goal

pub returns-in-Err : goal.returns-in-Err
returns-in-Err g c = λ rules day number permit.
    rw c.refused.ensures
    (refused_serves g.K.Keep rules _ c.args.keep.now c.own_withdrawn.new.keep c.in-Err.error c.in-Err.ensures.reads
    (λ e. c.in-Err.ensures.refused (ap (λ x. Err x) e))
    (withdraw_asks (terms_at g.K.Keep rules c.args.keep.now) (g.K.Keep.deposits c.args.keep.now) c.args.caller.now
    c.args.project.now c.args.number day number permit))

pub returns-in-Ok-None : goal.returns-in-Ok-None
returns-in-Ok-None g c = λ rules day number permit.
    let own = rw c.in-Ok-None.field-0-is at c.in-Ok-None.ensures.own in
    withdraw_unknown g.K.Keep rules c.args.caller.now c.args.project.now c.args.number day c.args.keep.now
    c.own_withdrawn.new.keep number permit c.in-Ok-None.ensures.reads own

pub returns-in-Ok-Some-true : goal.returns-in-Ok-Some-true
returns-in-Ok-Some-true g c = λ rules day number permit.
    let own = rw c.in-Ok-Some-true.field-0-is at c.in-Ok-Some-true.ensures.own in
    withdraw_again g.K.Keep rules c.args.caller.now c.args.project.now c.args.number day c.args.keep.now
    c.own_withdrawn.new.keep number permit c.in-Ok-Some-true.ensures.reads
    (λ s. ap (λ (w : Bool). Some w) (sym c.in-Ok-Some-true.field-0-0-test) ∙ own s)

pub withdraw-requires-clause-working : goal.withdraw-requires-clause-working
withdraw-requires-clause-working g c = still_works g.K.Keep c.args.keep.now c.own_withdrawn.new.keep
    c.in-Ok-Some-false.ensures.reads

pub withdraw-requires-clause-number : goal.withdraw-requires-clause-number
withdraw-requires-clause-number g c =
    let own = rw c.in-Ok-Some-false.field-0-is at c.in-Ok-Some-false.ensures.own in
    own_within g.K.Keep c.args.caller.now c.args.project.now c.args.number c.args.keep.now c.own_withdrawn.new.keep _
    c.in-Ok-Some-false.ensures.reads own

pub withdraw-requires-clause-not_withdrawn : goal.withdraw-requires-clause-not_withdrawn
withdraw-requires-clause-not_withdrawn g c =
    let own = rw c.in-Ok-Some-false.field-0-is at c.in-Ok-Some-false.ensures.own in
    own_not_withdrawn g.K.Keep c.args.caller.now c.args.project.now c.args.number c.args.keep.now c.own_withdrawn.new.keep
    c.in-Ok-Some-false.ensures.reads
    (λ s. ap (λ (w : Bool). Some w) (sym c.in-Ok-Some-false.field-0-0-test) ∙ own s)

pub returns-in-Err-withdraw : goal.returns-in-Err-withdraw
returns-in-Err-withdraw g c = λ rules day number permit.
    let own = rw c.in-Ok-Some-false.field-0-is at c.in-Ok-Some-false.ensures.own in
    rw c.refused-in-Err-withdraw.ensures
    (withdraw_refused g.K.Keep rules c.args.caller.now c.args.project.now c.args.number day c.args.keep.now
    c.own_withdrawn.new.keep c.withdraw.new.self number c.in-Err-withdraw.error permit
    c.in-Ok-Some-false.ensures.reads (λ s. ap (λ (w : Bool). Some w) (sym c.in-Ok-Some-false.field-0-0-test) ∙ own s)
    c.in-Err-withdraw.ensures.leaves c.in-Err-withdraw.ensures.refused)

pub returns-in-Ok : goal.returns-in-Ok
returns-in-Ok g c = λ rules day number permit.
    let own = rw c.in-Ok-Some-false.field-0-is at c.in-Ok-Some-false.ensures.own in
    withdraw_made g.K.Keep rules c.args.caller.now c.args.project.now c.args.number day c.args.keep.now
    c.own_withdrawn.new.keep c.withdraw.new.self number c.in-Ok.field-0 permit
    c.in-Ok-Some-false.ensures.reads (λ s. ap (λ (w : Bool). Some w) (sym c.in-Ok-Some-false.field-0-0-test) ∙ own s)
    c.in-Ok.ensures.leaves
