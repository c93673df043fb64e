use Rattle.std.proofs.Common.{◌∙◌, Err, List, ℕ, ap, arith, length, subst}
use Rattle.ags_dict.specs.Entries.{Entries}
use Rattle.reg_desk.specs.Asked.{deposit}
use Rattle.reg_desk.specs.Serving.{IsRefusal, Serves}
use Rattle.reg_desk.proofs.Bodies.{refusal_is}
use Rattle.reg_desk.proofs.Taking.{deposit_refused}
use Rattle.reg_desk.proofs.serving.deposit.serve_deposit.Goals as goal

pub returns-then-bytes-gt-LIMIT : goal.returns-then-bytes-gt-LIMIT
returns-then-bytes-gt-LIMIT g c = λ rules day number permit.
    deposit_refused g.K.Keep rules c.args.caller.now c.args.project.now c.args.embargo c.args.bytes.now day c.args.keep.now _ number c.requires permit (omega arith)

pub returns-in-Err : goal.returns-in-Err
returns-in-Err g c = λ rules day number permit.
    let refusal = refusal_is c.dictionary.result.now c.args.bytes.now c.in-Err.error c.refusal_of.result (omega arith) (λ found e. c.in-Err.ensures.findings found (ap (λ x. Err x) e)) c.refusal_of.ensures.findings c.refusal_of.ensures.memory in
    deposit_refused g.K.Keep rules c.args.caller.now c.args.project.now c.args.embargo c.args.bytes.now day c.args.keep.now c.refusal_of.result number c.requires permit
    (subst (λ (e : Entries). IsRefusal e c.args.bytes.now c.refusal_of.result) c.dictionary.ensures refusal)

pub serve_checked-requires-clause-dictionary : goal.serve_checked-requires-clause-dictionary
serve_checked-requires-clause-dictionary g c = c.in-Ok.ensures.given ∙ c.dictionary.ensures

pub serve_checked-requires-clause-short : goal.serve_checked-requires-clause-short
serve_checked-requires-clause-short g c = omega (arith, c.if-bytes-gt-LIMIT.false, ap length c.in-Ok.ensures.bytes)

pub returns-in-Ok : goal.returns-in-Ok
returns-in-Ok g c = λ rules day number permit.
    subst (λ (b : List ℕ). Serves g.K.Keep rules (deposit c.args.caller.now c.args.project.now c.args.embargo b day) c.args.keep.now c.serve_checked.new.keep c.serve_checked.result)
    c.in-Ok.ensures.bytes (c.serve_checked.ensures rules day number permit)
