use Rattle.std.proofs.Common.{ℕ, ◌∙◌, ap, sym}
use Rattle.reg_policy.specs.Decision.{decision_of}
use Rattle.reg_desk.specs.Asked.{Asked, asked, extract}
use Rattle.reg_desk.specs.Serving.{ShowsRows}
use Rattle.reg_desk.specs.declared.answer.Answer.TheVariants.{Denied}
use Rattle.reg_desk.proofs.Serves.{denied_serves}
use Rattle.reg_desk.proofs.serving.serve.Goals as goal

-- a denial is no text
denied_rows : (request : Asked) (n : ℕ) → ShowsRows request (Denied n)
denied_rows (extract caller project number groups day) n = tt
denied_rows request n = tt

pub returns-in-Deny-clause-serves : goal.returns-in-Deny-clause-serves
returns-in-Deny-clause-serves g c =
    denied_serves g.K.Keep c.args.policy.now (asked c.args.request.now) c.args.keep.now c.in-Deny.rule c.requires
    (sym (c.decide.ensures.decides ∙ ap (decision_of c.args.policy.now) c.subject_of.ensures) ∙ c.in-Deny.is)

pub returns-in-Deny-clause-rows : goal.returns-in-Deny-clause-rows
returns-in-Deny-clause-rows g c = denied_rows (asked c.args.request.now) c.in-Deny.rule

pub returns-in-Permit-clause-serves : goal.returns-in-Permit-clause-serves
returns-in-Permit-clause-serves g c =
    c.serve_permitted.ensures.serves c.in-Permit._rule
    (sym (c.decide.ensures.decides ∙ ap (decision_of c.args.policy.now) c.subject_of.ensures) ∙ c.in-Permit.is)
