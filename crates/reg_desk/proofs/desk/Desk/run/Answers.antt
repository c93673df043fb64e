use Rattle.std.proofs.Common.{◌≡◌, ◌∙◌, sym, ap, subst, refl, ◌+◌, List, [], ◌∷◌, ◌++◌, get_or, map, take, arith}
use Rattle.std.proofs.lemmas.List.{map-append, take_all, take_more}
use Rattle.reg_desk.specs.Asked.{Asked, asked}
use Rattle.reg_desk.specs.declared.answer.Answer.{Answer}
use Rattle.reg_desk.specs.declared.request.Request.{Request}
use Rattle.reg_desk.specs.Desks.{AreAnsweredBy}
use Rattle.reg_desk.proofs.Running.{steps_run, answered_more}
use Rattle.reg_desk.proofs.desk.Desk.run.Goals as goal

pub loop-request-init : goal.loop-request-init
loop-request-init g c = record {
  count = c.in_ok-answers.ensures.len;
  room = omega (arith, c.in_ok-answers.ensures.capacity);
  answered = subst (λ (l : List Answer). AreAnsweredBy g.K.Keep c.args.self.now [] l c.args.self.now) (sym c.in_ok-answers.ensures.items) refl;
}

pub loop-request-preserved : goal.loop-request-preserved
loop-request-preserved g c =
    let desk = c.args.self.now in
    let new = c.answer-answer.new.self in
    let i = c.loop-request.request-index in
    let was = c.loop-request.invariant in
    let requests = c.args.requests.now in
    let more : map asked (take (i + 1) requests) ≡ map asked (take i requests) ++ asked c.request-item.result ∷ [] =
    ap (map asked) (take_more requests i c.request-item.result c.loop-request-test.true)
    ∙ map-append asked (take i requests) (get_or requests i c.request-item.result ∷ [])
    ∙ ap (λ (r : Request). map asked (take i requests) ++ asked r ∷ []) (sym c.request-item.is) in
    record {
      count = omega (arith, c.push_answer.ensures.len, was.count);
      room = omega (arith, c.push_answer.ensures.room, was.room);
      answered =
          subst (λ (l : List Asked). AreAnsweredBy g.K.Keep desk l c.push_answer.new.answers.items new) (sym more)
          (subst (λ (l : List Answer). AreAnsweredBy g.K.Keep desk (map asked (take i requests) ++ asked c.request-item.result ∷ []) l new) (sym c.push_answer.ensures.answers)
          (answered_more g.K.Keep desk c.loop-request.self new (map asked (take i requests)) c.loop-request.answers.items (asked c.request-item.result) c.answer-answer.result was.answered c.answer-answer.ensures.answered));
    }

pub returns-clause-answered : goal.returns-clause-answered
returns-clause-answered g c =
    subst (λ (l : List Request). AreAnsweredBy g.K.Keep c.args.self.now (map asked l) c.loop-request.answers.items c.loop-request.self)
    (take_all c.loop-request.request-index c.args.requests.now c.loop-request-test.false) c.loop-request.invariant.answered

pub returns-clause-runs : goal.returns-clause-runs
returns-clause-runs g c =
    (steps_run g.K.Keep g.met.K.Keep.settled g.met.K.Keep.unbroken c.args.self.now c.loop-request.self (map asked c.args.requests.now) c.loop-request.answers.items (returns-clause-answered g c)).0

pub returns-clause-receipts : goal.returns-clause-receipts
returns-clause-receipts g c =
    (steps_run g.K.Keep g.met.K.Keep.settled g.met.K.Keep.unbroken c.args.self.now c.loop-request.self (map asked c.args.requests.now) c.loop-request.answers.items (returns-clause-answered g c)).1
