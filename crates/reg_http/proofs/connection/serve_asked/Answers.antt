use Rattle.std.proofs.Common.{Ok, Err, ap, ◌∙◌}
use Rattle.reg_http.specs.Asks.{asked_with}
use Rattle.reg_desk.specs.Desks.{AnsweredBy}
use Rattle.reg_http.specs.Views.{asking_at}
use Rattle.reg_http.proofs.ServeLemmas.{body_of, rest_of, served_body, served_short, served_spent}
use Rattle.reg_http.specs.declared.error.BodyFault.TheVariants as ended
use Rattle.reg_http.proofs.connection.serve_asked.Goals as goal

pub returns-clause-served : goal.returns-clause-served
returns-clause-served g c =
    let came = body_of _ c.args.early.now c.args.asking.now.length (Ok c.in-Ok.body) c.in-Ok.ensures.body c.in-Ok.ensures.fits in
    let request = c.request-request.ensures ∙ ap (λ t. asked_with (asking_at c.args.asking.now) t c.args.day) c.deref.ensures.value in
    (came.0, came.1, served_body (AnsweredBy g.K.Keep) _ _ _ _ came.0 c.in-Ok.body _ _ _ _ came.2 request c.serve_request.ensures.served c.serve_request.ensures.no_read)

pub returns-in-Err-Short-clause-served : goal.returns-in-Err-Short-clause-served
returns-in-Err-Short-clause-served g c =
    let came = body_of _ c.args.early.now c.args.asking.now.length (Err ended.Short) (rw c.in-Err-Short.field-0-is at c.in-Err-Short.ensures.body) (rw c.in-Err-Short.field-0-is at c.in-Err-Short.ensures.fits) in
    (came.0, came.1, served_short (AnsweredBy g.K.Keep) _ _ _ _ came.0 _ c.refuse.result came.2 c.refuse.ensures.written)

pub returns-in-Err-Read-clause-served : goal.returns-in-Err-Read-clause-served
returns-in-Err-Read-clause-served g c = let came = rest_of _ c.args.early.now in (came.0, came.1, tt)

pub returns-in-Err-Memory-clause-served : goal.returns-in-Err-Memory-clause-served
returns-in-Err-Memory-clause-served g c =
    let came = rest_of _ c.args.early.now in
    (came.0, came.1, served_spent (AnsweredBy g.K.Keep) _ _ _ _ came.0 _ _ c.refuse-in-Err-Memory.ensures.written)

pub returns-in_default-clause-served : goal.returns-in_default-clause-served
returns-in_default-clause-served g c =
    let came = rest_of _ c.args.early.now in
    (came.0, came.1, served_spent (AnsweredBy g.K.Keep) _ _ _ _ came.0 _ _ c.refuse-in_default.ensures.written)
