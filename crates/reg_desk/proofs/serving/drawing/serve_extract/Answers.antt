use Rattle.std.proofs.Common.{ap, Err}
use Rattle.reg_desk.specs.Asked.{names_in}
use Rattle.reg_desk.specs.declared.answer.Answer.TheVariants.{Unknown, Text}
use Rattle.reg_desk.specs.Serving.{IsAnswerOfRows, answer_of}
use Rattle.reg_desk.proofs.Drawing.{extract_asks, extract_replies}
use Rattle.reg_desk.proofs.Serves.{refused_serves}
use Rattle.reg_store.specs.declared.keep.KeepError.{KeepError}
use Rattle.reg_store.specs.declared.keep.KeepError.TheVariants as errors
use Rattle.reg_desk.proofs.serving.drawing.serve_extract.Goals as goal

no_text : (e : KeepError) → IsAnswerOfRows (answer_of e)
no_text errors.Full = tt
no_text errors.Store = tt
no_text errors.NoMemory = tt

pub returns-in-Err-clause-serves : goal.returns-in-Err-clause-serves
returns-in-Err-clause-serves g c = λ number permit.
    rw c.refused.ensures
    (refused_serves g.K.Keep c.args.policy.now _ c.args.keep.now c.draw.new.keep c.in-Err.error c.in-Err.ensures.reads (λ e. c.in-Err.ensures.refused (ap (λ x. Err x) e))
    (extract_asks g.K.Keep c.args.policy.now c.args.caller.now c.args.project.now c.args.number (names_in c.args.groups.now) c.args.day c.args.keep.now number permit))

pub returns-in-Ok-None-clause-serves : goal.returns-in-Ok-None-clause-serves
returns-in-Ok-None-clause-serves g c = λ number permit.
    let drawn = rw c.in-Ok-None.field-0-is at c.in-Ok-None.ensures.drawn in
    extract_replies g.K.Keep c.args.policy.now c.args.caller.now c.args.project.now c.args.number (names_in c.args.groups.now) c.args.day c.args.keep.now c.draw.new.keep number Unknown permit c.in-Ok-None.ensures.reads tt drawn

pub returns-in-Ok-Some-clause-serves : goal.returns-in-Ok-Some-clause-serves
returns-in-Ok-Some-clause-serves g c = λ number permit.
    let drawn = rw c.in-Ok-Some.field-0-is at c.in-Ok-Some.ensures.drawn in
    rw c.from_vec.ensures
    (extract_replies g.K.Keep c.args.policy.now c.args.caller.now c.args.project.now c.args.number (names_in c.args.groups.now) c.args.day c.args.keep.now c.draw.new.keep number (Text c.in-Ok-Some.text.items) permit c.in-Ok-Some.ensures.reads tt drawn)

pub returns-in-Err-clause-rows : goal.returns-in-Err-clause-rows
returns-in-Err-clause-rows g c = rw c.refused.ensures (no_text c.in-Err.error)

pub returns-in-Ok-Some-clause-rows : goal.returns-in-Ok-Some-clause-rows
returns-in-Ok-Some-clause-rows g c =
    rw c.from_vec.ensures (rw c.in-Ok-Some.field-0-is at c.in-Ok-Some.ensures.rows)
