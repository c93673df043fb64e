use Rattle.std.proofs.Common.{◌∙◌, sym, refl}
use Rattle.std.proofs.lemmas.Bool.{true≢false}
use Rattle.reg_desk.specs.Asked.{Asked, asked, extract}
use Rattle.reg_desk.specs.Serving.{ShowsRows}
use Rattle.reg_desk.specs.declared.answer.Answer.TheVariants.{StoreFailed}
use Rattle.reg_desk.proofs.Drawn.{clean_text, same_answer}
use Rattle.reg_desk.proofs.Running.{ends_run}
use Rattle.reg_desk.proofs.desk.Desk.answer.Goals as goal

-- a failed desk answers nothing else
failed_rows : (request : Asked) → ShowsRows request StoreFailed
failed_rows (extract caller project number groups day) = tt
failed_rows request = tt

pub returns-then-self-clause-answered : goal.returns-then-self-clause-answered
returns-then-self-clause-answered g c = record {
  policy = refl;
  failed = c.if-self.true;
  stuck = λ e. (refl, refl);
  served = λ e. absurd (true≢false (sym c.if-self.true ∙ e));
  rows = failed_rows (asked c.args.request.now);
}

pub returns-then-self-clause-run : goal.returns-then-self-clause-run
returns-then-self-clause-run g c =
    ends_run g.K.Keep g.met.K.Keep.settled g.met.K.Keep.unbroken c.args.self.now _ (asked c.args.request.now) _ (returns-then-self-clause-answered g c)

pub returns-clause-answered : goal.returns-clause-answered
returns-clause-answered g c = record {
  policy = refl;
  failed = c.is_store_failed-self.ensures;
  stuck = λ e. absurd (true≢false (sym e ∙ c.if-self.false));
  served = λ e. c.serve-answer.ensures.serves;
  rows = c.serve-answer.ensures.rows;
}

pub returns-clause-run : goal.returns-clause-run
returns-clause-run g c =
    ends_run g.K.Keep g.met.K.Keep.settled g.met.K.Keep.unbroken c.args.self.now _ (asked c.args.request.now) _ (returns-clause-answered g c)

pub returns-clause-clean : goal.returns-clause-clean
returns-clause-clean g c = λ s.
    clean_text g.K.Keep c.args.self.now.policy (asked c.args.request.now) c.args.self.now.keep c.serve-answer.new.keep c.serve-answer.result c.serve-answer.ensures.serves s

pub returns-clause-same : goal.returns-clause-same
returns-clause-same g c = λ s.
    same_answer g.K.Keep c.args.self.now.policy (asked c.args.request.now) c.args.self.now.keep c.serve-answer.new.keep c.serve-answer.result c.serve-answer.ensures.serves s
