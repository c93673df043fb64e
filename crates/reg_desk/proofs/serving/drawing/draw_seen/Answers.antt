use Rattle.std.proofs.Common.{ℕ, List, Vec, Global, sym, subst}
use Rattle.std.proofs.lemmas.Result.{IfOk-weaker}
use Rattle.reg_store.specs.Keep.{fails}
use Rattle.reg_store.specs.declared.keep.KeptRow.{KeptRow}
use Rattle.reg_desk.specs.View.{IsViewOf}
use Rattle.reg_desk.proofs.Drawing.{kept_lives, reads_answered}
use Rattle.reg_desk.proofs.serving.drawing.draw_seen.Goals as goal

pub returns-clause-reads : goal.returns-clause-reads
returns-clause-reads g c =
    let then = c.in_ok-rows.ensures.reads in
    reads_answered g.K.Keep _ _ (fails c.extract.result) then
    (λ s.
    let s0 = then.sound s in
    kept_lives g.K.Keep c.args.keep.now c.args.number c.extract.result (c.requires.number s0) (g.met.K.Keep.fit c.args.keep.now s0 c.requires.working)
    (λ e d file at is. c.extract.ensures.broken e file (subst (λ (r : List KeptRow). IsViewOf r c.in_ok-rows.graph file) (sym c.deref.ensures.value) (c.in_ok-rows.ensures.seen s d file at is))))

pub returns-clause-drawn : goal.returns-clause-drawn
returns-clause-drawn g c = λ s.
    IfOk-weaker c.extract.result _ _ (λ (text : Vec ℕ Global) drawn d file at is. drawn file (subst (λ (r : List KeptRow). IsViewOf r c.in_ok-rows.graph file) (sym c.deref.ensures.value) (c.in_ok-rows.ensures.seen s d file at is)))
    c.extract.ensures.drawn
