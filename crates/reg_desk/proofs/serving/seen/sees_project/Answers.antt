use Rattle.std.proofs.Common.{Bool, sym, subst}
use Rattle.std.proofs.lemmas.Result.{IfOk-weaker}
use Rattle.reg_store.specs.Fit.{kept_rows}
use Rattle.reg_store.specs.Keep.{fails}
use Rattle.reg_store.specs.Project.{AreProjectRows}
use Rattle.reg_desk.proofs.Drawing.{kept_lives, reads_answered}
use Rattle.reg_desk.proofs.Serves.{reads_once}
use Rattle.reg_desk.proofs.serving.seen.sees_project.Goals as goal

pub returns-clause-reads : goal.returns-clause-reads
returns-clause-reads g c =
    let first = reads_once g.K.Keep c.args.keep.now c.project_rows.new.self _ c.in_ok-rows.ensures.leaves in
    reads_answered g.K.Keep _ _ (fails c.shows_rows.result) first
    (λ s.
    let s0 = first.sound s in
    kept_lives g.K.Keep c.args.keep.now c.args.number c.shows_rows.result (c.requires.number s0) (g.met.K.Keep.fit c.args.keep.now s0 c.requires.working)
    (λ e d file at is. c.shows_rows.ensures.broken e file is.clean (subst (AreProjectRows (kept_rows file.groups) file.graph.steps) (sym c.deref.ensures.value) (c.in_ok-rows.ensures.read s d file at is))))

pub returns-clause-seen : goal.returns-clause-seen
returns-clause-seen g c = λ s.
    IfOk-weaker c.shows_rows.result _ _ (λ (seen : Bool) sees d file at is. sees file is.clean (subst (AreProjectRows (kept_rows file.groups) file.graph.steps) (sym c.deref.ensures.value) (c.in_ok-rows.ensures.read s d file at is))) c.shows_rows.ensures.seen
