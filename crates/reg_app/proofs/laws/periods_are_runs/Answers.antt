use Rattle.reg_app.proofs.ServingLemmas.{period_answered}
use Rattle.reg_app.proofs.laws.periods_are_runs.Goals as goal

pub returns : goal.returns
returns g c = λ first desk known callers source reload period served.
    c.steps_are_a_run.ensures period.begin desk period.requests period.answers
    (period_answered g.K.Keep g.R.Reload.looks first known source period desk callers reload served)
