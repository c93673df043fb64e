use Rattle.reg_app.specs.Serving.{Period, Serves}
use Rattle.reg_app.proofs.server.serve_on.Given as goal

abbrev pub invariant-connections : goal.invariant-connections
invariant-connections g l = (period : Period g.K.Keep)
    × Serves g.R.Reload.looks l.fn.running.desk l.fn.running.callers l.fn.reload period l.running.desk l.running.callers l.reload
