use Rattle.reg_app.specs.Serving.{begins, starts}
use Rattle.reg_app.proofs.server.serve_on.Goals as goal

pub connections-init : goal.connections-init
connections-init g c = (begins c.args.running.desk, starts)

pub connections-preserved : goal.connections-preserved
connections-preserved g c =
    let before = c.connections.invariant in
    c.serve_connection-next.ensures c.args.running.desk c.args.running.callers c.args.reload.now before.0 before.1
