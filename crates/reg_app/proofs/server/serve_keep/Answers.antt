use Rattle.reg_app.specs.Serving.{begins, starts}
use Rattle.reg_app.proofs.server.serve_keep.Goals as goal

pub returns-in-Ok : goal.returns-in-Ok
returns-in-Ok g c =
    let desk = c.new-desk.ensures in
    (c.new-desk.result, record { over_store = desk.keep; under_policy = desk.policy; works = desk.works }, c.serve_on-served.ensures)

pub returns : goal.returns
returns g c =
    let first = c.new-desk.result in
    let desk = c.new-desk.ensures in (
      first,
      record { over_store = desk.keep; under_policy = desk.policy; works = desk.works },
      (begins first, first, c.args.start.rights.callers, starts, c.into_keep.ensures),
    )
