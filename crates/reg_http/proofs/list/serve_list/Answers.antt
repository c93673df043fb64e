use Rattle.std.proofs.Common.{◌+◌, ◌∙◌, arith, subst, ap, get_or}
use Rattle.reg_http.specs.Tallies.{IsFresh}
use Rattle.reg_desk.specs.Desks.{AnsweredBy}
use Rattle.reg_http.proofs.ListLemmas.{SoFar-next, SoFar-end, fresh_at}
use Rattle.reg_http.proofs.list.serve_list.Goals as goal

pub serve_pair-served-requires-clause-reader_fresh : goal.serve_pair-served-requires-clause-reader_fresh
serve_pair-served-requires-clause-reader_fresh g c =
    let so = c.loop-connection.invariant.so_far in
    let both = fresh_at c.args.connections.now c.loop-connection.connections c.loop-connection.connection-index c.connection-item.result c.requires so.rest
    (omega arith) c.connection-item.is in
    subst (λ x. IsFresh x.0) c.connection-item.is both.0

pub serve_pair-served-requires-clause-writer_fresh : goal.serve_pair-served-requires-clause-writer_fresh
serve_pair-served-requires-clause-writer_fresh g c =
    let so = c.loop-connection.invariant.so_far in
    let both = fresh_at c.args.connections.now c.loop-connection.connections c.loop-connection.connection-index c.connection-item.result c.requires so.rest
    (omega arith) c.connection-item.is in
    subst (λ x. IsFresh x.1) c.connection-item.is both.1

pub returns-clause-served : goal.returns-clause-served
returns-clause-served g c = SoFar-end _ _ _ _ _ _ _ _ _ _ _ c.loop-connection.invariant.so_far (omega arith)

pub loop-connection-preserved : goal.loop-connection-preserved
loop-connection-preserved g c =
    let so = c.loop-connection.invariant.so_far in
    let now = c.loop-connection.connections in
    let i = c.loop-connection.connection-index in
    let item = ap (λ x. get_or now i x) c.connection-item.is in
    let next =
    SoFar-next (AnsweredBy g.K.Keep) g.R.Read.remaining g.W.Write.contents c.args.callers.now c.args.day c.args.connections.now now c.loop-connection.results.items c.push.new.self.items i
    c.args.desk.now c.loop-connection.desk c.serve_pair-served.new.desk (get_or now i c.connection-item.result) c.serve_pair-served.new.connection c.serve_pair-served.result
    so (omega arith) item c.in-Ok.ensures.items c.serve_pair-served.ensures in
    record {
      so_far = next;
      count = c.in-Ok.ensures.len ∙ ap (λ k. k + 1) c.loop-connection.invariant.count;
      room = omega (arith, next.same_length, so.same_length, c.loop-connection.invariant.room, c.in-Ok.ensures.capacity);
    }
