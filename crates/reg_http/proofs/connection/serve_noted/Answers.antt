use Rattle.reg_http.proofs.WriteLemmas.{take-rest}
use Rattle.reg_http.proofs.ServeLemmas.{head_named, nothing_said, of_named, serve_bad, serve_silent, served_whole, silent_bad, silent_same, silent_whole, some_bad, waits_body, waits_head}
use Rattle.std.proofs.Common.{[], Some, arith, refl, rules, sym, take, ◌∙◌}
use Rattle.reg_desk.specs.Desks.{AnsweredBy}
use Rattle.reg_http.proofs.connection.serve_noted.Goals as goal

pub returns-in-Empty : goal.returns-in-Empty
returns-in-Empty g c = record {
  served = serve_silent _ _ _ _ _ _ c.in-Empty.ensures.head;
  unnamed = ([], serve_silent (AnsweredBy g.K.Keep) _ _ (Some []) _ _ refl);
  read_fault = c.in-Empty.ensures.fault;
  write_fault = c.requires.writer_fresh.no_fault;
  unread = search rules;
  silent = silent_same _ _ refl;
  calls = omega (arith, c.in-Empty.ensures.calls);
  waits = waits_head _ _ _ _ (omega (arith, c.in-Empty.ensures.calls));
}

pub returns-in-Fault : goal.returns-in-Fault
returns-in-Fault g c = record {
  served = nothing_said _;
  unnamed = ([], tt);
  read_fault = c.in-Fault.ensures.fault;
  write_fault = c.requires.writer_fresh.no_fault;
  unread = λ is. (refl, refl);
  silent = silent_same _ _ refl;
  calls = omega (arith, c.in-Fault.ensures.calls);
  waits = waits_head _ _ _ _ c.in-Fault.ensures.calls;
}

pub returns-in-Bad : goal.returns-in-Bad
returns-in-Bad g c = record {
  served = serve_bad _ _ _ _ _ _ _ _ c.in-Bad.ensures.head c.refuse.ensures.written;
  unnamed = some_bad _ _ _ _ _ _ _ c.refuse.ensures.written;
  read_fault = c.in-Bad.ensures.fault ∙ sym c.refuse.ensures.no_read;
  write_fault = c.refuse.ensures.write_fault;
  unread = search rules;
  silent = silent_bad _ _ c.in-Bad.ensures.head;
  calls = omega (arith, c.in-Bad.ensures.calls);
  waits = waits_head _ _ _ _ c.in-Bad.ensures.calls;
}

pub returns-in-Whole : goal.returns-in-Whole
returns-in-Whole g c =
    let (held, small) = c.in-Whole.ensures.held in
    let reads = c.head_parts-parts.ensures in
    let heads = head_named _ _ c.receive_head.new.buf c.receive_head.new.headers c.in-Whole.spans c.in-Whole.filled held small c.in-Whole.ensures.head in
    let served =
    served_whole _ _ _ c.receive_head.new.buf c.receive_head.new.headers c.in-Whole.spans c.in-Whole.filled _ _ held small
    (take-rest (take c.in-Whole.filled c.receive_head.new.buf) c.in-Whole.spans.len) c.in-Whole.ensures.head reads c.serve_head.ensures.served in
    record {
      served = of_named _ served;
      unnamed = (served.0, served.2);
      read_fault = c.serve_head.ensures.faults.0;
      write_fault = c.serve_head.ensures.faults.1;
      unread = c.serve_head.ensures.faults.2;
      silent = silent_whole _ _ held.head heads;
      calls = omega (arith, c.in-Whole.ensures.calls, small, c.serve_head.ensures.calls);
      waits = waits_body _ _ _ held.head _ _ heads (reads held.head held.at) (omega (arith, c.in-Whole.ensures.calls, small, c.serve_head.ensures.waits));
    }
