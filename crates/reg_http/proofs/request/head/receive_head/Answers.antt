use Rattle.std.proofs.Common.{◌+◌, arith}
use Rattle.reg_http.proofs.FillLemmas.{Consumes-none, Consumes-Adds}
use Rattle.reg_http.proofs.HeadLemmas.{none_at_first, holds_whole, reads_whole, reads_full}
use Rattle.reg_http.proofs.request.head.receive_head.Goals as goal

pub reads-init : goal.reads-init
reads-init g c = record {
  in_range = omega arith;
  long = c.told-buf;
  wide = c.told-headers;
  no_fault = c.requires.no_fault;
  counted = omega (arith, c.requires.no_call);
  taken = Consumes-none _;
  none_yet = none_at_first;
}

pub returns-in-Ok-Complete-clause-head : goal.returns-in-Ok-Complete-clause-head
returns-in-Ok-Complete-clause-head g c =
    let adds = c.in-Some.ensures.filled in
    reads_whole _ _ c.read_more.new.buf c.parse_request.new.headers c.in-Ok-Complete.spans (c.reads.filled + c.in-Some.count)
    (Consumes-Adds _ _ _ c.reads.buf c.read_more.new.buf c.reads.filled c.in-Some.count c.reads.invariant.taken adds)

pub returns-in-Ok-Complete-clause-held : goal.returns-in-Ok-Complete-clause-held
returns-in-Ok-Complete-clause-held g c =
    let e = rw c.in-Ok-Complete.field-0-is at c.in-Ok-Complete.ensures in
    let adds = c.in-Some.ensures.filled in
    let i = c.reads.invariant in (
      holds_whole c.read_more.new.buf c.parse_request.new.headers c.in-Ok-Complete.spans (c.reads.filled + c.in-Some.count) adds.fits
          (omega (arith, c.parse_request.auto.headers)) e.complete e.within,
      omega (arith, adds.fits, c.read_more.auto.buf, i.long),
    )

pub returns-clause-head : goal.returns-clause-head
returns-clause-head g c =
    let i = c.reads.invariant in
    reads_full _ _ c.reads.buf c.reads.headers c.reads.filled i.in_range c.reads-test.false i.taken i.none_yet
