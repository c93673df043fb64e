use Rattle.std.proofs.Common.{take, map}
use Rattle.httparse.specs.Spans.{header_bytes}
use Rattle.reg_http.specs.Fields.{AreValues, values_of}
use Rattle.reg_http.proofs.request.fields.values_named.Given as goal

abbrev pub invariant-loop-header : goal.invariant-loop-header
invariant-loop-header l = AreValues (values_of l.name (map (header_bytes l.buf) (take l.header-index l.headers))) l.found
