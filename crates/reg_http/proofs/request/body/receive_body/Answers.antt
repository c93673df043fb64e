use Rattle.std.proofs.Common.{◌≡◌, ◌++◌, length, take, Some, ap, arith, rules}
use Rattle.reg_http.specs.Tallies.{tally_inner}
use Rattle.reg_http.proofs.BodyLemmas.{HasRead-more, ReadsBody-all, ReadsBody-short}
use Rattle.reg_http.proofs.request.body.receive_body.Goals as goal

pub reads-preserved : goal.reads-preserved
reads-preserved g c =
    let i = c.reads.invariant in
    let remaining = g.R.Read.remaining in
    let bytes = take c.in-Some.count c.read_chunk.new.chunk in
    let grown : c.extend_from_slice.new.self.items ≡ c.reads.body.items ++ bytes = search rules in
    record {
      in_range = search rules;
      long = search rules;
      wide = search rules;
      no_fault = search rules;
      counted = search rules;
      read =
          HasRead-more (remaining (tally_inner c.args.reader.now)) (remaining (tally_inner c.reads.reader)) (remaining (tally_inner c.read_chunk.new.reader)) c.args.early.now c.reads.body.items
          c.extend_from_slice.new.self.items bytes c.args.length i.read c.in-Some.ensures.taken grown;
    }

pub returns-clause-body : goal.returns-clause-body
returns-clause-body g c = ReadsBody-all _ _ c.args.early.now c.args.length c.reads.body c.reads.invariant.read (omega arith)

pub returns-then-count-eq0-clause-body : goal.returns-then-count-eq0-clause-body
returns-then-count-eq0-clause-body g c =
    let i = c.reads.invariant in
    let read = c.in-Some.ensures in
    let bytes = take c.in-Some.count c.read_chunk.new.chunk in
    let none : length bytes ≡ 0 = ap (λ k. length (take k c.read_chunk.new.chunk)) c.if-count-eq0.true in
    ReadsBody-short _ _ _ c.args.early.now c.reads.body.items bytes c.args.length i.read read.taken none (omega arith)
    (read.at_end (ap Some c.if-count-eq0.true))

pub returns-then-count-eq0-clause-fits : goal.returns-then-count-eq0-clause-fits
returns-then-count-eq0-clause-fits g c = omega arith
