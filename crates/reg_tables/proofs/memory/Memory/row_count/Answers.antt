use Rattle.std.proofs.Common.{◌-◌, ◌≤◌, length, rules, arith, subst, sym}
use Rattle.reg_store.specs.Deposit.{sents}
use Rattle.reg_store.specs.Fit.{IsFileOf}
use Rattle.reg_store.specs.Sent.{Sent}
use Rattle.reg_tables.specs.Private.Marks.{long_sents}
use Rattle.reg_tables.proofs.MemoryLemmas.{known_sent}
use Rattle.std.proofs.lemmas.Option.{slice_get_within}
use Rattle.reg_tables.proofs.memory.Memory.row_count.Goals as goal

pub returns-then-is_known : goal.returns-then-is_known
returns-then-is_known c = λ dictionary list agrees low d file at of.
    let its = c.is_known.ensures.0 c.if-is_known.true in
    let one = known_sent dictionary list c.args.self.now.known.items (c.args.n - 1) c.index.result.now d agrees.known (omega (arith, its.0, its.1)) c.index.ensures at in
    (one.2.file file (subst (λ (x : Sent). IsFileOf dictionary x file) (sym one.1) of)).rows

pub returns-else-is_known : goal.returns-else-is_known
returns-else-is_known c = λ dictionary list agrees low d file at of.
    let high : c.args.n ≤ length c.args.self.now.known.items = omega (arith, low, slice_get_within (sents list) (c.args.n - 1) d at, long_sents list, agrees.known.long) in
    absurd (let is = c.is_known.ensures.1 (low, high) in search (rules, is))
