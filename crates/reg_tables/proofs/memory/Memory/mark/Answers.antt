use Rattle.std.proofs.Common.{rules, ◌≡◌, ◌-◌, ◌<◌, Some, length, slice_get, refl, arith}
use Rattle.std.proofs.lemmas.Option.{slice_get_read}
use Rattle.reg_tables.proofs.MemoryLemmas.{agrees_mark, agrees_unmarked}
use Rattle.reg_tables.proofs.memory.Memory.mark.Goals as goal

pub returns-then-is_known-clause-agrees : goal.returns-then-is_known-clause-agrees
returns-then-is_known-clause-agrees c = λ dictionary list agrees.
    let known = c.args.self.now.known.items in
    let n = c.args.n in
    let its = c.is_known.ensures.0 c.if-is_known.true in
    let low : n - 1 < length known = omega (arith, its.0, its.1) in
    let at : slice_get known (n - 1) ≡ Some c.index_mut.result.now = slice_get_read known (length known) (n - 1) c.index_mut.result.now refl low c.index_mut.ensures.value in
    agrees_mark c.args.self.now _ dictionary list n c.index_mut.result.now its.0 at refl refl agrees

pub returns-else-is_known-clause-agrees : goal.returns-else-is_known-clause-agrees
returns-else-is_known-clause-agrees c = λ dictionary list agrees.
    agrees_unmarked c.args.self.now dictionary list c.args.n (λ low high. (let is = c.is_known.ensures.1 (low, high) in search (rules, is))) agrees
