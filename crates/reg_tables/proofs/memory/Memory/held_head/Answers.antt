use Rattle.std.proofs.Common.{◌-◌, ap, ◌∙◌, arith}
use Rattle.reg_store.specs.declared.keep.KeptHead.{KeptHead}
use Rattle.reg_tables.proofs.MemoryLemmas.{known_here}
use Rattle.reg_tables.proofs.memory.Memory.held_head.Goals as goal

pub returns-clause-read : goal.returns-clause-read
returns-clause-read c = λ dictionary list agrees d at.
    let known = c.args.self.now.known.items in
    let its = c.is_known.ensures.0 c.if-not-is_known.false in
    let one = known_here dictionary list known (c.args.n - 1) c.index.result.now d agrees.known (omega (arith, its.0, its.1)) c.index.ensures at in
    let same = c.in_ok-head.ensures ∙ one.head in
    record { firm = ap (λ (h : KeptHead). h.firm) same; project = ap (λ (h : KeptHead). h.project) same; embargo = ap (λ (h : KeptHead). h.embargo) same; withdrawn = ap (λ (h : KeptHead). h.withdrawn) same }
