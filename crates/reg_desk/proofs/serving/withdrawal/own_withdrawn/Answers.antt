use Rattle.std.proofs.Common.{◌∙◌, sym, arith}
use Rattle.reg_desk.proofs.Withdrawing.{head_withdrawn}
use Rattle.reg_desk.proofs.serving.withdrawal.own_withdrawn.Goals as goal

pub returns-then-eq-2-clause-own : goal.returns-then-eq-2-clause-own
returns-then-eq-2-clause-own g c = λ s.
    let s0 = c.in_ok-head.ensures.leaves.sound s in
    head_withdrawn c.args.caller.now c.args.project.now (g.K.Keep.deposits c.args.keep.now) c.args.number c.in_ok-head.head
    (omega (arith, c.if-number-eq0.false)) (omega (arith, c.if-number-count.false, c.count.ensures s0 c.requires))
    (c.in_ok-head.ensures.read s)
    (sym c.eq.ensures ∙ c.if-eq.true) (sym c.eq-then-eq.ensures ∙ c.if-eq-2.true)
