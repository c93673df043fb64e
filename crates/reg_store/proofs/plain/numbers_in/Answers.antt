use Rattle.std.proofs.Common.{◌≡◌, ◌+◌, ◌++◌, ◌∷◌, [], if◌then◌else◌, refl, ap, ◌∙◌}
use Rattle.reg_store.proofs.PlainLemmas.{numbers_more}
use Rattle.reg_store.proofs.plain.numbers_in.Goals as goal
use Rattle.reg_store.proofs.plain.numbers_in.Goals.{then-eq+in_ok-push, else-eq}

pub loop-one-preserved : goal.loop-one-preserved
loop-one-preserved c =
    let old = c.loop-one.numbers.items in
    let n = c.loop-one.number + 1 in
    let told : c.if-eq.numbers.items ≡ (if c.eq.result then old ++ n ∷ [] else old) = elim c.if-eq.branch [
      | then-eq+in_ok-push w ↦ rw (w.if-eq.true, w.numbers-is) w.in_ok-push.ensures.items
      | else-eq w ↦ rw (w.if-eq.false, w.numbers-is) refl
    ] in
    record {
      at = ap (λ k. k + 1) c.loop-one.invariant.at;
      rest = numbers_more c.args.project.now c.args.kept.now c.loop-one.one-index n c.one-item.result old _ _ c.loop-one-test.true c.one-item.is (told ∙ ap (λ b. if b then old ++ n ∷ [] else old) c.eq.ensures) c.loop-one.invariant.rest;
    }
