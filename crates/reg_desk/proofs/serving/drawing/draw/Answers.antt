use Rattle.std.proofs.Common.{◌≡◌, ◌∙◌, None, Option, Some, false, ap, refl, sym, subst, inl, inr, arith}
use Rattle.std.proofs.lemmas.Result.{err_from_is_err_and}
use Rattle.ags_check.specs.Findings.{file_of}
use Rattle.reg_store.specs.Keep.{fails, is_store}
use Rattle.reg_store.specs.declared.keep.KeptHead.{KeptHead}
use Rattle.reg_desk.specs.Asked.{names_in}
use Rattle.reg_desk.specs.Extract.{IsExtractText}
use Rattle.reg_desk.specs.Serving.{OnlyReads, terms_at}
use Rattle.reg_desk.specs.Shown.{Look}
use Rattle.reg_desk.specs.View.{look_on}
use Rattle.reg_desk.proofs.Serves.{reads_more, still_works}
use Rattle.reg_desk.proofs.Drawing.{IsReadHead, head_drawn, none_drawn, unheld_drawn}
use Rattle.reg_desk.proofs.Projects.{of_file_before, within_after}
use Rattle.reg_desk.proofs.serving.drawing.draw.Goals as goal
use Rattle.reg_desk.proofs.serving.drawing.draw.Goals.{then-number-eq0-via-then-number-eq0, then-number-eq0-via-else-number-eq0+then-number-count}

pub returns-then-number-eq0-clause-drawn : goal.returns-then-number-eq0-clause-drawn
returns-then-number-eq0-clause-drawn g c = λ s.
    ∣ unheld_drawn (terms_at g.K.Keep c.args.policy.now c.args.keep.now) (g.K.Keep.deposits c.args.keep.now) c.args.caller.now c.args.project.now c.args.number (names_in c.args.groups.now) c.args.day
    (elim c.then-number-eq0.branch [
      | then-number-eq0-via-then-number-eq0 w ↦ inl w.if-number-eq0.true
      | then-number-eq0-via-else-number-eq0+then-number-count w ↦ inr (omega (arith, w.if-number-count.true, w.count.ensures s c.requires))
    ]) ∣₁

pub seen_head-requires-clause-number : goal.seen_head-requires-clause-number
seen_head-requires-clause-number g c = λ s. (omega (arith, c.if-number-eq0.false), omega (arith, c.if-number-count.false, c.count.ensures s c.requires))

pub draw_seen-requires-clause-working : goal.draw_seen-requires-clause-working
draw_seen-requires-clause-working g c = still_works g.K.Keep c.args.keep.now c.seen_head.new.keep c.in_ok-head.ensures.reads

pub draw_seen-requires-clause-number : goal.draw_seen-requires-clause-number
draw_seen-requires-clause-number g c =
    within_after g.K.Keep c.args.keep.now c.seen_head.new.keep c.args.number c.in_ok-head.ensures.reads
    (λ s. (omega (arith, c.if-number-eq0.false), omega (arith, c.if-number-count.false, c.count.ensures s c.requires)))

pub returns-in_err-text-clause-reads : goal.returns-in_err-text-clause-reads
returns-in_err-text-clause-reads g c =
    let p = err_from_is_err_and c.from_residual-in_err-text.result c.from_residual-in_err-text.ensures.1 in
    subst (OnlyReads g.K.Keep c.args.keep.now c.draw_seen.new.keep) (sym (ap fails p.1 ∙ ap is_store p.2))
    (reads_more g.K.Keep c.args.keep.now c.seen_head.new.keep c.draw_seen.new.keep _ c.in_ok-head.ensures.reads c.in_err-text.ensures.reads)

pub returns-clause-reads : goal.returns-clause-reads
returns-clause-reads g c = reads_more g.K.Keep c.args.keep.now c.seen_head.new.keep c.draw_seen.new.keep false c.in_ok-head.ensures.reads c.in_ok-text.ensures.reads

pub returns-in_default-clause-drawn : goal.returns-in_default-clause-drawn
returns-in_default-clause-drawn g c = λ s.
    let K = g.K.Keep in
    let s0 = c.in_ok-head.ensures.reads.sound s in
    none_drawn K c.args.policy.now c.args.caller.now c.args.project.now c.args.number (names_in c.args.groups.now) c.args.day c.args.keep.now
    (omega (arith, c.if-number-eq0.false), omega (arith, c.if-number-count.false, c.count.ensures s0 c.requires))
    (subst (IsReadHead K c.args.policy.now c.args.caller.now c.args.project.now c.args.number (names_in c.args.groups.now) c.args.day c.args.keep.now) (none_here c.in_ok-head.field-0 c.in_default.not-Some) (c.in_ok-head.ensures.seen s))
  where
    none_here : (o : Option KeptHead) → ((h : KeptHead) → o ≡ Some h → ⊥) → o ≡ None
    none_here None none = refl
    none_here (Some h) none = absurd (none h refl)

pub returns-clause-drawn : goal.returns-clause-drawn
returns-clause-drawn g c = λ s.
    let K = g.K.Keep in
    let keep = c.args.keep.now in
    let rules = c.args.policy.now in
    let groups = names_in c.args.groups.now in
    let reads = c.in_ok-head.ensures.reads in
    let s1 = c.in_ok-text.ensures.reads.sound s in
    let s0 = reads.sound s1 in
    head_drawn K rules c.args.caller.now c.args.project.now c.args.number groups c.args.day keep c.in-Some.head c.in_ok-text.text.items
    (omega (arith, c.if-number-eq0.false), omega (arith, c.if-number-count.false, c.count.ensures s0 c.requires)) (g.met.K.Keep.fit keep s0 c.requires)
    (subst (IsReadHead K rules c.args.caller.now c.args.project.now c.args.number groups c.args.day keep) c.in-Some.is (c.in_ok-head.ensures.seen s1))
    (of_file_before K keep c.seen_head.new.keep c.args.number (λ file. IsExtractText (look_on rules c.args.caller.now c.in-Some.head c.args.day) (file_of file) groups c.in_ok-text.text.items) reads s1
    (λ d file at is. subst (λ (look : Look). IsExtractText look (file_of file) groups c.in_ok-text.text.items) c.at-look.ensures (c.in_ok-text.ensures.drawn s d file at is)))
