use Rattle.std.proofs.Common.{◌∙◌, None, Some, inl, inr, sym, subst}
use Rattle.std.proofs.lemmas.Bool.{not-false, not-true}
use Rattle.reg_store.specs.Deposit.{Deposit}
use Rattle.reg_desk.specs.Machine.{held}
use Rattle.reg_desk.specs.Serving.{IsSeenHead, terms_at}
use Rattle.reg_desk.proofs.Serves.{reads_once}
use Rattle.reg_desk.proofs.Drawing.{headed, hidden_unseen, other_unseen, same_kept, shown_seen}
use Rattle.reg_desk.proofs.serving.seen.seen_head.Goals as goal
use Rattle.reg_desk.proofs.serving.seen.seen_head.Goals.{then-head-via-then-head, then-head-via-else-head+then-ne}

pub returns-then-head-clause-seen : goal.returns-then-head-clause-seen
returns-then-head-clause-seen g c = λ s d holds.
    let K = g.K.Keep in
    let keep = c.args.keep.now in
    let first = reads_once K keep c.head.new.self _ c.in_ok-head.ensures.leaves in
    let h = headed K keep c.head.new.self c.args.number c.in_ok-head.head c.requires.number (λ s0. g.met.K.Keep.fit keep s0 c.requires.working) first c.in_ok-head.ensures.read s in
    subst (λ (k : Deposit). ∥ IsSeenHead (terms_at K c.args.policy.now keep) c.args.caller.now c.args.project.now c.args.day k None ∥₁) (same_kept (held c.args.number (K.deposits keep)) h.kept d h.holds holds)
    ∣ other_unseen (terms_at K c.args.policy.now keep) c.args.caller.now c.args.project.now c.args.day h.kept c.in_ok-head.head h.of_head
    (elim c.then-head.branch [
      | then-head-via-then-head w ↦ inl w.if-head.true
      | then-head-via-else-head+then-ne w ↦ inr (not-true _ (sym w.ne.ensures ∙ w.if-ne.true))
    ]) ∣₁

pub returns-then-not-branch-clause-seen : goal.returns-then-not-branch-clause-seen
returns-then-not-branch-clause-seen g c = λ s d holds.
    let K = g.K.Keep in
    let keep = c.args.keep.now in
    let first = reads_once K keep c.head.new.self _ c.in_ok-head.ensures.leaves in
    let s1 = c.in_ok-sees_project.ensures.reads.sound s in
    let h = headed K keep c.head.new.self c.args.number c.in_ok-head.head c.requires.number (λ s0. g.met.K.Keep.fit keep s0 c.requires.working) first c.in_ok-head.ensures.read s1 in
    subst (λ (k : Deposit). ∥ IsSeenHead (terms_at K c.args.policy.now keep) c.args.caller.now c.args.project.now c.args.day k None ∥₁) (same_kept (held c.args.number (K.deposits keep)) h.kept d h.holds holds)
    (hidden_unseen K c.args.policy.now keep c.head.new.self c.args.caller.now c.args.project.now c.args.number c.args.day c.in_ok-head.head _ c.in_ok-sees_project.field-0 first s1 h c.at-look.ensures
    (c.in_ok-sees_project.ensures.seen s) c.if-head.false (not-false _ (sym c.ne.ensures ∙ c.if-ne.false)) c.if-not-branch.true)

pub returns-clause-seen : goal.returns-clause-seen
returns-clause-seen g c = λ s d holds.
    let K = g.K.Keep in
    let keep = c.args.keep.now in
    let first = reads_once K keep c.head.new.self _ c.in_ok-head.ensures.leaves in
    let s1 = c.in_ok-sees_project.ensures.reads.sound s in
    let h = headed K keep c.head.new.self c.args.number c.in_ok-head.head c.requires.number (λ s0. g.met.K.Keep.fit keep s0 c.requires.working) first c.in_ok-head.ensures.read s1 in
    subst (λ (k : Deposit). ∥ IsSeenHead (terms_at K c.args.policy.now keep) c.args.caller.now c.args.project.now c.args.day k (Some c.in_ok-head.head) ∥₁) (same_kept (held c.args.number (K.deposits keep)) h.kept d h.holds holds)
    (shown_seen K c.args.policy.now keep c.head.new.self c.args.caller.now c.args.project.now c.args.number c.args.day c.in_ok-head.head _ c.in_ok-sees_project.field-0 first s1 h c.at-look.ensures
    (c.in_ok-sees_project.ensures.seen s) c.if-head.false (not-false _ (sym c.ne.ensures ∙ c.if-ne.false)) c.if-not-branch.false)
