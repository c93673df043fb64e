use Rattle.std.proofs.Common.{◌≡◌, ◌∙◌, sym, ap, subst, refl, ◌+◌, ◌<◌, ◌≤◌, List, length, drop, get_or, false, Vec, Global, Some}
use Rattle.std.proofs.lemmas.Result.{err_from_is_err_and}
use Rattle.reg_store.specs.Sent.{numbers_from}
use Rattle.reg_store.specs.Deposit.{Deposit, sents}
use Rattle.reg_store.specs.Keep.{fails, is_store}
use Rattle.reg_desk.specs.declared.answer.Listed.{Listed}
use Rattle.reg_desk.specs.Machine.{IsListing, Terms, held}
use Rattle.reg_desk.specs.Serving.{IsSeenHead, OnlyReads, terms_at}
use Rattle.reg_desk.proofs.Serves.{reads_itself, reads_more, reads_once, still_works}
use Rattle.reg_desk.proofs.Listings.{SoFar, put_line, number_within, number_step, lines_whole, terms_same}
use Rattle.reg_desk.proofs.serving.listing.lines_of.Goals as goal
use Rattle.reg_desk.proofs.serving.listing.lines_of.Goals.{in-Some+in_ok-push-in-Some, in-None}

pub loop-number-init : goal.loop-number-init
loop-number-init g c =
    let K = g.K.Keep in
    let mid = c.numbers.new.self in
    let items = c.deref-number-items.result.now in
    let terms = terms_at K c.args.policy.now mid in
    let state = K.deposits mid in
    let leaves = c.in_ok-numbers.ensures.leaves in
    record {
      reads = reads_itself K mid (still_works K c.args.keep.now mid (reads_once K c.args.keep.now mid _ leaves));
      numbers = λ s. c.deref-number-items.ensures.value ∙ c.in_ok-numbers.ensures.numbers s
          ∙ ap (λ (l : List Deposit). numbers_from 1 c.args.project.now (sents l)) (sym (leaves.same s refl));
      so_far = λ s.
          subst (λ (l : List Listed). ∥ SoFar terms c.args.caller.now c.args.project.now c.args.day (λ k. held k state) items items l ∥₁) (sym c.new-lines.ensures.items)
          ∣ (λ rest h. h) ∣₁;
    }

pub seen_head-requires-clause-working : goal.seen_head-requires-clause-working
seen_head-requires-clause-working g c = still_works g.K.Keep c.numbers.new.self c.loop-number.keep c.loop-number.invariant.reads

pub seen_head-requires-clause-number : goal.seen_head-requires-clause-number
seen_head-requires-clause-number g c = λ s.
    let items = c.deref-number-items.result.now in
    let n = get_or items c.loop-number.number-index 0 in
    let was = c.loop-number.invariant in
    subst (λ (l : List Deposit). (0 < n) × (n ≤ length l)) (sym (was.reads.same s refl))
    (number_within c.args.project.now (g.K.Keep.deposits c.numbers.new.self) items c.loop-number.number-index (was.numbers s) c.loop-number-test.true)

pub returns-in_err-head-clause-reads : goal.returns-in_err-head-clause-reads
returns-in_err-head-clause-reads g c =
    let K = g.K.Keep in
    let mid = c.numbers.new.self in
    let p = err_from_is_err_and c.from_residual-in_err-head.result c.from_residual-in_err-head.ensures.1 in
    let failed = is_store c.in_err-head.field-0.0 in
    subst (OnlyReads K c.args.keep.now c.seen_head.new.keep) (sym (ap fails p.1 ∙ ap is_store p.2))
    (reads_more K c.args.keep.now mid c.seen_head.new.keep failed (reads_once K c.args.keep.now mid _ c.in_ok-numbers.ensures.leaves)
    (reads_more K mid c.loop-number.keep c.seen_head.new.keep failed c.loop-number.invariant.reads c.in_err-head.ensures.reads))

pub loop-number-preserved : goal.loop-number-preserved
loop-number-preserved g c =
    let K = g.K.Keep in
    let mid = c.numbers.new.self in
    let items = c.deref-number-items.result.now in
    let i = c.loop-number.number-index in
    let n = get_or items i 0 in
    let terms = terms_at K c.args.policy.now mid in
    let state = K.deposits mid in
    let was = c.loop-number.invariant in
    record {
      reads = reads_more K mid c.loop-number.keep c.seen_head.new.keep false was.reads c.in_ok-head.ensures.reads;
      numbers = λ s. was.numbers (c.in_ok-head.ensures.reads.sound s);
      so_far = λ s.
          let s1 = c.in_ok-head.ensures.reads.sound s in
          let seen : (d : Deposit) → held n state ≡ Some d
          → ∥ IsSeenHead terms c.args.caller.now c.args.project.now c.args.day d c.in_ok-head.field-0 ∥₁ = λ d holds.
          subst (λ (r : Terms). ∥ IsSeenHead r c.args.caller.now c.args.project.now c.args.day d c.in_ok-head.field-0 ∥₁) (terms_same K c.args.policy.now mid c.loop-number.keep false was.reads)
          (c.in_ok-head.ensures.seen s d (ap (held n) (was.reads.same s1 refl) ∙ holds)) in
          let same : put_line c.loop-number.lines.items n c.in_ok-head.field-0 ≡ c.match-branch-3.lines.items =
          elim c.match-branch-3.branch [
            | in-Some+in_ok-push-in-Some w ↦ ap (put_line c.loop-number.lines.items n) w.in-Some.is ∙ sym (ap (λ (v : Vec Listed Global). v.items) w.lines-is ∙ w.in_ok-push-in-Some.ensures.items)
            | in-None w ↦ ap (put_line c.loop-number.lines.items n) w.in-None.is ∙ sym (ap (λ (v : Vec Listed Global). v.items) w.lines-is)
          ] in
          subst (λ (l : List Listed). ∥ SoFar terms c.args.caller.now c.args.project.now c.args.day (λ k. held k state) items (drop (i + 1) items) l ∥₁) same
          (number_step terms c.args.caller.now c.args.project.now c.args.day state items i c.loop-number.lines.items c.in_ok-head.field-0 c.loop-number-test.true
          (number_within c.args.project.now state items i (was.numbers s1) c.loop-number-test.true) seen (was.so_far s1));
    }

pub returns-clause-reads : goal.returns-clause-reads
returns-clause-reads g c =
    reads_more g.K.Keep c.args.keep.now c.numbers.new.self c.loop-number.keep false (reads_once g.K.Keep c.args.keep.now c.numbers.new.self _ c.in_ok-numbers.ensures.leaves) c.loop-number.invariant.reads

pub returns-clause-listed : goal.returns-clause-listed
returns-clause-listed g c = λ s.
    let K = g.K.Keep in
    let keep = c.args.keep.now in
    let mid = c.numbers.new.self in
    let was = c.loop-number.invariant in
    let first = reads_once K keep mid _ c.in_ok-numbers.ensures.leaves in
    let lines = c.loop-number.lines.items in
    subst (λ (r : Terms). ∥ IsListing r c.args.caller.now c.args.project.now c.args.day 1 (K.deposits keep) lines ∥₁) (terms_same K c.args.policy.now keep mid false first)
    (subst (λ (l : List Deposit).
    ∥ IsListing (terms_at K c.args.policy.now mid) c.args.caller.now c.args.project.now c.args.day 1 l lines ∥₁)
    (first.same (was.reads.sound s) refl)
    (lines_whole (terms_at K c.args.policy.now mid) c.args.caller.now c.args.project.now c.args.day (K.deposits mid) c.deref-number-items.result.now c.loop-number.number-index lines c.loop-number-test.false (was.numbers s) (was.so_far s)))
