use Rattle.std.proofs.Common.{rules, arith, ◌≡◌, ◌+◌, ◌∙◌, true, false, List, [], Ok, Some, length, refl, slice_get, sym, ap, subst}
use Rattle.std.proofs.lemmas.List.{length_push}
use Rattle.sqlite.specs.Effect.{Database}
use Rattle.sqlite.specs.Held.{state}
use Rattle.reg_tables.specs.Private.Digests.{AreBelow, HoldsDigests}
use Rattle.reg_tables.specs.declared.memory.Known.{Known}
use Rattle.reg_tables.specs.Private.Heads.{HoldsKnown, IsDigestedAt}
use Rattle.reg_tables.proofs.QuietLaws.{clean_before, idle_then, quiet_none, quiet_then}
use Rattle.reg_tables.specs.Whole.{IsWhole}
use Rattle.reg_tables.proofs.ExamineLemmas.{tests_all, tests_false, tests_true, whole_more, whole_not}
use Rattle.reg_tables.proofs.HeadsLemmas.{known_read}
use Rattle.reg_tables.proofs.RepeatsLemmas.{below_more, held_more, none_below}
use Rattle.reg_tables.proofs.QueryLemmas.{passed_quiet}
use Rattle.reg_tables.proofs.open.deposits.examine_deposits.Goals as goal

pub loop-at-init : goal.loop-at-init
loop-at-init g c = record {
  idle = c.requires.idle;
  still = quiet_none (state g.S.Store c.args.conn.now) false c.requires.idle.idle;
  whole = λ clean k low. absurd (omega (arith, low));
  long = ap length c.requires.none;
  known = λ clean k one at. absurd (let none : slice_get {X = Known} [] k ≡ Some one = subst (λ (all : List Known). slice_get all k ≡ Some one) c.requires.none at in cc);
  below = none_below c.args.digests.now (0 + 1) c.requires.no_digests;
  digested = λ clean m low high. absurd (omega (arith, low, high));
}

pub examine_deposit-requires : goal.examine_deposit-requires
examine_deposit-requires g c = record {
  idle = c.loop-at.invariant.idle;
  below = c.loop-at.invariant.below;
  digested = λ clean. subst (λ (db : Database). HoldsDigests db (c.loop-at.at + 1) c.loop-at.digests) (sym (c.loop-at.invariant.still.same clean refl).0) (c.loop-at.invariant.digested clean);
}

pub loop-at-preserved : goal.loop-at-preserved
loop-at-preserved g c =
    let old = state g.S.Store c.args.conn.now in
    let mid = state g.S.Store c.loop-at.conn in
    let new = state g.S.Store c.examine_deposit.new.conn in
    let was = c.loop-at.invariant in
    let one = c.in_ok-examine_deposit.ensures in
    let at = c.loop-at.at in
    let is : c.in_ok-examine_deposit.field-0 ≡ true = search rules in
    let put = one.put (ap Ok is) in
    record {
      idle = idle_then mid new was.idle one.quiet;
      still = quiet_then old mid new false c.requires.idle.idle was.still one.quiet;
      whole = λ clean.
          (let early = clean_before mid new one.quiet.survives clean in
          whole_more old.now mid.now c.args.dictionary.now at (was.still.same early refl).0 (tests_true is (one.tested clean)) (was.whole early));
      long = ap length put.1 ∙ length_push c.loop-at.known.items put.0.known ∙ ap (λ n. n + 1) was.long;
      known = λ clean.
          (let early = clean_before mid new one.quiet.survives clean in
          let its = subst (λ (db : Database). IsDigestedAt db c.args.dictionary.now (at + 1) put.0) (was.still.same early refl).0 (put.3 clean) in
          subst (HoldsKnown old.now c.args.dictionary.now) (sym put.1) (known_read old.now c.args.dictionary.now c.loop-at.known.items put.0.known at was.long (was.known early) (λ d row. (its d row).0)));
      below = below_more c.loop-at.digests c.examine_deposit.new.digests put.0.digest (at + 1) (omega arith) put.2 was.below;
      digested = λ clean.
          (let early = clean_before mid new one.quiet.survives clean in
          let its = subst (λ (db : Database). IsDigestedAt db c.args.dictionary.now (at + 1) put.0) (was.still.same early refl).0 (put.3 clean) in
          held_more old.now c.loop-at.digests c.examine_deposit.new.digests put.0.digest (at + 1) put.2 (λ d row. (its d row).1) (was.digested early));
    }

pub returns-then-not-branch-clause-tested : goal.returns-then-not-branch-clause-tested
returns-then-not-branch-clause-tested g c clean =
    let mid = state g.S.Store c.loop-at.conn in
    let one = c.in_ok-examine_deposit.ensures in
    let early = clean_before mid (state g.S.Store c.examine_deposit.new.conn) one.quiet.survives clean in
    let is : c.in_ok-examine_deposit.field-0 ≡ false = search rules in
    whole_not (state g.S.Store c.args.conn.now).now mid.now c.args.dictionary.now c.loop-at.at c.args.count (c.loop-at.invariant.still.same early refl).0 (omega arith) (tests_false is (one.tested clean))

pub returns-then-not-branch-clause-quiet : goal.returns-then-not-branch-clause-quiet
returns-then-not-branch-clause-quiet g c = quiet_then _ _ _ _ c.requires.idle.idle c.loop-at.invariant.still c.in_ok-examine_deposit.ensures.quiet

pub returns-in_err-examine_deposit-clause-quiet : goal.returns-in_err-examine_deposit-clause-quiet
returns-in_err-examine_deposit-clause-quiet g c =
    passed_quiet _ _ c.from_residual.result _ c.from_residual.ensures.1 (quiet_then _ _ _ _ c.requires.idle.idle c.loop-at.invariant.still c.in_err-examine_deposit.ensures.quiet)

pub returns-clause-tested : goal.returns-clause-tested
returns-clause-tested g c clean =
    let old = state g.S.Store c.args.conn.now in
    let end : c.loop-at.at ≡ c.args.count = search rules in
    tests_all (λ k. IsWhole old.now c.args.dictionary.now (k + 1)) c.args.count (λ k low. c.loop-at.invariant.whole clean k (omega (arith, low, end)))

pub returns-clause-long : goal.returns-clause-long
returns-clause-long g c is = c.loop-at.invariant.long ∙ search rules

pub returns-clause-known : goal.returns-clause-known
returns-clause-known g c clean is = c.loop-at.invariant.known clean

pub returns-clause-below : goal.returns-clause-below
returns-clause-below g c is =
    let end : c.loop-at.at ≡ c.args.count = search rules in
    subst (λ n. AreBelow c.loop-at.digests (n + 1)) end c.loop-at.invariant.below

pub returns-clause-digests : goal.returns-clause-digests
returns-clause-digests g c clean is =
    let end : c.loop-at.at ≡ c.args.count = search rules in
    subst (λ n. HoldsDigests (state g.S.Store c.args.conn.now).now (n + 1) c.loop-at.digests) end (c.loop-at.invariant.digested clean)

pub returns-clause-quiet : goal.returns-clause-quiet
returns-clause-quiet g c = c.loop-at.invariant.still
