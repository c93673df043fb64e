use Rattle.std.proofs.Common.{rules, ◌≡◌, false, true, refl}
use Rattle.sqlite.specs.Held.{state}
use Rattle.reg_tables.proofs.QuietLaws.{clean_before, idle_then, quiet_none, quiet_then}
use Rattle.reg_tables.proofs.RepeatsLemmas.{equal_by, no_more_by, none_yet}
use Rattle.reg_tables.proofs.read.equal.read_equal.Goals as goal

pub loop-number-init : goal.loop-number-init
loop-number-init g c = record { idle = c.requires.idle; still = quiet_none (state g.S.Store c.args.conn.now) false c.requires.idle.idle; none = λ clean. none_yet (state g.S.Store c.args.conn.now).now c.args.firm.now c.args.project.now c.args.bytes.now c.args.numbers.now }

pub compare_deposit-requires : goal.compare_deposit-requires
compare_deposit-requires g c = record { idle = c.loop-number.invariant.idle }

pub loop-number-preserved : goal.loop-number-preserved
loop-number-preserved g c =
    let old = state g.S.Store c.args.conn.now in
    let mid = state g.S.Store c.loop-number.conn in
    let new = state g.S.Store c.compare_deposit.new.conn in
    let was = c.loop-number.invariant in
    let found = c.in_ok-compare_deposit.ensures in
    let no : c.in_ok-compare_deposit.field-0 ≡ false = search rules in
    record {
      idle = idle_then mid new was.idle found.quiet;
      still = quiet_then old mid new false c.requires.idle.idle was.still found.quiet;
      none = λ clean.
          (let early = clean_before mid new found.quiet.survives clean in
          no_more_by old.now mid.now c.args.firm.now c.args.project.now c.args.bytes.now c.args.numbers.now c.loop-number.number-index c.in_ok-compare_deposit.field-0 (was.still.same early refl).0 (search rules) (was.none early) (found.equal clean) no);
    }

pub returns-then-branch-clause-equal : goal.returns-then-branch-clause-equal
returns-then-branch-clause-equal g c clean =
    let mid = state g.S.Store c.loop-number.conn in
    let found = c.in_ok-compare_deposit.ensures in
    let early = clean_before mid (state g.S.Store c.compare_deposit.new.conn) found.quiet.survives clean in
    let yes : c.in_ok-compare_deposit.field-0 ≡ true = search rules in
    equal_by (state g.S.Store c.args.conn.now).now mid.now c.args.firm.now c.args.project.now c.args.bytes.now _ c.in_ok-compare_deposit.field-0 (c.loop-number.invariant.still.same early refl).0 (found.equal clean) yes

pub returns-then-branch-clause-quiet : goal.returns-then-branch-clause-quiet
returns-then-branch-clause-quiet g c = quiet_then _ _ _ _ c.requires.idle.idle c.loop-number.invariant.still c.in_ok-compare_deposit.ensures.quiet

pub returns-clause-quiet : goal.returns-clause-quiet
returns-clause-quiet g c = c.loop-number.invariant.still
