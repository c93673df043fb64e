use Rattle.std.proofs.Common.{rules, ◌≡◌, ◌+◌, true, false, None, Some, Ok, Err, refl, ap, subst}
use Rattle.sqlite.specs.Effect.{Database}
use Rattle.sqlite.specs.Held.{state}
use Rattle.reg_tables.specs.Adoption.{Examines}
use Rattle.reg_tables.proofs.QuietLaws.{clean_before, idle_then, quiet_then}
use Rattle.reg_tables.specs.Whole.{AreWhole, Counts, Tests}
use Rattle.reg_tables.specs.Private.Digests.{HoldsDigests}
use Rattle.reg_tables.specs.Private.Heads.{HoldsKnown}
use Rattle.reg_tables.proofs.ExamineLemmas.{counts_none, finds_none, finds_whole, none_examines, tests_false, tests_true}
use Rattle.reg_tables.proofs.QueryLemmas.{raised_is, raised_quiet}
use Rattle.reg_tables.proofs.open.examine.read_register.Goals as goal

pub examine_deposits-requires-clause-idle : goal.examine_deposits-requires-clause-idle
examine_deposits-requires-clause-idle g c = idle_then _ _ c.requires.idle c.in_ok-count.ensures.quiet

pub returns-in_default-clause-refused : goal.returns-in_default-clause-refused
returns-in_default-clause-refused g c clean format schema meta =
    let old = state g.S.Store c.args.conn.now in
    let counts = counts_none old.now c.in_default.not-Some (c.in_ok-count.ensures.counted clean) in
    none_examines format old.now c.args.dictionary.now meta (λ list r. counts list r.few r.deposits)

pub returns-then-branch-clause-found : goal.returns-then-branch-clause-found
returns-then-branch-clause-found g c clean format schema meta =
    let old = state g.S.Store c.args.conn.now in
    let mid = state g.S.Store c.read_count.new.conn in
    let early = clean_before mid (state g.S.Store c.examine_deposits.new.conn) c.examine_deposits.ensures.quiet.survives clean in
    let first = clean_before old mid c.in_ok-count.ensures.quiet.survives early in
    let count = c.in-Some.count in
    let counts : Counts old.now (Some count) = subst (Counts old.now) c.in-Some.is (c.in_ok-count.ensures.counted early) in
    let is : c.in_ok-examine_deposits.field-0 ≡ true = search rules in
    let test = subst (λ (db : Database). Tests true (AreWhole db c.args.dictionary.now count)) (c.in_ok-count.ensures.quiet.same early refl).0 (tests_true is (c.in_ok-examine_deposits.ensures.tested clean)) in
    finds_whole format old.now c.args.dictionary.now count schema (c.requires.sound first) meta counts (test.yes refl)

pub returns-then-branch-clause-known : goal.returns-then-branch-clause-known
returns-then-branch-clause-known g c clean =
    let mid = state g.S.Store c.read_count.new.conn in
    let early = clean_before mid (state g.S.Store c.examine_deposits.new.conn) c.examine_deposits.ensures.quiet.survives clean in
    let is : c.in_ok-examine_deposits.field-0 ≡ true = search rules in
    subst (λ (db : Database). HoldsKnown db c.args.dictionary.now c.examine_deposits.new.known.items) (c.in_ok-count.ensures.quiet.same early refl).0 (c.in_ok-examine_deposits.ensures.known clean (ap Ok is))

pub returns-then-branch-clause-digests : goal.returns-then-branch-clause-digests
returns-then-branch-clause-digests g c clean =
    let mid = state g.S.Store c.read_count.new.conn in
    let early = clean_before mid (state g.S.Store c.examine_deposits.new.conn) c.examine_deposits.ensures.quiet.survives clean in
    let is : c.in_ok-examine_deposits.field-0 ≡ true = search rules in
    subst (λ (db : Database). HoldsDigests db (c.in-Some.count + 1) c.examine_deposits.new.digests) (c.in_ok-count.ensures.quiet.same early refl).0 (c.in_ok-examine_deposits.ensures.digests clean (ap Ok is))

pub returns-then-branch-clause-quiet : goal.returns-then-branch-clause-quiet
returns-then-branch-clause-quiet g c = quiet_then _ _ _ _ c.requires.idle.idle c.in_ok-count.ensures.quiet c.in_ok-examine_deposits.ensures.quiet

pub returns-else-branch-clause-refused : goal.returns-else-branch-clause-refused
returns-else-branch-clause-refused g c clean format schema meta =
    let old = state g.S.Store c.args.conn.now in
    let mid = state g.S.Store c.read_count.new.conn in
    let early = clean_before mid (state g.S.Store c.examine_deposits.new.conn) c.examine_deposits.ensures.quiet.survives clean in
    let count = c.in-Some.count in
    let counts : Counts old.now (Some count) = subst (Counts old.now) c.in-Some.is (c.in_ok-count.ensures.counted early) in
    let is : c.in_ok-examine_deposits.field-0 ≡ false = search rules in
    let test = subst (λ (db : Database). Tests false (AreWhole db c.args.dictionary.now count)) (c.in_ok-count.ensures.quiet.same early refl).0 (tests_false is (c.in_ok-examine_deposits.ensures.tested clean)) in
    none_examines format old.now c.args.dictionary.now meta (finds_none format old.now c.args.dictionary.now count counts (test.no refl))

pub returns-else-branch-clause-quiet : goal.returns-else-branch-clause-quiet
returns-else-branch-clause-quiet g c = quiet_then _ _ _ _ c.requires.idle.idle c.in_ok-count.ensures.quiet c.in_ok-examine_deposits.ensures.quiet

pub returns-in_err-count-clause-refused : goal.returns-in_err-count-clause-refused
returns-in_err-count-clause-refused g c clean = raised_is _ c.from_residual.result _ c.from_residual.ensures.1 (λ format schema meta. tt) (λ format schema meta. tt)

pub returns-in_err-count-clause-quiet : goal.returns-in_err-count-clause-quiet
returns-in_err-count-clause-quiet g c = raised_quiet _ _ c.from_residual.result _ c.from_residual.ensures.1 c.in_err-count.ensures.quiet

pub returns-in_err-examine_deposits-clause-refused : goal.returns-in_err-examine_deposits-clause-refused
returns-in_err-examine_deposits-clause-refused g c clean =
    raised_is _ c.from_residual-in_err-examine_deposits.result _ c.from_residual-in_err-examine_deposits.ensures.1 (λ format schema meta. tt) (λ format schema meta. tt)

pub returns-in_err-examine_deposits-clause-quiet : goal.returns-in_err-examine_deposits-clause-quiet
returns-in_err-examine_deposits-clause-quiet g c =
    raised_quiet _ _ c.from_residual-in_err-examine_deposits.result _ c.from_residual-in_err-examine_deposits.ensures.1 (quiet_then _ _ _ _ c.requires.idle.idle c.in_ok-count.ensures.quiet c.in_err-examine_deposits.ensures.quiet)
