use Rattle.std.proofs.Common.{rules, ◌≡◌, true, false, refl, subst}
use Rattle.std.specs.Prelude.{Option, IfSome}
use Rattle.sqlite.specs.Effect.{Database}
use Rattle.sqlite.specs.Held.{state}
use Rattle.reg_store.specs.Keep.{sent_of}
use Rattle.reg_tables.specs.declared.memory.file.KnownFile.{KnownFile}
use Rattle.reg_tables.specs.Private.Digests.{IsNew}
use Rattle.reg_tables.specs.Private.Heads.{KnowsFile}
use Rattle.reg_tables.proofs.QuietLaws.{clean_before, idle_then, quiet_then}
use Rattle.reg_tables.proofs.ExamineLemmas.{tests_empty, tests_false, tests_first, tests_some, tests_then, tests_true}
use Rattle.reg_tables.proofs.QueryLemmas.{passed_quiet}
use Rattle.reg_tables.proofs.open.deposits.examine_kept.Goals as goal

pub examine_repeats-requires : goal.examine_repeats-requires
examine_repeats-requires g c = record { idle = idle_then _ _ c.requires.idle c.in_ok-file.ensures.quiet }

pub returns-in_default-clause-tested : goal.returns-in_default-clause-tested
returns-in_default-clause-tested g c clean = tests_first _ _ (tests_empty c.in_default.not-Some (c.in_ok-file.ensures.tested clean))

pub returns-in_default-clause-quiet : goal.returns-in_default-clause-quiet
returns-in_default-clause-quiet g c = c.in_ok-file.ensures.quiet

pub returns-in_err-file-clause-quiet : goal.returns-in_err-file-clause-quiet
returns-in_err-file-clause-quiet g c = passed_quiet _ _ c.from_residual.result _ c.from_residual.ensures.1 c.in_err-file.ensures.quiet

pub returns-then-branch-clause-tested : goal.returns-then-branch-clause-tested
returns-then-branch-clause-tested g c clean =
    let mid = state g.S.Store c.examine_body.new.conn in
    let early = clean_before mid (state g.S.Store c.examine_repeats.new.conn) c.in_ok-examine_repeats.ensures.quiet.survives clean in
    let is : c.in_ok-examine_repeats.field-0 ≡ true = search rules in
    let first = tests_some c.in-Some.is (c.in_ok-file.ensures.tested early) in
    tests_then true _ (λ (db : Database). IsNew db c.args.numbers.now (sent_of c.args.kept.now)) (state g.S.Store c.args.conn.now).now mid.now (c.in_ok-file.ensures.quiet.same early refl).0 first (tests_true is (c.in_ok-examine_repeats.ensures.tested clean))

pub returns-then-branch-clause-known : goal.returns-then-branch-clause-known
returns-then-branch-clause-known g c = subst (λ (found : Option KnownFile). IfSome found (KnowsFile c.args.dictionary.now (sent_of c.args.kept.now))) c.in-Some.is c.in_ok-file.ensures.known

pub returns-then-branch-clause-quiet : goal.returns-then-branch-clause-quiet
returns-then-branch-clause-quiet g c = quiet_then _ _ _ _ c.requires.idle.idle c.in_ok-file.ensures.quiet c.in_ok-examine_repeats.ensures.quiet

pub returns-else-branch-clause-tested : goal.returns-else-branch-clause-tested
returns-else-branch-clause-tested g c clean =
    let mid = state g.S.Store c.examine_body.new.conn in
    let early = clean_before mid (state g.S.Store c.examine_repeats.new.conn) c.in_ok-examine_repeats.ensures.quiet.survives clean in
    let no : c.in_ok-examine_repeats.field-0 ≡ false = search rules in
    let first = tests_some c.in-Some.is (c.in_ok-file.ensures.tested early) in
    tests_then false _ (λ (db : Database). IsNew db c.args.numbers.now (sent_of c.args.kept.now)) (state g.S.Store c.args.conn.now).now mid.now (c.in_ok-file.ensures.quiet.same early refl).0 first (tests_false no (c.in_ok-examine_repeats.ensures.tested clean))

pub returns-else-branch-clause-quiet : goal.returns-else-branch-clause-quiet
returns-else-branch-clause-quiet g c = quiet_then _ _ _ _ c.requires.idle.idle c.in_ok-file.ensures.quiet c.in_ok-examine_repeats.ensures.quiet

pub returns-in_err-examine_repeats-clause-quiet : goal.returns-in_err-examine_repeats-clause-quiet
returns-in_err-examine_repeats-clause-quiet g c =
    passed_quiet _ _ c.from_residual-in_err-examine_repeats.result _ c.from_residual-in_err-examine_repeats.ensures.1 (quiet_then _ _ _ _ c.requires.idle.idle c.in_ok-file.ensures.quiet c.in_err-examine_repeats.ensures.quiet)
