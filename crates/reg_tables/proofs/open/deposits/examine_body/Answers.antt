use Rattle.std.proofs.Common.{rules, arith, ◌≡◌, ap, length, subst}
use Rattle.sqlite.specs.Held.{state}
use Rattle.ags_check.specs.Findings.{Findings}
use Rattle.reg_store.specs.Keep.{sent_of}
use Rattle.reg_store.specs.Fit.{IsFileOf}
use Rattle.reg_tables.proofs.QuietLaws.{quiet_none}
use Rattle.reg_tables.proofs.ExamineLemmas.{body_tests, known_file, no_body, no_file}
use Rattle.reg_tables.proofs.open.deposits.examine_body.Goals as goal

pub returns-then-bytes-gt-LIMIT-clause-tested : goal.returns-then-bytes-gt-LIMIT-clause-tested
returns-then-bytes-gt-LIMIT-clause-tested g c clean =
    let d = sent_of c.args.kept.now in
    let same : c.as_slice-bytes.result.now ≡ d.bytes = search rules in
    no_body (state g.S.Store c.args.conn.now).now c.args.dictionary.now c.args.number d (λ file its. absurd (omega (arith, its.short, ap length same)))

pub returns-in-Ok-clause-tested : goal.returns-in-Ok-clause-tested
returns-in-Ok-clause-tested g c clean =
    let d = sent_of c.args.kept.now in
    let same : c.as_slice-bytes.result.now ≡ d.bytes = search rules in
    let its : IsFileOf c.args.dictionary.now d c.in-Ok.file = record { given = c.in-Ok.ensures.given; bytes = search rules; clean = c.in-Ok.ensures.clean; short = omega (arith, ap length same) } in
    body_tests c.examine_checked.result (state g.S.Store c.args.conn.now).now c.args.dictionary.now c.args.number d c.in-Ok.file its (c.examine_checked.ensures.tested clean)

pub returns-in-Ok-clause-known : goal.returns-in-Ok-clause-known
returns-in-Ok-clause-known g c =
    let d = sent_of c.args.kept.now in
    let same : c.as_slice-bytes.result.now ≡ d.bytes = search rules in
    let its : IsFileOf c.args.dictionary.now d c.in-Ok.file = record { given = c.in-Ok.ensures.given; bytes = search rules; clean = c.in-Ok.ensures.clean; short = omega (arith, ap length same) } in
    known_file c.examine_checked.result c.args.dictionary.now d c.in-Ok.file its c.examine_checked.ensures.known

pub returns-in-Err-Findings-clause-tested : goal.returns-in-Err-Findings-clause-tested
returns-in-Err-Findings-clause-tested g c clean =
    let d = sent_of c.args.kept.now in
    let same : c.as_slice-bytes.result.now ≡ d.bytes = search rules in
    let found = c.in-Err-Findings._found in
    let stands = c.in-Err-Findings.ensures.findings found (search rules) in
    no_body (state g.S.Store c.args.conn.now).now c.args.dictionary.now c.args.number d (no_file c.args.dictionary.now d found (subst (λ b. Findings c.args.dictionary.now b found) same stands.0) stands.1)

pub returns-then-bytes-gt-LIMIT-clause-quiet : goal.returns-then-bytes-gt-LIMIT-clause-quiet
returns-then-bytes-gt-LIMIT-clause-quiet g c = quiet_none (state g.S.Store c.args.conn.now) _ c.requires.idle.idle

pub returns-in-Ok-clause-quiet : goal.returns-in-Ok-clause-quiet
returns-in-Ok-clause-quiet g c = c.examine_checked.ensures.quiet

pub returns-in-Err-Findings-clause-quiet : goal.returns-in-Err-Findings-clause-quiet
returns-in-Err-Findings-clause-quiet g c = quiet_none (state g.S.Store c.args.conn.now) _ c.requires.idle.idle

pub returns-in-Err-NoMemory-clause-quiet : goal.returns-in-Err-NoMemory-clause-quiet
returns-in-Err-NoMemory-clause-quiet g c = quiet_none (state g.S.Store c.args.conn.now) _ c.requires.idle.idle
