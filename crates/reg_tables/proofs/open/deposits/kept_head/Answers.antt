use Rattle.std.specs.Prelude.{Option, IfSome}
use Rattle.std.proofs.Common.{rules, ◌≡◌, true, false, ap, ◌∙◌, subst, sym}
use Rattle.sqlite.specs.Held.{state}
use Rattle.reg_store.specs.Keep.{sent_of}
use Rattle.reg_tables.specs.Private.Digests.{IsNew, numbers_under, own_digest}
use Rattle.reg_tables.specs.declared.memory.file.KnownFile.{KnownFile}
use Rattle.reg_tables.specs.Private.Heads.{KnowsFile}
use Rattle.reg_tables.specs.Whole.{HoldsBody, Tests}
use Rattle.reg_tables.proofs.ExamineLemmas.{tests_empty, tests_some}
use Rattle.reg_tables.proofs.QueryLemmas.{passed_quiet}
use Rattle.reg_tables.proofs.open.deposits.kept_head.Goals as goal

pub returns-clause-tested : goal.returns-clause-tested
returns-clause-tested g c clean =
    let old = state g.S.Store c.args.conn.now in
    let d = sent_of c.args.kept in
    let its : c.digest_of-digest.result ≡ own_digest d = search rules in
    let own : c.of-numbers.result.now ≡ numbers_under c.args.digests.now (own_digest d) = c.of-numbers.ensures ∙ ap (numbers_under c.args.digests.now) its in
    subst (λ ns. Tests true (HoldsBody old.now c.args.dictionary.now c.args.number d × IsNew old.now ns d)) own (tests_some c.in-Some.is (c.in_ok-file.ensures.tested clean))

pub returns-in_default-clause-tested : goal.returns-in_default-clause-tested
returns-in_default-clause-tested g c clean =
    let old = state g.S.Store c.args.conn.now in
    let d = sent_of c.args.kept in
    let its : c.digest_of-digest.result ≡ own_digest d = search rules in
    let own : c.of-numbers.result.now ≡ numbers_under c.args.digests.now (own_digest d) = c.of-numbers.ensures ∙ ap (numbers_under c.args.digests.now) its in
    subst (λ ns. Tests false (HoldsBody old.now c.args.dictionary.now c.args.number d × IsNew old.now ns d)) own (tests_empty c.in_default.not-Some (c.in_ok-file.ensures.tested clean))

pub returns-clause-quiet : goal.returns-clause-quiet
returns-clause-quiet g c = c.in_ok-file.ensures.quiet

pub returns-in_default-clause-quiet : goal.returns-in_default-clause-quiet
returns-in_default-clause-quiet g c = c.in_ok-file.ensures.quiet

pub returns-in_err-file-clause-quiet : goal.returns-in_err-file-clause-quiet
returns-in_err-file-clause-quiet g c = passed_quiet _ _ c.from_residual.result _ c.from_residual.ensures.1 c.in_err-file.ensures.quiet

pub returns-clause-head : goal.returns-clause-head
returns-clause-head g c =
    let d = sent_of c.args.kept in
    let its : c.digest_of-digest.result ≡ own_digest d = search rules in
    let known : KnowsFile c.args.dictionary.now d c.in-Some.file = subst (λ (found : Option KnownFile). IfSome found (KnowsFile c.args.dictionary.now d)) c.in-Some.is c.in_ok-file.ensures.known in
    (record { head = c.into_known.ensures.head; file = subst (KnowsFile c.args.dictionary.now d) (sym c.into_known.ensures.file) known }, its)
