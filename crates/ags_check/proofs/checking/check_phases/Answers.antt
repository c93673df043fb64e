use Rattle.std.proofs.Common.{◌≡◌, Err, [], ap, inr, refl}
use Rattle.std.proofs.lemmas.Result.{err_from_is_err_and}
use Rattle.ags_check.specs.declared.checking.CheckError.TheVariants as CheckError
use Rattle.ags_check.proofs.Whole.{groups_found}
use Rattle.ags_check.proofs.checking.check_phases.Goals as goal

pub returns-in_err-clear_index-clause-findings : goal.returns-in_err-clear_index-clause-findings
returns-in_err-clear_index-clause-findings c = λ found is.
    let p = err_from_is_err_and c.from_residual-in_err-clear_index.result c.from_residual-in_err-clear_index.ensures.1 in
    let of_callee : c.in_err-clear_index.field-0.0 ≡ CheckError.Findings found = cc (p.1, p.2) in
    let these = c.in_err-clear_index.ensures.findings found (ap (λ e. Err e) of_callee) in
    (groups_found c.args.dictionary.now c.in_ok-extended.extended c.args.bytes.now c.in_ok-scan.scan found c.in_ok-scan.ensures.groups c.in_ok-extended.ensures these.0, these.1)

pub returns-clause-clean : goal.returns-clause-clean
returns-clause-clean c =
    groups_found c.args.dictionary.now c.in_ok-extended.extended c.args.bytes.now c.in_ok-scan.scan [] c.in_ok-scan.ensures.groups c.in_ok-extended.ensures (inr (c.in_ok-clear_index.ensures.headers, inr (c.in_ok-clear_index.ensures.rows, refl)))
