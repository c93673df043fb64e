use Rattle.std.proofs.Common.{◌≡◌, Err, ap}
use Rattle.std.proofs.lemmas.Result.{err_from_is_err_and}
use Rattle.ags_check.specs.declared.checking.CheckError.TheVariants as CheckError
use Rattle.ags_check.proofs.checking.graph_of_groups.Goals as goal

pub returns-in_err-index-clause-findings : goal.returns-in_err-index-clause-findings
returns-in_err-index-clause-findings c = λ found is.
    let p = err_from_is_err_and c.from_residual.result c.from_residual.ensures.1 in
    let of_callee : c.in_err-index.field-0.0 ≡ CheckError.Findings found = cc (p.1, p.2) in
    c.in_err-index.ensures.findings found (ap (λ e. Err e) of_callee)
