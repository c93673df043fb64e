use Rattle.std.proofs.Common.{◌≡◌, Err, ap, inl, inr}
use Rattle.ags_check.specs.declared.checking.CheckError.TheVariants as CheckError
use Rattle.ags_check.proofs.checking.clear_index.Goals as goal

pub returns-in-Err-clause-findings : goal.returns-in-Err-clause-findings
returns-in-Err-clause-findings c = λ found is.
    let same : c.in-Err.e ≡ CheckError.Findings found = cc in
    let these = c.in-Err.ensures.findings found (ap (λ e. Err e) same) in
    (inl these, these.1)

pub returns-in-Err-check_rows-clause-findings : goal.returns-in-Err-check_rows-clause-findings
returns-in-Err-check_rows-clause-findings c = λ found is.
    let same : c.in-Err-check_rows.e ≡ CheckError.Findings found = cc in
    let these = c.in-Err-check_rows.ensures.findings found (ap (λ e. Err e) same) in
    (inr (c.in_default.ensures.clear, inl these), these.1)
