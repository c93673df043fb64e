use Rattle.std.proofs.Common.{◌≡◌, Err, ap, subst, sym}
use Rattle.std.proofs.lemmas.Result.{err_from_is_err_and}
use Rattle.ags_check.specs.declared.checking.CheckError.TheVariants as CheckError
use Rattle.ags_check.specs.Findings.{IsClean}
use Rattle.ags_check.proofs.Whole.{checked_file, groups_found, clean}
use Rattle.ags_check.proofs.OneFile.{one_checked}
use Rattle.ags_check.proofs.checking.check.Goals as goal

pub of-requires : goal.of-requires
of-requires c =
    clean c.args.dictionary.now c.in_ok-extended.extended c.args.bytes.now c.in_ok-scan.scan c.in_ok-graph.graph c.in_ok-scan.ensures.groups c.in_ok-extended.ensures c.in_ok-graph.ensures.headers c.in_ok-graph.ensures.rows c.in_ok-graph.ensures.graph

pub returns-in_err-graph-clause-findings : goal.returns-in_err-graph-clause-findings
returns-in_err-graph-clause-findings c = λ found is.
    let p = err_from_is_err_and c.from_residual-in_err-graph.result c.from_residual-in_err-graph.ensures.1 in
    let of_callee : c.in_err-graph.field-0.0 ≡ CheckError.Findings found = cc (p.1, p.2) in
    let these = c.in_err-graph.ensures.findings found (ap (λ e. Err e) of_callee) in
    (groups_found c.args.dictionary.now c.in_ok-extended.extended c.args.bytes.now c.in_ok-scan.scan found c.in_ok-scan.ensures.groups c.in_ok-extended.ensures these.0, these.1)

pub returns-clause-bytes : goal.returns-clause-bytes
returns-clause-bytes c = c.of.ensures.bytes

pub returns-clause-given : goal.returns-clause-given
returns-clause-given c = c.of.ensures.given

pub returns-clause-clean : goal.returns-clause-clean
returns-clause-clean c =
    let file = checked_file c.args.bytes.now c.in_ok-scan.scan c.in_ok-extended.extended c.in_ok-graph.graph c.args.dictionary.now in
    let same : c.of.result ≡ file = one_checked c.of.result file c.of.ensures.given c.of.ensures.bytes c.of.ensures.groups c.of.ensures.entries c.of.ensures.graph in
    subst IsClean (sym same)
    (clean c.args.dictionary.now c.in_ok-extended.extended c.args.bytes.now c.in_ok-scan.scan c.in_ok-graph.graph c.in_ok-scan.ensures.groups c.in_ok-extended.ensures c.in_ok-graph.ensures.headers c.in_ok-graph.ensures.rows c.in_ok-graph.ensures.graph)
