use Rattle.std.proofs.Common.{◌∙◌, ◌++◌, ◌∷◌, [], List, ℕ, ap, arith, flat_map, sym, take}
use Rattle.std.proofs.lemmas.List.{append-nil, take_all}
use Rattle.std.proofs.lemmas.List.Concat.{flat_map-append}
use Rattle.ags_rows.specs.FindingLists.{finding_of}
use Rattle.ags_rows.proofs.Lemmas.{take_at}
use Rattle.ags_cli.specs.Report.{report_line}
use Rattle.ags_cli.proofs.report.report_lines.Goals as goal

pub loop-place-preserved : goal.loop-place-preserved
loop-place-preserved c =
    let findings = c.args.findings.now in
    let place = c.loop-place.place in
    let found = finding_of c.at.result in
    c.in_ok-push_report_line.ensures
    ∙ ap (λ (l : List ℕ). l ++ report_line found) c.loop-place.invariant
    ∙ ap (λ (l : List ℕ). flat_map report_line (take place findings) ++ l) (sym (append-nil (report_line found)))
    ∙ sym (flat_map-append report_line (take place findings) (found ∷ []))
    ∙ ap (flat_map report_line) (sym (take_at findings place found c.at.ensures))

pub returns : goal.returns
returns c = c.loop-place.invariant ∙ ap (flat_map report_line) (take_all c.loop-place.place c.args.findings.now (omega (arith, c.loop-place-test.false, c.len-place-end.ensures)))
