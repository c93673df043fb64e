use Rattle.std.proofs.Common.{◌≡◌, subst}
use Rattle.std.specs.Prelude.{Contains}
use Rattle.ags_rows.specs.Findings.{AreExactly}
use Rattle.ags_rows.proofs.Files.{is_nil, is_some}
use Rattle.ags_rows.proofs.scanning.none_noted.Goals as goal

pub returns-then-is_empty-clause-none : goal.returns-then-is_empty-clause-none
returns-then-is_empty-clause-none c =
    let is = c.in_order-found.ensures in
    subst (AreExactly (Contains c.args.noted)) (is_nil _ c.if-is_empty.ensures) (record { in_order = is.order; only = is.only; all = is.all })

pub returns-else-is_empty-clause-findings : goal.returns-else-is_empty-clause-findings
returns-else-is_empty-clause-findings c = λ all is.
    let found = c.in_order-found.result in
    let same : found ≡ all = cc in
    let in_order = c.in_order-found.ensures in
    rw (← same) (is_some found c.if-is_empty.ensures, record { in_order = in_order.order; only = in_order.only; all = in_order.all })
