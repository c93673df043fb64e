use Rattle.std.proofs.Common.{◌≡◌, [], refl, inl, inr, Err, ap}
use Rattle.std.proofs.lemmas.Result.{IfOk-weaker, err_from_is_err_and}
use Rattle.ags_rows.specs.declared.scanning.RowsError.TheVariants as RowsError
use Rattle.ags_rows.proofs.Collecting.{none_listed}
use Rattle.ags_rows.proofs.Cuts.{none_clear}
use Rattle.ags_rows.proofs.Once.{same_cutting}
use Rattle.ags_rows.proofs.scanning.read_groups.Goals as goal

pub clean_groups-requires : goal.clean_groups-requires
clean_groups-requires c =
    let none = none_listed [] (rw c.as_slice.ensures.value at c.in_ok-check_order.ensures.none) refl in
    let clear = none_clear c.args.rows.items none in
    record { few = c.requires; order = clear.0; named = clear.1 }

pub returns-clause-groups : goal.returns-clause-groups
returns-clause-groups c =
    let none = none_listed [] (rw c.as_slice.ensures.value at c.in_ok-check_order.ensures.none) refl in
    IfOk-weaker c.clean_groups.result _ _ (λ scan h. (h.0, inr (none, inr (none_listed [] h.1 refl, refl)))) c.clean_groups.ensures.groups

pub returns-clause-findings : goal.returns-clause-findings
returns-clause-findings c = λ found is.
    let h = c.clean_groups.ensures.findings found is in
    let none = none_listed [] (rw c.as_slice.ensures.value at c.in_ok-check_order.ensures.none) refl in
    (h.0, λ groups other. rw (← same_cutting c.args.rows.items h.1.0 groups (inl h.1.1.0) other) (inr (none, inl (h.1.1.1, h.0))))

pub returns-in_err-check_order-clause-findings : goal.returns-in_err-check_order-clause-findings
returns-in_err-check_order-clause-findings c = λ found is.
    let p = err_from_is_err_and c.from_residual.result c.from_residual.ensures.1 in
    let of_callee : c.in_err-check_order.field-0.0 ≡ RowsError.Findings found = cc (p.1, p.2) in
    let h = c.in_err-check_order.ensures.findings found (ap (λ e. Err e) of_callee) in
    (h.0, λ groups cut. inl (rw c.as_slice.ensures.value at h.1, h.0))
