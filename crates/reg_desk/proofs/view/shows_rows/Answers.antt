use Rattle.std.proofs.Common.{◌∙◌, Err, List, All, ap, arith, length, subst, sym, true}
use Rattle.std.proofs.lemmas.Bool.{eqb-false, not-true}
use Rattle.std.proofs.lemmas.List.{take_all}
use Rattle.std.proofs.lemmas.List.Elements.{All-more, All-nil}
use Rattle.reg_store.specs.declared.keep.HeadedRow.{HeadedRow}
use Rattle.reg_desk.specs.View.{HeadedMayBeSeen}
use Rattle.reg_desk.proofs.Projects.{decided, found_row, one_hidden}
use Rattle.reg_desk.proofs.Views.{passed_on}
use Rattle.reg_desk.proofs.view.shows_rows.Goals as goal

pub loop-row-init : goal.loop-row-init
loop-row-init c = All-nil (λ (h : HeadedRow). HeadedMayBeSeen c.args.look.now h true)

pub returns-then-not-branch-clause-seen : goal.returns-then-not-branch-clause-seen
returns-then-not-branch-clause-seen c = λ file clean are.
    let look = c.args.look.now in
    let hidden = subst (HeadedMayBeSeen look c.row-item.result) c.if-not-branch.true c.in_ok-permits_headed.ensures.may in
    (λ e. absurd cc, λ shows. absurd (one_hidden look file clean c.args.rows.now are c.row-item.result (c.loop-row.row-index, c.loop-row-test.true, sym c.row-item.is) hidden shows))

pub returns-in_err-permits_headed-clause-broken : goal.returns-in_err-permits_headed-clause-broken
returns-in_err-permits_headed-clause-broken c = λ e file clean are.
    let store = passed_on c.from_residual.result c.in_err-permits_headed.field-0.0 c.from_residual.ensures.1 e in
    let row = found_row c.args.look.now file clean c.args.rows.now are c.row-item.result (c.loop-row.row-index, c.loop-row-test.true, sym c.row-item.is) in
    c.in_err-permits_headed.ensures.broken (ap (λ e. Err e) store) row.0 row.1

pub loop-row-preserved : goal.loop-row-preserved
loop-row-preserved c =
    let look = c.args.look.now in
    let seen = subst (HeadedMayBeSeen look c.row-item.result) c.if-not-branch.false c.in_ok-permits_headed.ensures.may in
    All-more (λ (h : HeadedRow). HeadedMayBeSeen look h true) c.args.rows.now c.loop-row.row-index c.row-item.result c.loop-row-test.true c.loop-row.invariant
    (subst (λ (h : HeadedRow). HeadedMayBeSeen look h true) c.row-item.is seen)

pub returns-clause-seen : goal.returns-clause-seen
returns-clause-seen c = λ file clean are.
    decided c.args.look.now file clean c.args.rows.now are c.is_empty.result c.is_empty.ensures
    (subst (λ (rows : List HeadedRow). All (λ h. HeadedMayBeSeen c.args.look.now h true) rows) (take_all c.loop-row.row-index c.args.rows.now c.loop-row-test.false) c.loop-row.invariant)

pub returns-clause-rows : goal.returns-clause-rows
returns-clause-rows c = λ e. (
  omega (arith, eqb-false (length c.args.rows.now) 0 (sym c.is_empty.ensures ∙ not-true c.is_empty.result e)),
  subst (λ (rows : List HeadedRow). All (λ h. HeadedMayBeSeen c.args.look.now h true) rows) (take_all c.loop-row.row-index c.args.rows.now c.loop-row-test.false) c.loop-row.invariant,
)
