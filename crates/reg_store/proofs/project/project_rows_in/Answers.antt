use Rattle.std.proofs.Common.{◌≡◌, ◌<◌, ◌↔◌, ◌∙◌, ℕ, Bool, List, [], Some, Vec, Global, ap, subst, sym}
use Rattle.std.specs.List.{items_where_true}
use Rattle.std.proofs.lemmas.Result.{IfOk-weaker}
use Rattle.ags_links.specs.Walks.{AreReachedFrom, IsMarked}
use Rattle.reg_store.specs.declared.keep.HeadedRow.{HeadedRow}
use Rattle.reg_store.specs.Project.{AreProjectRows, headed_rows, project_of}
use Rattle.reg_store.proofs.ProjectLemmas.{reached_rows}
use Rattle.reg_store.proofs.project.project_rows_in.Goals as goal

pub returns : goal.returns
returns c =
    let rows = c.args.rows.now in
    let graph = c.args.graph.now in
    let marks = c.in_ok-marks.marks.items in
    let is : project_of rows ≡ Some (c.in-Some.number, c.in-Some._row) = sym c.in_ok-number.ensures ∙ c.in-Some.is in
    let one = subst (λ (n : ℕ). (k : ℕ) → IsMarked c.in_ok-from.from.items k ↔ ((k < n) × (k ≡ c.in-Some.number))) c.rows.ensures c.in_ok-from.ensures.one in
    let reached = subst (λ (from : List Bool). AreReachedFrom graph.steps from marks) c.deref.ensures.value c.in_ok-marks.ensures.marks in
    IfOk-weaker c.rows_at_marks.result _ _ (λ (found : Vec HeadedRow Global) same counted.
    subst (AreProjectRows rows graph.steps) (sym (same ∙ ap (λ (m : List Bool). items_where_true m (headed_rows [] [] rows)) c.deref-2.ensures.value))
    (reached_rows rows graph.steps graph.rows c.in-Some.number c.in-Some._row c.in_ok-from.from.items marks is counted one reached)) c.rows_at_marks.ensures
