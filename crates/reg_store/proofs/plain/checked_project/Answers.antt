use Rattle.std.proofs.Common.{◌≡◌, ◌∙◌, Global, List, [], Vec, ap, length, subst}
use Rattle.std.proofs.lemmas.Result.{IfOk-weaker}
use Rattle.ags_links.specs.Walks.{StepGraph}
use Rattle.reg_store.specs.declared.keep.HeadedRow.{HeadedRow}
use Rattle.reg_store.specs.declared.keep.KeptRow.{KeptRow}
use Rattle.reg_store.specs.Fit.{kept_rows}
use Rattle.reg_store.specs.Keep.{sent_of}
use Rattle.reg_store.specs.Project.{AreProjectRows, headed_rows}
use Rattle.reg_store.specs.Reading.{HasProjectRows}
use Rattle.reg_store.proofs.PlainLemmas.{of_checked}
use Rattle.reg_store.proofs.ProjectLemmas.{headed_count}
use Rattle.reg_store.proofs.plain.checked_project.Goals as goal

pub returns : goal.returns
returns c =
    let checked = c.in_ok-checked.checked in
    let same : c.deref.result.now ≡ kept_rows checked.groups = c.deref.ensures.value ∙ c.in_ok-rows.ensures ∙ ap kept_rows (c.groups.ensures ∙ c.scan.ensures) in
    of_checked c.args.dictionary.now (sent_of c.args.kept.now) checked HasProjectRows c.project_rows_in.result c.in_ok-checked.ensures
    (IfOk-weaker c.project_rows_in.result _ _ (λ (found : Vec HeadedRow Global) are.
    subst (λ (rows : List KeptRow). length (headed_rows [] [] rows) ≡ checked.graph.rows → AreProjectRows rows checked.graph.steps found.items) same
    (subst (λ (graph : StepGraph). length (headed_rows [] [] c.deref.result.now) ≡ graph.rows → AreProjectRows c.deref.result.now graph.steps found.items) c.graph.ensures are)
    (headed_count checked c.in_ok-checked.ensures.clean)) c.project_rows_in.ensures)
