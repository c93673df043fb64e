use Rattle.std.proofs.Common.{◌≡◌, ◌-◌, ◌∙◌, arith, rules, subst, sym}
use Rattle.reg_store.specs.Fit.{IsFileOf, kept_rows}
use Rattle.reg_store.specs.Project.{AreProjectRows}
use Rattle.reg_store.specs.Sent.{Sent}
use Rattle.reg_tables.proofs.MemoryLemmas.{known_sent}
use Rattle.reg_tables.proofs.ProjectLemmas.{project_rows_of_some}
use Rattle.reg_tables.proofs.memory.Memory.held_project.Goals as goal

pub returns-clause-read : goal.returns-clause-read
returns-clause-read c = λ dictionary list agrees d file at of.
    let its = c.is_known.ensures.0 c.if-not-is_known.false in
    let one = known_sent dictionary list c.args.self.now.known.items (c.args.n - 1) c.index.result.now d agrees.known (omega (arith, its.0, its.1)) c.index.ensures at in
    let known = one.2.file file (subst (λ (x : Sent). IsFileOf dictionary x file) (sym one.1) of) in
    let same : c.deref.result.now ≡ c.index.result.now.file.project.items = search rules in
    subst (AreProjectRows (kept_rows file.groups) file.graph.steps) (sym (c.in_ok-rows.ensures ∙ same)) (project_rows_of_some (kept_rows file.groups) file.graph.steps c.index.result.now.file.project.items known.project.rows)
