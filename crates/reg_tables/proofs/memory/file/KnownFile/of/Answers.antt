use Rattle.reg_tables.proofs.ProjectLemmas.{project_of_file}
use Rattle.reg_tables.proofs.memory.file.KnownFile.of.Goals as goal

pub returns : goal.returns
returns c =
    let file = c.args.file.now in
    let its = project_of_file file c.args.rows.now c.graph.result.now c.in_ok-project.project.items c.bytes.ensures.clean c.requires c.graph.ensures c.in_ok-project.ensures in
    record { rows = c.of.ensures; project = record { rows = ∣ its ∣₁ } }
