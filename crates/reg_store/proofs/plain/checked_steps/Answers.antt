use Rattle.std.proofs.Common.{◌≡◌, subst}
use Rattle.std.specs.Prelude.{IfOk}
use Rattle.ags_links.specs.Walks.{StepGraph}
use Rattle.reg_store.specs.Keep.{sent_of}
use Rattle.reg_store.specs.Reading.{HasGraph}
use Rattle.reg_store.proofs.PlainLemmas.{of_checked}
use Rattle.reg_store.proofs.plain.checked_steps.Goals as goal

pub returns : goal.returns
returns c =
    of_checked c.args.dictionary.now (sent_of c.args.kept.now) c.in_ok-checked.checked HasGraph c.copy_graph.result c.in_ok-checked.ensures
    (subst (λ (graph : StepGraph). IfOk c.copy_graph.result (λ copied. copied ≡ graph)) c.graph.ensures c.copy_graph.ensures)
