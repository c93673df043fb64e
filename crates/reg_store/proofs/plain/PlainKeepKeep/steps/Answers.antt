use Rattle.reg_store.specs.Reading.{HasGraph}
use Rattle.reg_store.proofs.PlainLemmas.{of_kept, kept_is_fit}
use Rattle.reg_store.proofs.plain.PlainKeepKeep.steps.Goals as goal

pub checked_steps-requires : goal.checked_steps-requires
checked_steps-requires c =
    let keep = c.args.self.now in
    kept_is_fit keep.dictionary keep.kept.items c.args.n c.index.result.now keep.fit (c.requires.number tt) c.index.ensures

pub returns-clause-read : goal.returns-clause-read
returns-clause-read c = λ sound.
    let keep = c.args.self.now in
    of_kept keep.dictionary keep.kept.items c.args.n c.index.result.now (HasGraph c.in_ok-graph.graph) c.index.ensures c.in_ok-graph.ensures
