use Rattle.reg_store.specs.Reading.{HasKeptRows}
use Rattle.reg_store.proofs.PlainLemmas.{of_kept, kept_is_fit}
use Rattle.reg_store.proofs.plain.PlainKeepKeep.rows.Goals as goal

pub checked_rows-requires : goal.checked_rows-requires
checked_rows-requires c =
    let keep = c.args.self.now in
    kept_is_fit keep.dictionary keep.kept.items c.args.n c.index.result.now keep.fit (c.requires.number tt) c.index.ensures

pub returns-clause-read : goal.returns-clause-read
returns-clause-read c = λ sound.
    let keep = c.args.self.now in
    of_kept keep.dictionary keep.kept.items c.args.n c.index.result.now (HasKeptRows c.in_ok-rows.rows) c.index.ensures c.in_ok-rows.ensures.rows
