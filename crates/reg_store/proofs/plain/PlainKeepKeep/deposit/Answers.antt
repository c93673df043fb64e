use Rattle.std.proofs.Common.{◌-◌, ◌<◌, length, Some, sym, ap, ◌∙◌, arith}
use Rattle.std.proofs.lemmas.List.{length-map}
use Rattle.reg_store.specs.declared.keep.Kept.{Kept}
use Rattle.reg_store.specs.Keep.{deposit_of}
use Rattle.reg_store.proofs.PlainLemmas.{kept_at}
use Rattle.reg_store.proofs.plain.PlainKeepKeep.deposit.Goals as goal

pub returns-clause-read : goal.returns-clause-read
returns-clause-read c = λ sound.
    let keep = c.args.self.now in
    let number = c.requires.number tt in
    let low : c.args.n - 1 < length keep.kept.items = omega (arith, number.0, number.1, length-map keep.kept.items deposit_of) in
    kept_at keep.kept.items (c.args.n - 1) c.index-kept.result.now low c.index-kept.ensures ∙ ap (λ (k : Kept). Some (deposit_of k)) (sym (rw c.as_slice.ensures at c.in_ok-copied.ensures))
