use Rattle.std.proofs.Common.{ap, ◌∙◌, is_ok}
use Rattle.reg_store.specs.declared.keep.Kept.{Kept}
use Rattle.reg_store.specs.Keep.{sent_of}
use Rattle.reg_store.specs.Fit.{IsFit}
use Rattle.reg_store.proofs.PlainLemmas.{checked_fit, fit_push}
use Rattle.reg_store.proofs.plain.PlainKeepKeep.add.Goals as goal

pub invariant_of-self-clause-fit : goal.invariant_of-self-clause-fit
invariant_of-self-clause-fit c =
    let keep = c.args.self.now in
    let kept = c.in_ok-kept.kept in
    let one : IsFit keep.dictionary (sent_of kept) =
    checked_fit keep.dictionary c.args.checked.now (sent_of kept) c.requires.dictionary (ap (λ (k : Kept). k.bytes) c.in_ok-kept.ensures ∙ c.bytes.ensures.bytes) c.bytes.ensures.clean c.requires.short in
    rw c.push.ensures.items (fit_push keep.dictionary keep.kept.items kept (is_ok c.push.result) one keep.fit)
