use Rattle.std.proofs.Common.{◌-◌, sym, subst}
use Rattle.reg_store.specs.Keep.{IsHeadOf, deposit_of}
use Rattle.reg_store.specs.Deposit.{Deposit}
use Rattle.reg_store.proofs.PlainLemmas.{kept_is}
use Rattle.reg_store.proofs.plain.PlainKeepKeep.head.Goals as goal

pub returns-clause-read : goal.returns-clause-read
returns-clause-read c = λ sound d there.
    subst (λ (one : Deposit). IsHeadOf one c.in_ok-head.head) (sym (kept_is deposit_of c.args.self.now.kept.items (c.args.n - 1) c.index.result.now d c.index.ensures there)) c.in_ok-head.ensures
