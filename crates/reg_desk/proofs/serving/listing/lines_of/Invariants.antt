use Rattle.std.proofs.Common.{◌≡◌, false, drop}
use Rattle.reg_store.specs.Sent.{numbers_from}
use Rattle.reg_store.specs.Deposit.{sents}
use Rattle.reg_desk.specs.Machine.{held}
use Rattle.reg_desk.specs.Serving.{OnlyReads, terms_at}
use Rattle.reg_desk.proofs.Listings.{SoFar}
use Rattle.reg_desk.proofs.serving.listing.lines_of.Given as goal

abbrev pub invariant-loop-number : goal.invariant-loop-number
invariant-loop-number g l = record {
  reads : OnlyReads g.K.Keep l.initial.keep l.keep false;
  numbers : g.K.Keep.is_sound l.keep
      → l.number-items ≡ numbers_from 1 l.project (sents (g.K.Keep.deposits l.initial.keep));
  so_far : g.K.Keep.is_sound l.keep
      → ∥ SoFar (terms_at g.K.Keep l.policy l.initial.keep) l.caller l.project l.day (λ n. held n (g.K.Keep.deposits l.initial.keep)) l.number-items (drop l.number-index l.number-items) l.lines.items ∥₁;
}
