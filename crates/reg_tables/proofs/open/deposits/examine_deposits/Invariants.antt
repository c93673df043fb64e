use Rattle.std.proofs.Common.{◌≡◌, ◌+◌, ◌<◌, ℕ, length, false}
use Rattle.sqlite.specs.State.{HasCleanDisk}
use Rattle.sqlite.specs.Held.{state}
use Rattle.reg_tables.specs.Private.Digests.{AreBelow, HoldsDigests}
use Rattle.reg_tables.specs.Private.Heads.{HoldsKnown}
use Rattle.reg_tables.specs.Quiet.{IsIdle, IsStill}
use Rattle.reg_tables.specs.Whole.{IsWhole}
use Rattle.reg_tables.proofs.open.deposits.examine_deposits.Given as goal

abbrev pub invariant-loop-at : goal.invariant-loop-at
invariant-loop-at g l =
    let old = state g.S.Store l.fn.conn in
    let now = state g.S.Store l.conn in
    record {
      idle : IsIdle now;
      still : IsStill old now false;
      whole : HasCleanDisk now → (k : ℕ) → k < l.at → ∥ IsWhole old.now l.dictionary (k + 1) ∥₁;
      long : length l.known.items ≡ l.at;
      known : HasCleanDisk now → HoldsKnown old.now l.dictionary l.known.items;
      below : AreBelow l.digests (l.at + 1);
      digested : HasCleanDisk now → HoldsDigests old.now (l.at + 1) l.digests;
    }
