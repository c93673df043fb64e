use Rattle.std.proofs.Common.{refl, Ok}
use Rattle.sqlite.specs.Held.{state}
use Rattle.reg_tables.proofs.QuietLaws.{quiet_none}
use Rattle.reg_tables.specs.Register.{deposits_in}
use Rattle.reg_tables.proofs.ReadsLemmas.{reads_still}
use Rattle.reg_tables.proofs.keep.SqlKeepKeep.numbers.Goals as goal

pub returns-clause-leaves : goal.returns-clause-leaves
returns-clause-leaves g c =
    let still = quiet_none (state g.S.Store c.args.self.now.connection) _ c.args.self.now.idle in
    reads_still (λ k. state g.S.Store k.connection) (λ k. k.dictionary) 999999 (λ k. k.has_failed) _ _ (Ok c.in_ok-numbers.numbers) still refl c.requires.working tt

pub returns-clause-numbers : goal.returns-clause-numbers
returns-clause-numbers g c clean =
    let keep = c.args.self.now in
    c.in_ok-numbers.ensures keep.dictionary (deposits_in (state g.S.Store keep.connection).committed.trees) (keep.agrees c.requires.working clean)
