use Rattle.std.proofs.Common.{refl}
use Rattle.std.proofs.lemmas.Result.{IfOk-weaker}
use Rattle.sqlite.specs.Held.{state}
use Rattle.reg_tables.proofs.QuietLaws.{quiet_none}
use Rattle.reg_tables.specs.Register.{deposits_in}
use Rattle.reg_tables.proofs.ReadsLemmas.{answered, reads_table}
use Rattle.reg_tables.proofs.keep.SqlKeepKeep.head.Goals as goal

pub invariant_of-self-clause-kept : goal.invariant_of-self-clause-kept
invariant_of-self-clause-kept g c works clean = c.args.self.now.kept c.requires.working clean

pub invariant_of-self-clause-agrees : goal.invariant_of-self-clause-agrees
invariant_of-self-clause-agrees g c works clean = c.args.self.now.agrees c.requires.working clean

pub returns-clause-leaves : goal.returns-clause-leaves
returns-clause-leaves g c =
    let still = quiet_none (state g.S.Store c.args.self.now.connection) _ c.args.self.now.idle in
    reads_table (λ k. state g.S.Store k.connection) (λ k. k.dictionary) 999999 (λ k. k.has_failed) _ _ c.held_head-found.result c.answer.result c.answer.ensures.answer still refl c.answer.ensures.failing

pub returns-clause-read : goal.returns-clause-read
returns-clause-read g c clean =
    let keep = c.args.self.now in
    let its = IfOk-weaker c.held_head-found.result _ _ (λ head read. read keep.dictionary (deposits_in (state g.S.Store keep.connection).committed.trees) (keep.agrees c.requires.working clean)) c.held_head-found.ensures.read in
    answered _ _ c.answer.ensures.answer its
