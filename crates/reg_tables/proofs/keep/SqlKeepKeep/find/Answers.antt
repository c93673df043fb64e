use Rattle.std.proofs.Common.{◌≡◌, ap, refl, subst, sym, ◌+◌, ◌∙◌}
use Rattle.sqlite.specs.Held.{state}
use Rattle.reg_tables.specs.Private.Digests.{AreBelow, digest_of, numbers_under}
use Rattle.reg_tables.proofs.QuietLaws.{clean_before}
use Rattle.reg_tables.proofs.KeepLemmas.{counted_at, idle_at, keeps_quiet}
use Rattle.reg_tables.proofs.MemoryLemmas.{agrees_still}
use Rattle.reg_tables.proofs.RepeatsLemmas.{repeat_found}
use Rattle.reg_tables.proofs.ReadsLemmas.{answered, reads_table}
use Rattle.reg_tables.proofs.keep.SqlKeepKeep.find.Goals as goal

pub read_equal-found-requires : goal.read_equal-found-requires
read_equal-found-requires g c = record { idle = idle_at (state g.S.Store c.args.self.now.connection) c.args.self.now.idle (c.args.self.now.kept c.requires.working) }

pub invariant_of-self-clause-idle : goal.invariant_of-self-clause-idle
invariant_of-self-clause-idle g c = c.read_equal-found.ensures.quiet.idle

pub invariant_of-self-clause-kept : goal.invariant_of-self-clause-kept
invariant_of-self-clause-kept g c works clean =
    keeps_quiet (state g.S.Store c.args.self.now.connection) (state g.S.Store c.read_equal-found.new.conn) (c.args.self.now.kept c.requires.working) c.read_equal-found.ensures.quiet clean (sym c.answer.ensures.failing ∙ works)

pub invariant_of-self-clause-agrees : goal.invariant_of-self-clause-agrees
invariant_of-self-clause-agrees g c works clean =
    agrees_still (state g.S.Store c.args.self.now.connection) (state g.S.Store c.read_equal-found.new.conn) c.args.self.now.memory c.args.self.now.dictionary (c.args.self.now.agrees c.requires.working) c.read_equal-found.ensures.quiet clean (sym c.answer.ensures.failing ∙ works)

pub returns-clause-leaves : goal.returns-clause-leaves
returns-clause-leaves g c = reads_table (λ k. state g.S.Store k.connection) (λ k. k.dictionary) 999999 (λ k. k.has_failed) _ _ c.read_equal-found.result c.answer.result c.answer.ensures.answer c.read_equal-found.ensures.quiet refl c.answer.ensures.failing

pub returns-clause-found : goal.returns-clause-found
returns-clause-found g c clean =
    let keep = c.args.self.now in
    let old = state g.S.Store keep.connection in
    let new = state g.S.Store c.read_equal-found.new.conn in
    let first = clean_before old new c.read_equal-found.ensures.quiet.survives clean in
    let kept = keep.kept c.requires.working first in
    let agrees = keep.agrees c.requires.working first in
    let own : c.held_with_digest-numbers.result.now ≡ numbers_under keep.memory.digests (digest_of c.args.firm.now c.args.project.now c.args.bytes.now) = c.held_with_digest-numbers.ensures ∙ ap (numbers_under keep.memory.digests) c.digest_of-digest.ensures in
    answered _ _ c.answer.ensures.answer (repeat_found {s = old} c.args.firm.now c.args.project.now c.args.bytes.now keep.memory.digests c.held_with_digest-numbers.result.now c.read_equal-found.result kept own
    (subst (λ n. AreBelow keep.memory.digests (n + 1)) (sym (counted_at {s = old} kept)) agrees.below) agrees.digests
    (c.read_equal-found.ensures.equal clean) c.read_equal-found.ensures.among (c.read_equal-found.ensures.none clean))
