use Rattle.std.proofs.Common.{refl, sym, ◌∙◌}
use Rattle.sqlite.specs.Held.{state}
use Rattle.reg_tables.proofs.QuietLaws.{read_before}
use Rattle.reg_tables.proofs.KeepLemmas.{idle_at, keeps_quiet}
use Rattle.reg_tables.proofs.MethodsLaws.{rows_at}
use Rattle.reg_tables.proofs.MemoryLemmas.{agrees_still}
use Rattle.reg_tables.proofs.ReadsLemmas.{answered, reads_table}
use Rattle.reg_tables.proofs.keep.SqlKeepKeep.rows.Goals as goal

pub read_lines-found-requires : goal.read_lines-found-requires
read_lines-found-requires g c = record { idle = idle_at (state g.S.Store c.args.self.now.connection) c.args.self.now.idle (c.args.self.now.kept c.requires.working) }

pub invariant_of-self-clause-idle : goal.invariant_of-self-clause-idle
invariant_of-self-clause-idle g c = c.read_lines-found.ensures.quiet.idle

pub invariant_of-self-clause-kept : goal.invariant_of-self-clause-kept
invariant_of-self-clause-kept g c works clean =
    let keep = c.args.self.now in
    keeps_quiet (state g.S.Store keep.connection) (state g.S.Store c.read_lines-found.new.conn) (keep.kept c.requires.working) c.read_lines-found.ensures.quiet clean (sym c.answer.ensures.failing ∙ works)

pub invariant_of-self-clause-agrees : goal.invariant_of-self-clause-agrees
invariant_of-self-clause-agrees g c works clean =
    let keep = c.args.self.now in
    agrees_still (state g.S.Store keep.connection) (state g.S.Store c.read_lines-found.new.conn) keep.memory keep.dictionary (keep.agrees c.requires.working) c.read_lines-found.ensures.quiet clean (sym c.answer.ensures.failing ∙ works)

pub returns-clause-leaves : goal.returns-clause-leaves
returns-clause-leaves g c = reads_table (λ k. state g.S.Store k.connection) (λ k. k.dictionary) 999999 (λ k. k.has_failed) _ _ c.read_lines-found.result c.answer.result c.answer.ensures.answer c.read_lines-found.ensures.quiet refl c.answer.ensures.failing

pub returns-clause-read : goal.returns-clause-read
returns-clause-read g c clean =
    let keep = c.args.self.now in
    answered _ _ c.answer.ensures.answer (read_before (state g.S.Store keep.connection) (state g.S.Store c.read_lines-found.new.conn) c.read_lines-found.ensures.quiet (keep.kept c.requires.working) c.requires.number
    (λ its kept. rows_at (λ x. x.items) {s = state g.S.Store keep.connection} c.args.n c.read_lines-found.result its.0 kept (c.read_lines-found.ensures.found clean)) clean)

pub returns-clause-kinds : goal.returns-clause-kinds
returns-clause-kinds g c = answered _ _ c.answer.ensures.answer c.read_lines-found.ensures.kinds
