use Rattle.std.proofs.Common.{refl, sym, ◌∙◌}
use Rattle.sqlite.specs.Held.{state}
use Rattle.reg_tables.proofs.QuietLaws.{clean_before, read_before}
use Rattle.reg_tables.specs.Register.{deposits_in}
use Rattle.std.proofs.lemmas.Result.{IfOk-weaker}
use Rattle.reg_tables.proofs.KeepLemmas.{idle_at, keeps_quiet}
use Rattle.reg_tables.proofs.MethodsLaws.{graph_at}
use Rattle.reg_tables.proofs.MemoryLemmas.{agrees_still}
use Rattle.reg_tables.proofs.ReadsLemmas.{answered, reads_table}
use Rattle.reg_tables.proofs.keep.SqlKeepKeep.steps.Goals as goal

pub read_graph-found-requires : goal.read_graph-found-requires
read_graph-found-requires g c = record { idle = idle_at (state g.S.Store c.args.self.now.connection) c.args.self.now.idle (c.args.self.now.kept c.requires.working) }

pub invariant_of-self-clause-idle : goal.invariant_of-self-clause-idle
invariant_of-self-clause-idle g c = c.read_graph-found.ensures.quiet.idle

pub invariant_of-self-clause-kept : goal.invariant_of-self-clause-kept
invariant_of-self-clause-kept g c works clean =
    let keep = c.args.self.now in
    keeps_quiet (state g.S.Store keep.connection) (state g.S.Store c.read_graph-found.new.conn) (keep.kept c.requires.working) c.read_graph-found.ensures.quiet clean (sym c.answer.ensures.failing ∙ works)

pub invariant_of-self-clause-agrees : goal.invariant_of-self-clause-agrees
invariant_of-self-clause-agrees g c works clean =
    let keep = c.args.self.now in
    agrees_still (state g.S.Store keep.connection) (state g.S.Store c.read_graph-found.new.conn) keep.memory keep.dictionary (keep.agrees c.requires.working) c.read_graph-found.ensures.quiet clean (sym c.answer.ensures.failing ∙ works)

pub returns-clause-leaves : goal.returns-clause-leaves
returns-clause-leaves g c = reads_table (λ k. state g.S.Store k.connection) (λ k. k.dictionary) 999999 (λ k. k.has_failed) _ _ c.read_graph-found.result c.answer.result c.answer.ensures.answer c.read_graph-found.ensures.quiet refl c.answer.ensures.failing

pub returns-clause-read : goal.returns-clause-read
returns-clause-read g c clean =
    let keep = c.args.self.now in
    let old = state g.S.Store keep.connection in
    let first = clean_before old (state g.S.Store c.read_graph-found.new.conn) c.read_graph-found.ensures.quiet.survives clean in
    answered _ _ c.answer.ensures.answer (read_before (state g.S.Store keep.connection) (state g.S.Store c.read_graph-found.new.conn) c.read_graph-found.ensures.quiet (keep.kept c.requires.working) c.requires.number
    (λ its kept. graph_at {s = old} c.args.n c.read_graph-found.result its.0 kept
    (IfOk-weaker c.read_graph-found.result _ _ (λ graph same d file at of. same ∙ c.row_count-rows.ensures keep.dictionary (deposits_in old.committed.trees) (keep.agrees c.requires.working first) its.0 d file at of) c.read_graph-found.ensures.rows)
    (c.read_graph-found.ensures.steps clean)) clean)
