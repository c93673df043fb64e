use Rattle.std.proofs.Common.{rules, ◌≡◌, false, IfOk, Ok, Result, ap, refl, subst, sym, ◌∙◌}
use Rattle.sqlite.specs.Held.{state}
use Rattle.reg_tables.specs.declared.error.TableError.{TableError}
use Rattle.reg_store.specs.declared.keep.Kept.{Kept}
use Rattle.reg_store.specs.Keep.{sent_of}
use Rattle.reg_tables.specs.Private.Errors.{database_fails}
use Rattle.reg_tables.specs.Private.Digests.{IsRowOf}
use Rattle.reg_tables.specs.Quiet.{IsStill}
use Rattle.reg_tables.proofs.QuietLaws.{clean_before}
use Rattle.reg_tables.specs.Register.{deposits_in}
use Rattle.reg_tables.proofs.KeepLemmas.{idle_at, keeps_quiet}
use Rattle.reg_tables.proofs.MethodsLaws.{deposit_read_at}
use Rattle.reg_tables.proofs.MemoryLemmas.{agrees_still}
use Rattle.reg_tables.proofs.ReadsLemmas.{found_of, reads_still}
use Rattle.reg_tables.proofs.keep.SqlKeepKeep.deposit.Goals as goal

pub read_deposit-found-requires : goal.read_deposit-found-requires
read_deposit-found-requires g c = record { idle = idle_at (state g.S.Store c.args.self.now.connection) c.args.self.now.idle (c.args.self.now.kept c.requires.working) }

pub invariant_of-self-clause-idle : goal.invariant_of-self-clause-idle
invariant_of-self-clause-idle g c = c.read_deposit-found.ensures.quiet.idle

pub invariant_of-self-clause-kept : goal.invariant_of-self-clause-kept
invariant_of-self-clause-kept g c works clean =
    keeps_quiet (state g.S.Store c.args.self.now.connection) (state g.S.Store c.read_deposit-found.new.conn) (c.args.self.now.kept c.requires.working) c.read_deposit-found.ensures.quiet clean (sym c.answer.ensures.failing ∙ works)

pub invariant_of-self-clause-agrees : goal.invariant_of-self-clause-agrees
invariant_of-self-clause-agrees g c works clean =
    agrees_still (state g.S.Store c.args.self.now.connection) (state g.S.Store c.read_deposit-found.new.conn) c.args.self.now.memory c.args.self.now.dictionary (c.args.self.now.agrees c.requires.working) c.read_deposit-found.ensures.quiet clean (sym c.answer.ensures.failing ∙ works)

pub returns-clause-leaves : goal.returns-clause-leaves
returns-clause-leaves g c =
    let old = state g.S.Store c.args.self.now.connection in
    let new = state g.S.Store c.read_deposit-found.new.conn in
    let given : c.answer.result ≡ Ok c.in_ok-kept.kept = search (rules, c.in_ok-kept.was) in
    let well = ap database_fails (found_of c.read_deposit-found.result c.in_ok-kept.kept (sym c.answer.ensures.answer ∙ given)) in
    let still = subst (IsStill old new) well c.read_deposit-found.ensures.quiet in
    reads_still (λ k. state g.S.Store k.connection) (λ k. k.dictionary) 999999 (λ k. k.has_failed) _ _ (Ok (record { firm = c.in_ok-kept.kept.firm; project = c.in_ok-kept.kept.project; embargo = c.in_ok-kept.kept.embargo; bytes = c.in_ok-kept.kept.bytes; withdrawn = c.is_withdrawn.result })) still refl (c.answer.ensures.failing ∙ well) tt

pub returns-clause-read : goal.returns-clause-read
returns-clause-read g c clean =
    let keep = c.args.self.now in
    let old = state g.S.Store keep.connection in
    let new = state g.S.Store c.read_deposit-found.new.conn in
    let first = clean_before old new c.read_deposit-found.ensures.quiet.survives clean in
    let its = c.requires.number first in
    let kept = c.in_ok-kept.kept in
    let given : c.answer.result ≡ Ok kept = search (rules, c.in_ok-kept.was) in
    let was = found_of c.read_deposit-found.result kept (sym c.answer.ensures.answer ∙ given) in
    let row = subst (λ (r : Result Kept TableError). IfOk r (λ k. IsRowOf old.now c.args.n (sent_of k))) was (c.read_deposit-found.ensures.found clean) in
    deposit_read_at {s = old} c.args.n (Ok (record { firm = kept.firm; project = kept.project; embargo = kept.embargo; bytes = kept.bytes; withdrawn = c.is_withdrawn.result })) its.0 its.1 (keep.kept c.requires.working first)
    row (λ d at. c.is_withdrawn.ensures keep.dictionary (deposits_in old.committed.trees) (keep.agrees c.requires.working first) its.0 d at)
