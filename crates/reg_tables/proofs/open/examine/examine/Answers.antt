use Rattle.std.proofs.Common.{◌+◌, Some, Err, refl, subst}
use Rattle.sqlite.specs.Effect.{Database}
use Rattle.sqlite.specs.Held.{state}
use Rattle.reg_tables.proofs.QuietLaws.{clean_before, idle_then, quiet_then}
use Rattle.reg_tables.specs.Adoption.{CountsDeposits, Examines, InEachFormat}
use Rattle.reg_tables.specs.Private.Digests.{HoldsDigests}
use Rattle.reg_tables.specs.Private.Heads.{HoldsKnown}
use Rattle.reg_tables.proofs.ExamineLemmas.{meta_examines}
use Rattle.std.proofs.lemmas.Result.{err_from_is_err_and}
use Rattle.reg_tables.proofs.QueryLemmas.{gives_up_quiet}
use Rattle.reg_tables.proofs.open.examine.examine.Goals as goal

pub read_register-requires-clause-idle : goal.read_register-requires-clause-idle
read_register-requires-clause-idle g c = idle_then _ _ c.requires.idle c.in_ok-dictionary.ensures.quiet

pub returns-in_err-dictionary-clause-examines : goal.returns-in_err-dictionary-clause-examines
returns-in_err-dictionary-clause-examines g c clean =
    let p = err_from_is_err_and c.from_residual.result c.from_residual.ensures.1 in
    rw (p.1, p.2) (meta_examines c.args.format (Err c.in_err-dictionary.field-0.0) (state g.S.Store c.args.conn.now).now c.in_err-dictionary.field-0.0 refl (c.in_err-dictionary.ensures.read clean))

pub returns-clause-examines : goal.returns-clause-examines
returns-clause-examines g c clean =
    let old = state g.S.Store c.args.conn.now in
    let mid = state g.S.Store c.read_dictionary.new.conn in
    let early = clean_before mid (state g.S.Store c.read_register.new.conn) c.read_register.ensures.quiet.survives clean in
    let first = clean_before old mid c.in_ok-dictionary.ensures.quiet.survives early in
    subst (λ (db : Database). InEachFormat db c.in_ok-dictionary.dictionary (λ format. CountsDeposits format db c.in_ok-dictionary.dictionary (Some c.in_ok-count.count))) (c.in_ok-dictionary.ensures.quiet.same early refl).0
    (c.in_ok-count.ensures.found clean) c.args.format (c.requires.schema first) (c.in_ok-dictionary.ensures.read early)

pub returns-clause-known : goal.returns-clause-known
returns-clause-known g c clean =
    let early = clean_before (state g.S.Store c.read_dictionary.new.conn) (state g.S.Store c.read_register.new.conn) c.read_register.ensures.quiet.survives clean in
    subst (λ (db : Database). HoldsKnown db c.in_ok-dictionary.dictionary c.read_register.new.known.items) (c.in_ok-dictionary.ensures.quiet.same early refl).0 (c.in_ok-count.ensures.known clean)

pub returns-clause-digests : goal.returns-clause-digests
returns-clause-digests g c clean =
    let early = clean_before (state g.S.Store c.read_dictionary.new.conn) (state g.S.Store c.read_register.new.conn) c.read_register.ensures.quiet.survives clean in
    subst (λ (db : Database). HoldsDigests db (c.in_ok-count.count + 1) c.read_register.new.digests) (c.in_ok-dictionary.ensures.quiet.same early refl).0 (c.in_ok-count.ensures.digests clean)

pub returns-clause-quiet : goal.returns-clause-quiet
returns-clause-quiet g c = quiet_then _ _ _ _ c.requires.idle.idle c.in_ok-dictionary.ensures.quiet c.in_ok-count.ensures.quiet

pub returns-in_err-count-clause-examines : goal.returns-in_err-count-clause-examines
returns-in_err-count-clause-examines g c clean =
    let old = state g.S.Store c.args.conn.now in
    let mid = state g.S.Store c.read_dictionary.new.conn in
    let early = clean_before mid (state g.S.Store c.read_register.new.conn) c.read_register.ensures.quiet.survives clean in
    let first = clean_before old mid c.in_ok-dictionary.ensures.quiet.survives early in
    let p = err_from_is_err_and c.from_residual-in_err-count.result c.from_residual-in_err-count.ensures.1 in
    let its = subst (λ (db : Database). InEachFormat db c.in_ok-dictionary.dictionary (λ format. Examines format db (Err c.in_err-count.field-0.0))) (c.in_ok-dictionary.ensures.quiet.same early refl).0
    (c.in_err-count.ensures.refused clean) c.args.format (c.requires.schema first) (c.in_ok-dictionary.ensures.read early) in
    rw (p.1, p.2) its

pub returns-in_err-count-clause-quiet : goal.returns-in_err-count-clause-quiet
returns-in_err-count-clause-quiet g c =
    gives_up_quiet _ _ c.from_residual-in_err-count.result _ c.from_residual-in_err-count.ensures.1 (quiet_then _ _ _ _ c.requires.idle.idle c.in_ok-dictionary.ensures.quiet c.in_err-count.ensures.quiet)

pub returns-in_err-dictionary-clause-quiet : goal.returns-in_err-dictionary-clause-quiet
returns-in_err-dictionary-clause-quiet g c = gives_up_quiet _ _ c.from_residual.result _ c.from_residual.ensures.1 c.in_err-dictionary.ensures.quiet
