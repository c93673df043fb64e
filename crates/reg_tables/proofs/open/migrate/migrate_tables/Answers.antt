use Rattle.std.proofs.Common.{◌≡◌, Err, refl, sym, subst}
use Rattle.sqlite.specs.Effect.{Database}
use Rattle.sqlite.specs.State.{Survives}
use Rattle.sqlite.specs.Held.{state}
use Rattle.reg_tables.specs.declared.error.AdoptError.TheVariants.{Store}
use Rattle.reg_tables.specs.declared.schema.format.Format.TheVariants.{First}
use Rattle.reg_tables.specs.Adoption.{Adopts}
use Rattle.reg_tables.specs.Migrates.{IsMigrated, Migrates}
use Rattle.reg_tables.proofs.QuietLaws.{clean_before}
use Rattle.reg_tables.proofs.MigrateLemmas.{migrated_list, migrates_then, recalled_then, refused_then}
use Rattle.std.proofs.lemmas.Result.{err_from_is_err_and}
use Rattle.reg_tables.proofs.QueryLemmas.{refused_as}
use Rattle.reg_tables.proofs.open.migrate.migrate_tables.Goals as goal

pub returns-in_err-known-clause-refused : goal.returns-in_err-known-clause-refused
returns-in_err-known-clause-refused g c clean =
    let error = c.in_err-known.field-0.0 in
    refused_as (λ e. Adopts First (state g.S.Store c.args.conn.now).now (Err e)) c.from_residual-in_err-known.result error c.from_residual-in_err-known.ensures.1
    (subst (λ h. Adopts First (state g.S.Store h).now (Err error)) c.in_ok-examine_tables.ensures.unchanged (c.in_err-known.ensures.refused clean))

pub returns-clause-found : goal.returns-clause-found
returns-clause-found g c clean =
    let start = state g.S.Store c.examine_tables.new.conn in
    let mid = state g.S.Store c.recall_first.new.conn in
    let new = state g.S.Store c.change_tables.new.conn in
    let found = c.in_ok-known.ensures in
    let early = clean_before mid new c.change_tables.ensures.crash clean in
    let same : mid.now ≡ start.now = (found.quiet.same early refl).0 in
    recalled_then start.now new.now c.in_ok-known.known.0 c.in_ok-known.known.1 (found.found early)
    (subst (λ (db : Database). Migrates db new.now) same (c.in_ok-change_tables.ensures.made clean).change)

pub returns-clause-migrated : goal.returns-clause-migrated
returns-clause-migrated g c clean =
    let start = state g.S.Store c.examine_tables.new.conn in
    let mid = state g.S.Store c.recall_first.new.conn in
    let new = state g.S.Store c.change_tables.new.conn in
    let found = c.in_ok-known.ensures in
    let early = clean_before mid new c.change_tables.ensures.crash clean in
    let same : mid.now ≡ start.now = (found.quiet.same early refl).0 in
    let list = migrated_list start.now new c.in_ok-known.known.0 c.in_ok-known.known.1 (found.found early)
    (subst (λ (db : Database). Migrates db new.now) same (c.in_ok-change_tables.ensures.made clean).change)
    (c.in_ok-change_tables.ensures.settled clean) in
    rw c.in_ok-examine_tables.ensures.unchanged at list

pub returns-clause-made : goal.returns-clause-made
returns-clause-made g c =
    let start = state g.S.Store c.examine_tables.new.conn in
    let mid = state g.S.Store c.recall_first.new.conn in
    let new = state g.S.Store c.change_tables.new.conn in
    let found = c.in_ok-known.ensures in
    let whole = migrates_then start mid new c.in_ok-known.known.0 c.in_ok-known.known.1
    found.quiet found.found c.change_tables.ensures.crash in
    rw c.in_ok-examine_tables.ensures.unchanged at whole

pub returns-in_err-change_tables-clause-left : goal.returns-in_err-change_tables-clause-left
returns-in_err-change_tables-clause-left g c =
    let start = state g.S.Store c.examine_tables.new.conn in
    let mid = state g.S.Store c.recall_first.new.conn in
    let new = state g.S.Store c.change_tables.new.conn in
    let found = c.in_ok-known.ensures in
    let p = err_from_is_err_and c.from_residual-in_err-change_tables.result c.from_residual-in_err-change_tables.ensures.1 in
    let whole = refused_then start mid new c.in_ok-known.known.0 c.in_ok-known.known.1
    c.in_err-change_tables.field-0.0 found.quiet found.found c.change_tables.ensures.crash c.in_err-change_tables.ensures.quiet in
    let left = rw c.in_ok-examine_tables.ensures.unchanged at
    (subst (λ e. Survives start new (λ trees. (e ≡ Store) × IsMigrated start trees)) (sym p.2) whole) in
    rw p.1 left
