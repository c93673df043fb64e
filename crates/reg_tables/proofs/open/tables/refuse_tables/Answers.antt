use Rattle.std.proofs.Common.{rules, ◌≡◌, ◌∙◌, sym, ℤ, to_z, of_z, w64, Err, refl, subst}
use Rattle.sqlite.specs.Held.{state}
use Rattle.sqlite.proofs.StateLemmas.{survives_then}
use Rattle.reg_tables.specs.declared.error.AdoptError.TheVariants.{Version}
use Rattle.reg_tables.specs.Adoption.{Adopts}
use Rattle.reg_tables.proofs.FormatLemmas.{refused_format, refused_tables}
use Rattle.reg_tables.proofs.QueryLemmas.{both_open, fault_is, fault_quiet, refused_quiet, still_then}
use Rattle.reg_tables.proofs.open.tables.refuse_tables.Goals as goal

pub returns-in-Some-clause-refused : goal.returns-in-Some-clause-refused
returns-in-Some-clause-refused g c clean =
    let db = (state g.S.Store c.args.conn.now).now in
    let rows = c.in-Ok.rows.items in
    let same : c.deref.result.now ≡ rows = search rules in
    let wide : c.in-Some.number ≡ to_z w64 (of_z w64 c.in-Some.number) = search rules in
    subst (λ (n : ℤ). Adopts c.args.format db (Err (Version n))) wide (refused_format c.args.format db rows c.in-Some.number c.requires.meta (c.in-Ok.ensures.shown clean) (rw (same, c.number.ensures) at c.in-Some.ensures.found))

pub returns-in-Ok-clause-refused : goal.returns-in-Ok-clause-refused
returns-in-Ok-clause-refused g c clean =
    let rows = c.in-Ok.rows.items in
    let same : c.deref.result.now ≡ rows = search rules in
    refused_tables c.args.format (state g.S.Store c.args.conn.now).now rows c.requires.other (c.in-Ok.ensures.shown clean) (rw (same, c.number.ensures) at (c.in-None.ensures.none refl))

pub returns-in-Some-clause-same : goal.returns-in-Some-clause-same
returns-in-Some-clause-same g c clean well = let o = c.in-Ok.ensures.open clean in let it = c.read_meta_rows.ensures.same clean o in (both_open o it.0, c.read_meta_rows.ensures.mode ∙ sym c.requires.mode, it.1)

pub returns-in-Some-clause-still : goal.returns-in-Some-clause-still
returns-in-Some-clause-still g c = c.read_meta_rows.ensures.same

pub returns-in-Ok-clause-same : goal.returns-in-Ok-clause-same
returns-in-Ok-clause-same g c clean well = let o = c.in-Ok.ensures.open clean in let it = c.read_meta_rows.ensures.same clean o in (both_open o it.0, c.read_meta_rows.ensures.mode ∙ sym c.requires.mode, it.1)

pub returns-in-Ok-clause-still : goal.returns-in-Ok-clause-still
returns-in-Ok-clause-still g c = c.read_meta_rows.ensures.same

pub returns-clause-refused : goal.returns-clause-refused
returns-clause-refused g c clean = fault_is (λ a. Adopts c.args.format (state g.S.Store c.args.conn.now).now (Err a)) c.refusal.result c.from.result c.from.ensures tt tt

pub returns-clause-same : goal.returns-clause-same
returns-clause-same g c clean well =
    let old = state g.S.Store c.args.conn.now in
    let new = state g.S.Store c.refusal.new.conn in
    let quiet = fault_quiet old new c.refusal.result c.from.result c.from.ensures (refused_quiet old (state g.S.Store c.read_meta_rows.new.conn) new _ c.requires.mode c.read_meta_rows.ensures.mode (c.refusal.ensures.mode c.read_meta_rows.ensures.mode) c.requires.settled c.read_meta_rows.ensures.same c.read_meta_rows.ensures.crash c.refusal.ensures.known c.refusal.ensures.still c.refusal.ensures.crash) in
    (quiet.is_open clean well, quiet.idle ∙ sym c.requires.mode, quiet.same clean well)

pub returns-clause-still : goal.returns-clause-still
returns-clause-still g c = still_then (state g.S.Store c.args.conn.now) (state g.S.Store c.read_meta_rows.new.conn) (state g.S.Store c.refusal.new.conn) c.requires.mode c.read_meta_rows.ensures.mode c.requires.settled c.read_meta_rows.ensures.same c.read_meta_rows.ensures.crash c.refusal.ensures.still c.refusal.ensures.crash

pub returns-clause-crash : goal.returns-clause-crash
returns-clause-crash g c = survives_then (state g.S.Store c.args.conn.now) (state g.S.Store c.read_meta_rows.new.conn) (state g.S.Store c.refusal.new.conn) _ _ (λ _. ⊥) (λ _ db none. none) (λ _ db none. none) c.read_meta_rows.ensures.crash c.refusal.ensures.crash
