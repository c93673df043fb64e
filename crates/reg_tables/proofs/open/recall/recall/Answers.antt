use Rattle.std.proofs.Common.{rules, ◌≡◌, [], Err, refl, ap, subst, ◌∙◌}
use Rattle.sqlite.specs.Schema.{Schema}
use Rattle.sqlite.specs.Effect.{Database}
use Rattle.sqlite.specs.Held.{state}
use Rattle.reg_tables.specs.declared.schema.format.Format.TheVariants.{Second}
use Rattle.reg_tables.specs.Adoption.{Adopts, FindsMarks, HoldsMarks}
use Rattle.reg_tables.proofs.QuietLaws.{clean_before, quiet_then}
use Rattle.reg_tables.proofs.QueryLemmas.{gives_up_quiet, refused_as}
use Rattle.reg_tables.proofs.ExamineLemmas.{refused_sent}
use Rattle.reg_tables.proofs.RecallLemmas.{recalled, refused_marks}
use Rattle.reg_tables.proofs.open.recall.recall.Goals as goal

pub returns-in_err-dictionary-clause-refused : goal.returns-in_err-dictionary-clause-refused
returns-in_err-dictionary-clause-refused g c clean =
    let old = state g.S.Store c.args.conn.now in
    refused_as (λ e. Adopts Second old.now (Err e)) c.from_residual.result _ c.from_residual.ensures.1 (refused_sent Second old.now _ (c.in_err-dictionary.ensures.examines clean))

pub returns-in_err-dictionary-clause-quiet : goal.returns-in_err-dictionary-clause-quiet
returns-in_err-dictionary-clause-quiet g c = gives_up_quiet _ _ c.from_residual.result _ c.from_residual.ensures.1 c.in_err-dictionary.ensures.quiet

pub read_marks-requires-clause-schema : goal.read_marks-requires-clause-schema
read_marks-requires-clause-schema g c clean =
    let old = state g.S.Store c.args.conn.now in
    let is : (state g.S.Store c.examine.new.conn).now ≡ old.now = (c.in_ok-dictionary.ensures.quiet.same clean refl).0 in
    let early = clean_before old (state g.S.Store c.examine.new.conn) c.in_ok-dictionary.ensures.quiet.survives clean in
    ([], ap (λ (db : Database). db.schema.tables) is ∙ ap (λ (s : Schema). s.tables) (c.requires.schema early))

pub returns-in_err-marks-clause-refused : goal.returns-in_err-marks-clause-refused
returns-in_err-marks-clause-refused g c clean =
    let old = state g.S.Store c.args.conn.now in
    let error = c.in_err-marks.field-0.0 in
    let early = clean_before (state g.S.Store c.examine.new.conn) (state g.S.Store c.read_marks.new.conn) c.in_err-marks.ensures.quiet.survives clean in
    let same = (c.in_ok-dictionary.ensures.quiet.same early refl).0 in
    refused_as (λ e. Adopts Second old.now (Err e)) c.from_residual-in_err-marks.result error c.from_residual-in_err-marks.ensures.1 (refused_marks old.now c.in_ok-dictionary.dictionary c.in_ok-dictionary.count error (c.in_ok-dictionary.ensures.examines early)
    (subst (λ (db : Database). FindsMarks c.in_ok-dictionary.count db (Err error)) same (c.in_err-marks.ensures.found clean)))

pub returns-in_err-marks-clause-quiet : goal.returns-in_err-marks-clause-quiet
returns-in_err-marks-clause-quiet g c =
    gives_up_quiet _ _ c.from_residual-in_err-marks.result _ c.from_residual-in_err-marks.ensures.1 (quiet_then _ _ _ _ c.requires.idle.idle c.in_ok-dictionary.ensures.quiet c.in_err-marks.ensures.quiet)

pub returns-clause-found : goal.returns-clause-found
returns-clause-found g c clean =
    let old = state g.S.Store c.args.conn.now in
    let count = c.in_ok-dictionary.count in
    let found = c.examine.new.found in
    let marks = c.in_ok-marks.marks.items in
    let early = clean_before (state g.S.Store c.examine.new.conn) (state g.S.Store c.read_marks.new.conn) c.in_ok-marks.ensures.quiet.survives clean in
    let same = (c.in_ok-dictionary.ensures.quiet.same early refl).0 in
    let held = subst (λ (db : Database). HoldsMarks count db marks) same (c.in_ok-marks.ensures.found clean) in
    let its_marks : c.deref.result.now ≡ marks = search rules in
    let read = c.in_ok-dictionary.ensures in
    recalled old.now c.in_ok-dictionary.dictionary count found.known.items marks found.digests c.of.result (read.examines early) (read.known early) (read.digests early) read.below read.long held c.of.ensures.long
    (λ list are marks_are digested below. c.of.ensures.agrees c.in_ok-dictionary.dictionary list are (its_marks ∙ marks_are) digested below)
