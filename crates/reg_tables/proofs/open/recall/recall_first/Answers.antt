use Rattle.std.proofs.Common.{rules, ◌≡◌, Err, ◌∙◌}
use Rattle.sqlite.specs.Held.{state}
use Rattle.reg_tables.specs.declared.schema.format.Format.TheVariants.{First}
use Rattle.reg_tables.specs.Adoption.{Adopts}
use Rattle.reg_tables.proofs.QueryLemmas.{gives_up_quiet, refused_as}
use Rattle.reg_tables.proofs.ExamineLemmas.{refused_sent}
use Rattle.reg_tables.proofs.MigrateLemmas.{recalled_first}
use Rattle.reg_tables.proofs.open.recall.recall_first.Goals as goal

pub returns-in_err-dictionary-clause-refused : goal.returns-in_err-dictionary-clause-refused
returns-in_err-dictionary-clause-refused g c clean =
    let old = state g.S.Store c.args.conn.now in
    refused_as (λ e. Adopts First old.now (Err e)) c.from_residual.result _ c.from_residual.ensures.1 (refused_sent First old.now _ (c.in_err-dictionary.ensures.examines clean))

pub returns-in_err-dictionary-clause-quiet : goal.returns-in_err-dictionary-clause-quiet
returns-in_err-dictionary-clause-quiet g c = gives_up_quiet _ _ c.from_residual.result _ c.from_residual.ensures.1 c.in_err-dictionary.ensures.quiet

pub returns-clause-found : goal.returns-clause-found
returns-clause-found g c clean =
    let found = c.examine.new.found in
    let marks = c.in-Ok.marks.items in
    let its_marks : c.deref.result.now ≡ marks = search rules in
    let read = c.in_ok-dictionary.ensures in
    recalled_first (state g.S.Store c.args.conn.now).now c.in_ok-dictionary.dictionary c.in_ok-dictionary.count found.known.items marks found.digests c.of.result
    (read.examines clean) (read.known clean) (read.digests clean) read.below read.long
    (c.in-Ok.ensures.items_if_clones_equal (λ y same. same)) c.of.ensures.long
    (λ list are marks_are digested below. c.of.ensures.agrees c.in_ok-dictionary.dictionary list are (its_marks ∙ marks_are) digested below)
