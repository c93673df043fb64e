use Rattle.std.proofs.Common.{◌∙◌, ℕ, List, [], get_or, arith}
use Rattle.std.specs.Borrow.{Bor}
use Rattle.ags_rows.specs.declared.code.Code.TheVariants.{Rule19b}
use Rattle.ags_rows.specs.Collecting.{Adds}
use Rattle.ags_rows.proofs.Lemmas.{adds_found, adds_unmet}
use Rattle.ags_check.specs.HeaderSteps.{IsMisnamedBy}
use Rattle.ags_check.proofs.Naming.{NotesName, names_more, names_all}
use Rattle.ags_check.proofs.header.headings.note_misnamed.Goals as goal
use Rattle.ags_check.proofs.header.headings.note_misnamed.Goals.{then-is_misnamed+in_ok-note, else-is_misnamed}

pub loop-heading-preserved : goal.loop-heading-preserved
loop-heading-preserved c =
    let d : Bor (List ℕ) = record { ref_ptr = (0, 0); now = [] } in
    let Breaks : ℕ → List ℕ → Type 0 = λ _ name. IsMisnamedBy c.args.given.now c.args.extended.now c.args.group.now name in
    let i = c.loop-heading.heading-index in
    let means = c.is_misnamed.ensures in
    let here : Adds (NotesName c.args.line Rule19b Breaks i (get_or c.args.headings.now i d).now) c.loop-heading.findings c.if-is_misnamed.findings = elim c.if-is_misnamed.branch [
      | then-is_misnamed+in_ok-note w ↦ adds_found (means.0 w.if-is_misnamed.true) (w.findings-is ∙ w.in_ok-note.ensures.noted)
      | else-is_misnamed w ↦ adds_unmet w.if-is_misnamed.false means.1 w.findings-is
    ] in
    names_more c.args.headings.now c.args.line Rule19b Breaks i d _ _ _ c.loop-heading-test.true c.loop-heading.invariant here

pub returns : goal.returns
returns c =
    names_all c.args.headings.now c.args.line Rule19b (λ _ name. IsMisnamedBy c.args.given.now c.args.extended.now c.args.group.now name) c.loop-heading.heading-index
    c.args.findings.now c.loop-heading.findings (omega (arith, c.loop-heading-test.false)) c.loop-heading.invariant
