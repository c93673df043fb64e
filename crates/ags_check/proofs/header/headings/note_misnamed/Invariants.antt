use Rattle.ags_rows.specs.Collecting.{Adds, AmongBefore}
use Rattle.ags_rows.specs.declared.code.Code.TheVariants.{Rule19b}
use Rattle.ags_check.specs.HeaderSteps.{IsMisnamedBy}
use Rattle.ags_check.proofs.Naming.{texts, NotesName}
use Rattle.ags_check.proofs.header.headings.note_misnamed.Given as goal

abbrev pub invariant-loop-heading : goal.invariant-loop-heading
invariant-loop-heading l =
    Adds (AmongBefore (texts l.headings) (NotesName l.line Rule19b (λ _ name. IsMisnamedBy l.given l.extended l.group name)) l.heading-index) l.fn.findings l.findings
