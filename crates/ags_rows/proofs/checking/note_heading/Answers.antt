use Rattle.std.proofs.Common.{◌≡◌, ◌∙◌, false, not, sym, ap}
use Rattle.std.proofs.lemmas.Result.{IfOk-weaker}
use Rattle.ags_rows.specs.declared.code.Code.TheVariants.{Rule19a}
use Rattle.ags_text.specs.Names.{is_heading_name}
use Rattle.ags_rows.specs.Collecting.{Adds, Notes}
use Rattle.ags_rows.proofs.Collecting.{adds_found, adds_unmet, two_rules}
use Rattle.ags_rows.proofs.checking.note_heading.Goals as goal
use Rattle.ags_rows.proofs.checking.note_heading.Goals.{then-not-is_heading_name+in_ok-note, else-not-is_heading_name}

pub returns-clause-noted : goal.returns-clause-noted
returns-clause-noted c =
    let name = c.args.heading.now in
    let first : Adds (Notes c.args.line Rule19a name (is_heading_name name ≡ false)) c.args.findings.now c.if-not-is_heading_name.findings = elim c.if-not-is_heading_name.branch [
      | then-not-is_heading_name+in_ok-note w ↦ adds_found (sym c.is_heading_name.ensures ∙ w.if-not-is_heading_name.true) (w.findings-is ∙ w.in_ok-note.ensures.noted)
      | else-not-is_heading_name w ↦ adds_unmet (ap not (sym c.is_heading_name.ensures ∙ w.if-not-is_heading_name.false)) (λ is. ap not is) w.findings-is
    ] in
    IfOk-weaker c.note_repeat.result _ _ (λ _ again. two_rules _ _ _ first again) c.note_repeat.ensures.noted
