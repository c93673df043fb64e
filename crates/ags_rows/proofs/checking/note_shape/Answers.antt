use Rattle.std.proofs.Common.{◌≡◌, ℕ, List, [], ◌∷◌, ◌++◌, ap, ◌∙◌}
use Rattle.std.proofs.lemmas.Result.{IfOk-weaker}
use Rattle.ags_rows.specs.declared.code.Code.TheVariants.{Rule2, Rule4}
use Rattle.ags_rows.specs.Collecting.{Adds, Notes, finding_at}
use Rattle.ags_rows.proofs.Collecting.{adds_found, adds_unmet, five_rules}
use Rattle.ags_rows.proofs.Repeats.{empties, empty}
use Rattle.ags_rows.proofs.checking.note_shape.Goals as goal
use Rattle.ags_rows.proofs.checking.note_shape.Goals.{then-is_empty+in_ok-note, else-is_empty, then-is_empty-2+in_ok-note-2, else-is_empty-2}

pub returns : goal.returns
returns c =
    let group = c.args.group.now in
    let is = c.as_slice-name.ensures in
    let old = c.args.findings.now in
    let one = c.if-is_empty.findings in
    let bare : Adds (Notes group.line Rule2 group.name (group.rows ≡ [])) old one = elim c.if-is_empty.branch [
      | then-is_empty+in_ok-note w ↦ adds_found (empties group.rows _ c.is_empty.ensures w.if-is_empty.true) (w.findings-is ∙ w.in_ok-note.ensures.noted ∙ ap (λ (name : List ℕ). old ++ finding_at group.line Rule2 name ∷ []) is)
      | else-is_empty w ↦ adds_unmet w.if-is_empty.false (λ e. empty group.rows _ c.is_empty.ensures e) w.findings-is
    ] in
    let without : Adds (Notes group.heading_line Rule4 group.name (group.headings ≡ [])) one c.if-is_empty-2.findings = elim c.if-is_empty-2.branch [
      | then-is_empty-2+in_ok-note-2 w ↦ adds_found (empties group.headings _ c.is_empty-2.ensures w.if-is_empty-2.true) (w.findings-is ∙ w.in_ok-note-2.ensures.noted ∙ ap (λ (name : List ℕ). one ++ finding_at group.heading_line Rule4 name ∷ []) is)
      | else-is_empty-2 w ↦ adds_unmet w.if-is_empty-2.false (λ e. empty group.headings _ c.is_empty-2.ensures e) w.findings-is
    ] in
    let units = rw (is, c.len.ensures, c.len-width.ensures) at c.in_ok-note_width.ensures in
    let types = rw (is, c.len-2.ensures, c.len-width.ensures) at c.in_ok-note_width-2.ensures in
    let rows = rw (is, c.as_slice.ensures, c.len-width.ensures) at c.note_widths.ensures in
    IfOk-weaker c.note_widths.result _ _ (λ _ rows. five_rules _ _ _ _ _ _ bare without units types rows) rows
