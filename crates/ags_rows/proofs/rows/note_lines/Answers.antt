use Rattle.std.proofs.Common.{◌≡◌, [], map, ◌+◌, arith, get_or, sym, ◌∙◌}
use Rattle.std.proofs.lemmas.List.{length-map}
use Rattle.ags_rows.specs.declared.code.Code.TheVariants.{Rule1, Rule2a}
use Rattle.ags_rows.specs.declared.rows.Ending.TheVariants.{Lf}
use Rattle.std.specs.Prelude.{◌≤◌, Any}
use Rattle.ags_text.specs.Bytes.{ascii_end}
use Rattle.ags_rows.specs.Lines.{text_line}
use Rattle.ags_rows.specs.Collecting.{Adds, Notes, OneOf}
use Rattle.ags_rows.specs.Parsing.{byte_rules}
use Rattle.ags_rows.proofs.Collecting.{adds_found, adds_unmet, two_rules, among_more, among_all}
use Rattle.ags_rows.proofs.Breaking.{at_line, high_any, any_high, lf_same, same_lf}
use Rattle.ags_rows.proofs.rows.note_lines.Goals as goal
use Rattle.ags_rows.proofs.rows.note_lines.Goals.{then-has_high+in_ok-note, else-has_high, then-eq+in_ok-note-2, else-eq}

pub loop-i-preserved : goal.loop-i-preserved
loop-i-preserved c =
    let lines = c.args.lines.now in
    let i = c.loop-i.i in
    let line = text_line (get_or lines i _) in
    let mid = c.if-has_high.findings in
    let high : Adds (Notes (i + 1) Rule1 [] (Any (λ b. ascii_end ≤ b) line.content)) c.loop-i.findings mid = elim c.if-has_high.branch [
      | then-has_high+in_ok-note w ↦ adds_found (high_any line.content (sym c.has_high.ensures ∙ w.if-has_high.true)) (w.findings-is ∙ w.in_ok-note.ensures.noted)
      | else-has_high w ↦ adds_unmet w.if-has_high.false (λ h. c.has_high.ensures ∙ any_high line.content h) w.findings-is
    ] in
    let ending : Adds (Notes (i + 1) Rule2a [] (line.ending ≡ Lf)) mid c.if-eq.findings = elim c.if-eq.branch [
      | then-eq+in_ok-note-2 w ↦ adds_found (lf_same line.ending (sym c.eq.ensures ∙ w.if-eq.true)) (w.findings-is ∙ w.in_ok-note-2.ensures.noted)
      | else-eq w ↦ adds_unmet w.if-eq.false (λ e. c.eq.ensures ∙ same_lf line.ending e) w.findings-is
    ] in
    among_more (map text_line lines) (λ place line. OneOf (byte_rules (place + 1) line)) i line _ _ _
    (at_line lines i _ c.loop-i-test.true) c.loop-i.invariant (two_rules _ _ _ high ending)

pub returns : goal.returns
returns c =
    among_all (map text_line c.args.lines.now) (λ place line. OneOf (byte_rules (place + 1) line)) c.loop-i.i c.args.findings.now c.loop-i.findings (omega (arith, length-map c.args.lines.now text_line)) c.loop-i.invariant
