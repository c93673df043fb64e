use Rattle.std.proofs.Common.{◌≡◌, ◌<◌, ◌∙◌, sym, ap, length, arith}
use Rattle.std.proofs.lemmas.Bool.{not-false}
use Rattle.std.proofs.lemmas.Slice.Eq.{bytes_eq-Decides}
use Rattle.ags_rows.specs.Collecting.{At, Adds, Notes}
use Rattle.ags_rows.proofs.Lemmas.{among_more, among_all, adds_found, adds_clear}
use Rattle.ags_check.proofs.header.only_rows.note_further_rows.Goals as goal
use Rattle.ags_check.proofs.header.only_rows.note_further_rows.Goals.{then-i-gt0+in_ok-note, else-i-gt0}

pub loop-i-preserved : goal.loop-i-preserved
loop-i-preserved c =
    let group = c.args.group.now in
    let name = c.args.name.now in
    let i = c.loop-i.i in
    let row = c.index-rows-i.result in
    let at : At group.rows i row = rw (← c.as_slice-rows.ensures) (c.loop-i-test.true, sym c.index-rows-i.is) in
    let same : group.name ≡ name = sym c.as_slice.ensures ∙ (bytes_eq-Decides c.as_slice.result.now name).0 (not-false _ (sym c.if-ne.ensures)) in
    let here : Adds (Notes row.line c.args.code name ((group.name ≡ name) × (0 < i))) c.loop-i.findings c.if-i-gt0.findings = elim c.if-i-gt0.branch [
      | then-i-gt0+in_ok-note w ↦ adds_found ((same, w.if-i-gt0.true)) (w.findings-is ∙ w.in_ok-note.ensures.noted)
      | else-i-gt0 w ↦ adds_clear (λ rule. omega (arith, rule.1, w.if-i-gt0.false)) w.findings-is
    ] in
    among_more group.rows (λ place row f. Notes row.line c.args.code name ((group.name ≡ name) × (0 < place)) f) i row _ _ _ at c.loop-i.invariant here

pub returns : goal.returns
returns c =
    let group = c.args.group.now in
    let name = c.args.name.now in
    among_all group.rows (λ place row f. Notes row.line c.args.code name ((group.name ≡ name) × (0 < place)) f) _ _ _
    (omega (arith, c.loop-i-test.false, ap length c.as_slice-rows.ensures)) c.loop-i.invariant
