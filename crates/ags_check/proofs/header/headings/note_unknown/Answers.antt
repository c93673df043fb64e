use Rattle.std.proofs.Common.{◌≡◌, ◌∙◌, ℕ, List, [], None, get_or, sym, ap, is_some}
use Rattle.std.specs.Borrow.{Bor}
use Rattle.ags_rows.specs.Collecting.{Adds}
use Rattle.ags_rows.specs.Contents.{place_in}
use Rattle.ags_rows.proofs.Lemmas.{adds_found, adds_unmet}
use Rattle.ags_dict.specs.Entries.{order_of}
use Rattle.ags_check.proofs.Naming.{NotesName, names_more, names_all, is_none_true, is_none_from}
use Rattle.ags_check.proofs.header.headings.note_unknown.Goals as goal
use Rattle.ags_check.proofs.header.headings.note_unknown.Goals.{then-is_none+in_ok-note, else-is_none}

pub loop-heading-preserved : goal.loop-heading-preserved
loop-heading-preserved c =
    let d : Bor (List ℕ) = record { ref_ptr = (0, 0); now = [] } in
    let Breaks : ℕ → List ℕ → Type 0 = λ _ name. place_in (order_of c.args.dictionary.now c.args.group.now) name ≡ None in
    let i = c.loop-heading.heading-index in
    let test = ap is_some (sym c.place_in_order.ensures) ∙ c.is_none.ensures in
    let here : Adds (NotesName c.args.line c.args.code Breaks i (get_or c.args.headings.now i d).now) c.loop-heading.findings c.if-is_none.findings = elim c.if-is_none.branch [
      | then-is_none+in_ok-note w ↦ adds_found (is_none_true _ _ test w.if-is_none.true) (w.findings-is ∙ w.in_ok-note.ensures.noted)
      | else-is_none w ↦ adds_unmet w.if-is_none.false (is_none_from _ _ test) w.findings-is
    ] in
    names_more c.args.headings.now c.args.line c.args.code Breaks i d _ _ _ c.loop-heading-test.true c.loop-heading.invariant here

pub returns : goal.returns
returns c =
    names_all c.args.headings.now c.args.line c.args.code (λ _ name. place_in (order_of c.args.dictionary.now c.args.group.now) name ≡ None)
    _ _ _ c.loop-heading-test.false c.loop-heading.invariant
