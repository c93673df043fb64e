use Rattle.std.proofs.Common.{◌≡◌, ◌∙◌, ◌+◌, ℕ, List, Option, [], get_or, sym, ap, subst}
use Rattle.std.specs.Borrow.{Bor}
use Rattle.ags_rows.specs.declared.code.Code.TheVariants.{Rule7}
use Rattle.ags_rows.specs.Contents.{place_in}
use Rattle.ags_dict.specs.Entries.{order_of}
use Rattle.ags_check.specs.HeaderSteps.{IsOvertaken, is_before_latest, later}
use Rattle.ags_rows.specs.Collecting.{Adds}
use Rattle.ags_rows.proofs.Lemmas.{among_none, adds_found, adds_unmet}
use Rattle.ags_check.proofs.Naming.{texts, NotesName, name_at, names_more, names_all}
use Rattle.ags_check.proofs.Ranks.{IsLatest, latest_none, latest_more, before_overtaken, overtaken_before}
use Rattle.ags_check.proofs.header.headings.note_misplaced.Goals as goal
use Rattle.ags_check.proofs.header.headings.note_misplaced.Goals.{then-is_before_latest+in_ok-note, else-is_before_latest}

pub loop-heading-init : goal.loop-heading-init
loop-heading-init c =
    let names = texts c.args.headings.now in
    let order = order_of c.args.dictionary.now c.args.group.now in
    let rank = place_in order in
    record {
      noted = among_none names (NotesName c.args.line Rule7 (IsOvertaken order names)) c.args.findings.now;
      latest = latest_none rank names;
    }

pub loop-heading-preserved : goal.loop-heading-preserved
loop-heading-preserved c =
    let d : Bor (List ℕ) = record { ref_ptr = (0, 0); now = [] } in
    let names = texts c.args.headings.now in
    let order = order_of c.args.dictionary.now c.args.group.now in
    let rank = place_in order in
    let i = c.loop-heading.heading-index in
    let name = (get_or c.args.headings.now i d).now in
    let latest = c.loop-heading.latest in
    let so_far = c.loop-heading.invariant.latest in
    let test : c.is_before_latest.result ≡ is_before_latest (rank name) latest = c.is_before_latest.ensures ∙ ap (λ (p : Option ℕ). is_before_latest p latest) c.place_in_order-place.ensures in
    let here : Adds (NotesName c.args.line Rule7 (IsOvertaken order names) i name) c.loop-heading.findings c.if-is_before_latest.findings = elim c.if-is_before_latest.branch [
      | then-is_before_latest+in_ok-note w ↦ adds_found (before_overtaken order names i name latest so_far (sym test ∙ w.if-is_before_latest.true)) (w.findings-is ∙ w.in_ok-note.ensures.noted)
      | else-is_before_latest w ↦ adds_unmet w.if-is_before_latest.false (λ o. test ∙ overtaken_before order names i name latest so_far o) w.findings-is
    ] in
    let next : later latest (rank name) ≡ c.later-latest.result = sym (c.later-latest.ensures ∙ ap (later latest) c.place_in_order-place.ensures) in
    record {
      noted = names_more c.args.headings.now c.args.line Rule7 (IsOvertaken order names) i d _ _ _ c.loop-heading-test.true c.loop-heading.invariant.noted here;
      latest = subst (IsLatest rank names (i + 1)) next (latest_more rank names i name latest (name_at c.args.headings.now i d c.loop-heading-test.true) so_far);
    }

pub returns : goal.returns
returns c =
    names_all c.args.headings.now c.args.line Rule7 (IsOvertaken (order_of c.args.dictionary.now c.args.group.now) (texts c.args.headings.now))
    _ _ _ c.loop-heading-test.false c.loop-heading.invariant.noted
