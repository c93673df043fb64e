use Rattle.std.proofs.Common.{◌≡◌, ◌++◌, [], ℕ, List, Bool, false, None, eqb, length, take, get_or, ap, sym, subst, ◌∙◌}
use Rattle.std.proofs.lemmas.Bool.{true≢false}
use Rattle.std.proofs.lemmas.List.{take_more, take_all}
use Rattle.ags_rows.specs.Parts.{parts_at}
use Rattle.ags_rows.specs.Contents.{field_at}
use Rattle.ags_links.specs.Placing.{row_of}
use Rattle.ags_links.proofs.Kept.{texts}
use Rattle.ags_links.proofs.Members.{no_items}
use Rattle.ags_links.proofs.Parting.{ArePartsAt, next_place, null_place}
use Rattle.ags_links.proofs.texts.link_parts.Goals as goal
use Rattle.ags_links.proofs.texts.link_parts.Goals.{then-not-is_empty+in_ok-push_parts, else-not-is_empty}

not_null : (text : List ℕ) (t : Bool) → t ≡ eqb (length text) 0 → t ≡ false → text ≡ [] → ⊥
not_null text t e is null = true≢false (sym (e ∙ ap (λ l. eqb (length l) 0) null) ∙ is)

pub loop-place-preserved : goal.loop-place-preserved
loop-place-preserved c =
    let places = c.args.places.now in
    let i = c.loop-place.place-index in
    let row = row_of c.args.row.now in
    let place = get_or places i None in
    let next = sym (take_more places i None c.loop-place-test.true) in
    let old = texts c.loop-place.parts.items in
    let text = c.field-text.result.now in
    let is : text ≡ field_at row.fields place = c.field-text.ensures in
    elim c.if-not-is_empty.branch [
      | then-not-is_empty+in_ok-push_parts w ↦
          rw w.parts-is (subst (λ ps. ArePartsAt c.args.separator row ps (texts w.push_parts.new.out.items)) next
          (next_place c.args.separator row (take i places) old (texts w.push_parts.new.out.items) place c.loop-place.invariant
          (λ null. not_null text c.is_empty.result c.is_empty.ensures w.if-not-is_empty.true (is ∙ null))
          (w.in_ok-push_parts.ensures ∙ ap (λ t. old ++ parts_at c.args.separator t) is)))
      | else-not-is_empty w ↦
          rw w.parts-is (subst (λ ps. ArePartsAt c.args.separator row ps old) next
          (null_place c.args.separator row (take i places) old place c.loop-place.invariant (sym is ∙ no_items text c.is_empty.result c.is_empty.ensures w.if-not-is_empty.false)))
    ]

pub returns : goal.returns
returns c = subst (λ ps. ArePartsAt c.args.separator (row_of c.args.row.now) ps (texts c.loop-place.parts.items)) (take_all c.loop-place.place-index c.args.places.now c.loop-place-test.false) c.loop-place.invariant
