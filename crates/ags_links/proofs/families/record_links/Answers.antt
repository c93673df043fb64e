use Rattle.std.proofs.Common.{◌≡◌, ℕ, List, [], Bool, Bor, get_or, ap, sym, ◌∙◌, codes}
use Rattle.std.specs.Str.{bytes_eq}
use Rattle.ags_rows.specs.Contents.{place_in, under, field_at}
use Rattle.ags_links.proofs.Heading.{place_taken, place_passed}
use Rattle.ags_links.proofs.families.record_links.Goals as goal
use Rattle.ags_links.proofs.families.record_links.Goals.{then-eq+in_ok-push, else-eq}

pub loop-heading-preserved : goal.loop-heading-preserved
loop-heading-preserved c =
    let names = c.names-heading-items.result.now in
    let headings = c.args.headings.now in
    let types = c.args.group.now.types in
    let i = c.loop-heading.heading-index in
    let d : Bor (List ℕ) = record { ref_ptr = (0, 0); now = [] } in
    let is_link : List ℕ → Bool = λ h. bytes_eq (under headings types h) (codes "RL") in
    let tested : is_link (get_or names i d).now ≡ c.eq.result = sym (c.eq.ensures ∙ ap (bytes_eq c.cell_at.result.now) c.as_slice-in-loop-heading.ensures ∙ ap (λ x. bytes_eq x (codes "RL")) (c.cell_at.ensures ∙ ap (λ cs. field_at cs c.find-place.result) c.as_slice.ensures ∙ ap (λ p. field_at types p) c.find-place.ensures)) in
    elim c.if-eq.branch [
      | then-eq+in_ok-push w ↦ rw w.places-is (place_taken (place_in headings) is_link c.loop-heading.places.items w.push.new.self.items names i d c.find-place.result c.loop-heading-test.true c.loop-heading.invariant (tested ∙ w.if-eq.true) c.find-place.ensures w.in_ok-push.ensures.items)
      | else-eq w ↦ rw w.places-is (place_passed (place_in headings) is_link c.loop-heading.places.items names i d c.loop-heading-test.true c.loop-heading.invariant (tested ∙ w.if-eq.false))
    ]
