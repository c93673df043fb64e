use Rattle.std.proofs.Common.{ap, sym, ◌∙◌, get_or, List, ℕ, []}
use Rattle.std.specs.Borrow.{Bor}
use Rattle.ags_rows.specs.Places.{first_of, place_if}
use Rattle.ags_rows.proofs.FirstPlaces.{place_more}
use Rattle.ags_rows.proofs.places.first_places.Goals as goal

pub loop-place-preserved : goal.loop-place-preserved
loop-place-preserved c = λ name.
    let d : Bor (List ℕ) = record { ref_ptr = (0, 0); now = [] } in
    c.in_ok-add_name.ensures name ∙ ap (λ p. first_of p (place_if (get_or c.args.names.now c.loop-place.place d).now name c.loop-place.place)) (c.loop-place.invariant name)
    ∙ sym (place_more c.args.names.now c.loop-place.place d name c.loop-place-test.true)
