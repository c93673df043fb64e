use Rattle.std.proofs.Common.{◌≡◌, [], ℕ, List, Bor, Contains, length, get_or, ap, sym, subst, ◌∙◌, arith, ◌↔◌}
use Rattle.std.proofs.lemmas.Bool.{true≢false}
use Rattle.std.proofs.lemmas.List.{map-append, length-map, get_or-map}
use Rattle.std.proofs.lemmas.List.Elements.{Contains-get_or}
use Rattle.ags_rows.specs.Contents.{place_in}
use Rattle.ags_links.proofs.Kept.{texts}
use Rattle.ags_links.proofs.Members.{contains_map}
use Rattle.ags_links.proofs.Parting.{first_taken, later_passed, all_taken}
use Rattle.ags_links.proofs.texts.distinct.Goals as goal
use Rattle.ags_links.proofs.texts.distinct.Goals.{then-is_first+in_ok-push, else-is_first}

pub loop-place-preserved : goal.loop-place-preserved
loop-place-preserved c =
    let names = c.names-listed.result.now in
    let all = texts names in
    let i = c.loop-place.place in
    let d : Bor (List ℕ) = record { ref_ptr = (0, 0); now = [] } in
    let text = (get_or names i d).now in
    let listed : all ≡ c.in_ok-places.places = c.names-listed.ensures in
    let there : get_or all i text ≡ text = get_or-map (λ (p : Bor (List ℕ)). p.now) names i d text c.loop-place-test.true in
    elim c.if-is_first.branch [
      | then-is_first+in_ok-push w ↦
          rw w.once-is (first_taken all (texts c.loop-place.once.items) (texts w.push.new.self.items) i text c.loop-place.invariant
          (contains_map (λ (p : Bor (List ℕ)). p.now) names (get_or names i d) (Contains-get_or names i d c.loop-place-test.true))
          (ap (λ l. place_in l text) listed ∙ c.is_first.ensures.0 w.if-is_first.true)
          (ap texts w.in_ok-push.ensures.items ∙ map-append (λ (p : Bor (List ℕ)). p.now) c.loop-place.once.items _))
      | else-is_first w ↦
          rw w.once-is (later_passed all (texts c.loop-place.once.items) i text c.loop-place.invariant there
          (λ is. true≢false (sym (c.is_first.ensures.1 (ap (λ l. place_in l text) (sym listed) ∙ is)) ∙ w.if-is_first.false)))
    ]

pub returns : goal.returns
returns c =
    let names = c.names-listed.result.now in
    let all = texts names in
    let size : length names ≡ length all = sym (length-map names (λ (p : Bor (List ℕ)). p.now)) in
    subst (λ l. (text : List ℕ) → Contains (texts c.loop-place.once.items) text ↔ Contains l text) (c.names-listed.ensures ∙ c.in_ok-places.ensures)
    (all_taken all (texts c.loop-place.once.items) c.loop-place.place (omega (arith, size, c.loop-place-test.false)) c.loop-place.invariant)
