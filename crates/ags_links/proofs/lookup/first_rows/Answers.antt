use Rattle.std.proofs.Common.{◌≡◌, ◌<◌, not, get_or, length, Contains, arith, ap, sym, subst, ◌∙◌, inl, inr}
use Rattle.std.specs.Str.{bytes_eq}
use Rattle.std.proofs.lemmas.List.{get_or_default, take_all}
use Rattle.ags_links.specs.Lookups.{found, pairs_of, AreInOrder}
use Rattle.ags_links.proofs.ByText.{Pair, key}
use Rattle.std.proofs.lemmas.Bool.{not-false, not-true}
use Rattle.ags_links.proofs.FirstRows.{led_step, row_found}
use Rattle.ags_links.proofs.lookup.first_rows.Goals as goal
use Rattle.ags_links.proofs.lookup.first_rows.Goals.{then-ne, else-ne}

pub index_mut-requires : goal.index_mut-requires
index_mut-requires c =
    let pairs = c.as_slice-pairs.result.now in
    let x = c.index-pairs-place.result in
    let is : pairs_of pairs ≡ c.args.lookup.now = ap pairs_of c.as_slice-pairs.ensures.value ∙ c.lookup.view_is in
    let here : get_or pairs c.loop-place.place x ≡ x = sym c.index-pairs-place.is in
    let row : Contains (found (pairs_of pairs) (key x)) x.1 = subst (λ (z : Pair). Contains (found (pairs_of pairs) (key z)) z.1) here (row_found pairs c.loop-place.place x c.loop-place-test.true) in
    let few : x.1 < c.args.count = c.requires.few (key x) x.1 (subst (λ l. Contains (found l (key x)) x.1) is row) in
    omega (arith, few, c.loop-place.invariant.size, c.loop-place.firsts.ok.0)

pub loop-place-preserved : goal.loop-place-preserved
loop-place-preserved c =
    let pairs = c.as_slice-pairs.result.now in
    let k = c.loop-place.place in
    let x = c.index-pairs-place.result in
    let y = c.index-pairs-first-in-loop-place.result in
    let f = c.index-pairs-first.result in
    let is : pairs_of pairs ≡ c.args.lookup.now = ap pairs_of c.as_slice-pairs.ensures.value ∙ c.lookup.view_is in
    let here : get_or pairs k x ≡ x = sym c.index-pairs-place.is in
    let sorted : AreInOrder pairs = subst AreInOrder (sym c.as_slice-pairs.ensures.value) c.lookup.invariant.sorted in
    let lt : k < length pairs = c.loop-place-test.true in
    let row : Contains (found (pairs_of pairs) (key x)) x.1 = subst (λ (z : Pair). Contains (found (pairs_of pairs) (key z)) z.1) here (row_found pairs k x lt) in
    let few : x.1 < c.args.count = c.requires.few (key x) x.1 (subst (λ l. Contains (found l (key x)) x.1) is row) in
    let tested : c.ne.result ≡ not (bytes_eq (key (get_or pairs c.loop-place.first x)) (key x)) =
    c.ne.ensures ∙ ap (λ (z : Pair). not (bytes_eq (key z) (key x))) (get_or_default pairs c.loop-place.first f x (omega (arith, lt, c.loop-place.invariant.not_after))) in
    elim c.if-ne.branch [
      | then-ne w ↦ led_step pairs sorted c.args.lookup.now is c.requires.once c.args.count k c.loop-place.first c.loop-place.firsts.items x lt c.loop-place.invariant x (get_or pairs c.if-ne.first y) c.if-ne.first here
          (get_or_default pairs c.if-ne.first x y (omega (arith, w.first-is, lt))) few (inl (w.first-is, not-true (bytes_eq (key (get_or pairs c.loop-place.first x)) (key x)) (sym tested ∙ w.if-ne.true)))
      | else-ne w ↦ led_step pairs sorted c.args.lookup.now is c.requires.once c.args.count k c.loop-place.first c.loop-place.firsts.items x lt c.loop-place.invariant x (get_or pairs c.if-ne.first y) c.if-ne.first here
          (get_or_default pairs c.if-ne.first x y (omega (arith, w.first-is, lt, c.loop-place.invariant.not_after))) few (inr (w.first-is, not-false (bytes_eq (key (get_or pairs c.loop-place.first x)) (key x)) (sym tested ∙ w.if-ne.false)))
    ]

pub returns-clause-firsts : goal.returns-clause-firsts
returns-clause-firsts c = λ text n h.
    let pairs = c.as_slice-pairs.result.now in
    let is : pairs_of pairs ≡ c.args.lookup.now = ap pairs_of c.as_slice-pairs.ensures.value ∙ c.lookup.view_is in
    c.loop-place.invariant.done text n (subst (λ ps. Contains (found (pairs_of ps) text) n) (sym (take_all c.loop-place.place pairs c.loop-place-test.false)) (subst (λ l. Contains (found l text) n) (sym is) h))
