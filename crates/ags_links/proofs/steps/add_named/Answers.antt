use Rattle.std.proofs.Common.{[], List, ℕ, Bor, get_or, take, sym, subst}
use Rattle.ags_links.specs.Adding.{AddsRows}
use Rattle.ags_links.specs.Indexing.{IsNamedAmong}
use Rattle.ags_links.proofs.Kept.{texts, texts_next}
use Rattle.ags_links.proofs.Linking.{among_next}
use Rattle.ags_links.proofs.steps.add_named.Goals as goal

no_text : Bor (List ℕ)
no_text = record { ref_ptr = (0, 0); now = [] }

pub loop-part-preserved : goal.loop-part-preserved
unfolding no_text
loop-part-preserved c =
    let file = c.args.index.now in
    let items = c.args.parts.now in
    let i = c.loop-part.part-index in
    let old = c.args.found.now.items in
    subst (λ ps. AddsRows old c.extend_from_slice.new.self.items (IsNamedAmong file ps)) (sym (texts_next items i no_text c.loop-part-test.true))
    (among_next file old c.loop-part.found.items c.extend_from_slice.new.self.items c.in_ok-rows.rows.now (texts (take i items)) (get_or items i no_text).now c.loop-part.invariant c.in_ok-rows.ensures c.in_ok-extend_from_slice.ensures.items)
