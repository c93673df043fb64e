use Rattle.std.proofs.Common.{[], List, ℕ, Bor, get_or, take, sym, subst}
use Rattle.std.proofs.lemmas.List.{take_all}
use Rattle.ags_links.specs.Adding.{AddsRows}
use Rattle.ags_links.specs.Indexing.{IsNamedAmong}
use Rattle.ags_links.proofs.Kept.{texts, texts_next}
use Rattle.ags_links.proofs.Linking.{ArePartsOf, among_next, link_lists, part_names, part_broken, parts_named}
use Rattle.ags_links.proofs.index.Index.link_targets.Goals as goal

no_text : Bor (List ℕ)
no_text = record { ref_ptr = (0, 0); now = [] }

pub loop-part-preserved : goal.loop-part-preserved
unfolding no_text
loop-part-preserved c =
    let file = c.args.self.now in
    let items = c.deref-part-items.result.now in
    let i = c.loop-part.part-index in
    let found = c.extend_from_slice.new.self.items in
    record {
      named = subst (λ ps. AddsRows [] found (IsNamedAmong file ps)) (sym (texts_next items i no_text c.loop-part-test.true))
          (among_next file [] c.loop-part.found.items found c.in_ok-rows.rows.now (texts (take i items)) (get_or items i no_text).now c.loop-part.invariant.named c.in_ok-rows.ensures c.in_ok-extend_from_slice.ensures.items);
      each = part_names file items i c.in_ok-rows.rows.now _ c.loop-part-test.true c.loop-part.invariant.each c.in_ok-rows.ensures c.is_empty.result c.is_empty.ensures c.if-is_empty.false;
    }

pub returns-then-is_empty : goal.returns-then-is_empty
returns-then-is_empty c = λ r row.
    let are = subst (ArePartsOf c.args.self.now r c.args.heading.now) (sym c.deref-part-items.ensures.value) (c.in_ok-parts.ensures r row) in
    part_broken c.args.self.now r c.args.heading.now c.deref-part-items.result.now c.loop-part.part-index c.in_ok-rows.rows.now _ are c.loop-part-test.true c.in_ok-rows.ensures c.is_empty.result c.is_empty.ensures c.if-is_empty.true

pub returns : goal.returns
returns c = λ r row.
    let file = c.args.self.now in
    let items = c.deref-part-items.result.now in
    let found = c.loop-part.found.items in
    let are = subst (ArePartsOf file r c.args.heading.now) (sym c.deref-part-items.ensures.value) (c.in_ok-parts.ensures r row) in
    let named = subst (λ ps. AddsRows [] found (IsNamedAmong file (texts ps))) (take_all c.loop-part.part-index items c.loop-part-test.false) c.loop-part.invariant.named in (
      link_lists file r c.args.heading.now (texts items) found c.each_once.result.items are named c.each_once.ensures.same c.each_once.ensures.rising,
      parts_named file r c.args.heading.now items c.loop-part.part-index are c.loop-part-test.false c.loop-part.invariant.each,
    )
