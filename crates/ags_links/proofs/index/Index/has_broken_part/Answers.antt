use Rattle.std.proofs.Common.{refl, sym, subst}
use Rattle.std.proofs.lemmas.Bool.{true≢false}
use Rattle.ags_links.proofs.Linking.{ArePartsOf, part_names, part_broken, parts_named}
use Rattle.ags_links.proofs.index.Index.has_broken_part.Goals as goal

pub loop-part-preserved : goal.loop-part-preserved
loop-part-preserved c =
    part_names c.args.self.now c.deref-part-items.result.now c.loop-part.part-index c.in_ok-rows.rows.now _ c.loop-part-test.true c.loop-part.invariant c.in_ok-rows.ensures c.is_empty.result c.is_empty.ensures c.if-is_empty.false

-- the part names no row
pub returns-then-is_empty : goal.returns-then-is_empty
returns-then-is_empty c = λ r row.
    let are = subst (ArePartsOf c.args.self.now r c.args.heading.now) (sym c.deref-part-items.ensures.value) (c.in_ok-parts.ensures r row) in (
      λ _. part_broken c.args.self.now r c.args.heading.now c.deref-part-items.result.now c.loop-part.part-index c.in_ok-rows.rows.now _ are c.loop-part-test.true c.in_ok-rows.ensures c.is_empty.result c.is_empty.ensures c.if-is_empty.true,
      λ _. refl,
    )

-- each part names a row
pub returns : goal.returns
returns c = λ r row.
    let are = subst (ArePartsOf c.args.self.now r c.args.heading.now) (sym c.deref-part-items.ensures.value) (c.in_ok-parts.ensures r row) in (
      λ e. absurd (true≢false (sym e)),
      λ broken. let named = parts_named c.args.self.now r c.args.heading.now c.deref-part-items.result.now c.loop-part.part-index are c.loop-part-test.false c.loop-part.invariant broken.0 broken.1 in absurd (broken.2 named.0 named.1),
    )
