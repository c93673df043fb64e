use Rattle.std.proofs.Common.{ℕ, ◌<◌, ◌∙◌, get_or, refl, sym, subst}
use Rattle.ags_links.specs.Lookups.{IsSpanOf}
use Rattle.ags_links.proofs.Listing.{spans_next}
use Rattle.ags_links.proofs.listed_parents.note_spans.Goals as goal

pub loop-number-preserved : goal.loop-number-preserved
loop-number-preserved c =
    let i = c.loop-number.number-index in
    let n = get_or c.args.users.now i 0 in
    let span = c.span_of-span.result in
    spans_next c.args.linked.now.filed.rows.now c.args.linked.now.of_groups.items c.args.lookup.now c.args.users.now i n c.args.spans.now c.loop-number.spans c.write_link_text.new.text.items span c.loop-number-test.true refl c.loop-number.invariant c.in_ok-write_link_text.ensures
    (subst (λ (count : ℕ). n < count) (sym (c.loop-number.invariant.size ∙ c.requires.size)) (c.requires.below i 0 c.loop-number-test.true))
    (subst (λ t. IsSpanOf c.args.lookup.now t span) c.deref.ensures.value c.span_of-span.ensures)
