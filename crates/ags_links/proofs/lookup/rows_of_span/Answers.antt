use Rattle.std.proofs.Common.{◌∙◌, ◌-◌, take, drop, sym, ap}
use Rattle.std.proofs.lemmas.List.{take-map, drop-map}
use Rattle.ags_links.specs.Lookups.{rows_between}
use Rattle.ags_links.proofs.ByText.{Pair, rows_are}
use Rattle.ags_links.proofs.lookup.rows_of_span.Goals as goal

pub returns : goal.returns
returns c =
    let span = c.args.span in
    let pairs = c.lookup.inside.pairs.items in
    let count = span.end - span.first in
    ap (λ rows. take count (drop span.first rows)) (c.deref.ensures.value ∙ c.lookup.invariant.alone)
    ∙ ap (take count) (drop-map (λ (p : Pair). p.1) span.first pairs)
    ∙ take-map (λ (p : Pair). p.1) count (drop span.first pairs)
    ∙ sym (rows_are pairs span.first span.end)
    ∙ ap (λ l. rows_between l span.first span.end) c.lookup.view_is
