use Rattle.std.proofs.Common.{◌∙◌, ap, sym, map, List, ℕ}
use Rattle.ags_links.proofs.ByText.{rows_alone}
use Rattle.ags_links.proofs.lookup.all_rows.Goals as goal

pub returns : goal.returns
returns c =
    c.deref.ensures.value ∙ c.lookup.invariant.alone ∙ sym (rows_alone c.lookup.inside.pairs.items) ∙ ap (map (λ (x : List ℕ × ℕ). x.1)) c.lookup.view_is
