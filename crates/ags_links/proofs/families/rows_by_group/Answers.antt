use Rattle.std.proofs.Common.{ap, map, sym, ◌∙◌}
use Rattle.ags_links.specs.Families.{HasText, HasGroupName}
use Rattle.ags_links.specs.Placing.{row_of}
use Rattle.ags_links.specs.Lookups.{found, pairs_of}
use Rattle.ags_links.proofs.ByText.{pushed}
use Rattle.ags_links.proofs.Finding.{finds_row, finds_rows, finds_ok}
use Rattle.ags_links.proofs.families.rows_by_group.Goals as goal

pub loop-number-preserved : goal.loop-number-preserved
loop-number-preserved c =
    let name = c.in_ok-name.ensures.items ∙ c.as_slice.ensures in
    finds_row (pairs_of c.loop-number.pairs.items) (pairs_of c.push.new.self.items) HasGroupName c.args.filed.now.rows.now c.loop-number.number c.index-rows-number.result c.in_ok-name.name.items (c.loop-number-test.true, sym c.index-rows-number.is)
    c.loop-number.invariant (λ q. ap (λ ps. found (pairs_of ps) q) c.in_ok-push.ensures.items ∙ pushed c.loop-number.pairs.items c.in_ok-name.name c.loop-number.number q) (sym name) (λ q h. name ∙ h)

pub returns : goal.returns
returns c = finds_ok c.rows_by_text.result (pairs_of c.loop-number.pairs.items) (HasText (map row_of c.args.filed.now.rows.now) HasGroupName) c.rows_by_text.ensures
    (finds_rows (pairs_of c.loop-number.pairs.items) HasGroupName c.args.filed.now.rows.now c.loop-number.number c.loop-number-test.false c.loop-number.invariant)
