use Rattle.std.proofs.Common.{rules, arith, ◌≡◌, ◌<◌, ◌+◌, [], ◌∷◌, pos, length, get_or, ap, sym, ◌∙◌}
use Rattle.sqlite.specs.declared.types.Value.TheVariants.{Int}
use Rattle.reg_tables.proofs.RowsLemmas.{same_at, same_list, numbers_long, number_at}
use Rattle.reg_tables.specs.Private.NumberRows.{number_rows}
use Rattle.reg_tables.proofs.open.examine.count_numbers.Goals as goal

pub returns-then-rows-clause-none : goal.returns-then-rows-clause-none
returns-then-rows-clause-none c _ count low are =
    let long : length c.args.rows.now ≡ count = ap length are ∙ numbers_long 1 count in
    absurd (omega (arith, long, low))

pub returns-then-not-is_row-clause-none : goal.returns-then-not-is_row-clause-none
returns-then-not-is_row-clause-none c _ count low are =
    let rows = c.args.rows.now in
    let at = c.loop-at.at in
    let long : length rows ≡ count = ap length are ∙ numbers_long 1 count in
    let under : at < length rows = search rules in
    let here : get_or rows at [] ≡ Int (pos (1 + at)) ∷ [] = ap (λ all. get_or all at []) are ∙ number_at 1 count at (omega (arith, long, under)) in
    let row : c.index-rows-at.result ≡ Int (pos (1 + at)) ∷ [] = same_at rows at [] _ _ under (search rules) here in
    search (rules, row)

pub returns-clause-found : goal.returns-clause-found
returns-clause-found c =
    let rows = c.args.rows.now in
    let end : c.loop-at.at ≡ length rows = search rules in
    same_list [] rows (number_rows 1 (length rows)) (sym (numbers_long 1 (length rows))) (λ k low. c.loop-at.invariant k (omega (arith, low, end)) ∙ sym (number_at 1 (length rows) k low))
