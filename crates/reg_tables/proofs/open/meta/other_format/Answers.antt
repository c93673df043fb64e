use Rattle.std.proofs.Common.{below_more, rules, ◌≡◌, pos, get_or, refl, sym, subst}
use Rattle.reg_tables.specs.Formats.{IsFormatRow}
use Rattle.reg_tables.proofs.RowsLemmas.{same_at}
use Rattle.reg_tables.proofs.open.meta.other_format.Goals as goal

pub loop-row-preserved : goal.loop-row-preserved
loop-row-preserved c n r k low at format =
    below_more (λ j. get_or c.args.rows.now j r ≡ r → n ≡ pos c.args.format) c.loop-row.row-index (λ j less is. c.loop-row.invariant n r j less is format)
    (λ is. (let same : c.row-item.result ≡ r = same_at c.args.rows.now c.loop-row.row-index r _ _ (search rules) (search rules) is in c.in-None.ensures.none refl n (subst (IsFormatRow n) (sym same) format))) k low at

pub returns-clause-none : goal.returns-clause-none
returns-clause-none c _ n r has format = c.loop-row.invariant n r has.0 (search (rules, has.1)) has.2 format
