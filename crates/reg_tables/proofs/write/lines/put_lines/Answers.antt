use Rattle.std.proofs.Common.{arith, ◌≡◌, ◌+◌, ◌<◌, ◌∷◌, [], length, refl, sym, ◌∙◌}
use Rattle.std.proofs.lemmas.List.{length-set}
use Rattle.sqlite.specs.Values.{bound}
use Rattle.reg_tables.specs.Rows.{line_row}
use Rattle.reg_tables.proofs.AddsLemmas.{values_flat, values_more}
use Rattle.reg_tables.proofs.write.lines.put_lines.Goals as goal

pub loop-i-preserved : goal.loop-i-preserved
loop-i-preserved c =
    let i = c.loop-i.i in
    let next = c.params-to_sql.result ∷ c.params-to_sql-in-loop-i.result ∷ c.params-to_sql-in-loop-i-2.result ∷ c.params-to_sql-in-loop-i-3.result ∷ c.params-to_sql-in-loop-i-4.result ∷ [] in
    let low : i < length c.loop-i.values = omega (arith, c.loop-i-test.true, c.requires.eight, c.loop-i.invariant.eight) in
    let its : bound next ≡ line_row c.args.number (c.args.from + i) c.index-rows-i.result =
    rw (c.params-to_sql.ensures, c.params-to_sql-in-loop-i.ensures, c.params-to_sql-in-loop-i-2.ensures, c.params-to_sql-in-loop-i-3.ensures, c.params-to_sql-in-loop-i-4.ensures, c.from.ensures, c.as_slice.ensures, c.in_ok-group.ensures) refl in
    record {
      eight = length-set c.loop-i.values i next ∙ c.loop-i.invariant.eight;
      values = values_more c.args.number c.args.from i c.args.rows.now c.index-rows-i.result _ _ c.loop-i-test.true (sym c.index-rows-i.is) c.loop-i.invariant.values (values_flat c.loop-i.values i next _ low its);
    }
