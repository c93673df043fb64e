use Rattle.std.proofs.Common.{rules, arith, ◌≡◌, length, map, refl, sym, ◌∙◌}
use Rattle.std.proofs.lemmas.List.{length-map}
use Rattle.sqlite_value.specs.Value.{owned}
use Rattle.sqlite.specs.declared.types.Value.TheVariants.{Null}
use Rattle.reg_tables.proofs.RowsLemmas.{same_list}
use Rattle.reg_tables.proofs.open.values.is_row.Goals as goal

pub returns : goal.returns
returns c =
    let row = c.args.row.now in
    let values = c.args.values.now in
    let long : length row ≡ length values = search rules in
    let end : c.loop-at.at ≡ length values = search rules in
    (λ _. same_list Null row (map owned values) (long ∙ sym (length-map values owned)) (λ k low. c.loop-at.invariant k (omega (arith, low, long, end))), λ _. refl)
