use Rattle.std.proofs.Common.{rules, ◌≡◌, ◌∷◌, [], length, ℤ, to_z, of_z, w64, ap, subst, sym, ◌∙◌}
use Rattle.std.specs.Prelude.{codes}
use Rattle.sqlite.specs.declared.types.Value.TheVariants.{Text as Words}
use Rattle.sqlite.specs.Order.{column}
use Rattle.sqlite_value.specs.Value.{owned}
use Rattle.reg_tables.specs.Formats.{IsFormatRow}
use Rattle.reg_tables.proofs.ReadersLemmas.{width_3}
use Rattle.reg_tables.proofs.open.meta.format_in.Goals as goal

pub returns-in-Ok-Int-clause-found : goal.returns-in-Ok-Int-clause-found
returns-in-Ok-Int-clause-found c =
    let row = c.args.row.now in
    let long : length row ≡ 3 = search rules in
    let first : column row 0 ≡ Words (codes "format") = search rules in
    let second = sym c.in-Ok-Int.ensures.ok.1 ∙ ap owned c.in-Ok-Int.field-0-is in
    let wide : c.in-Ok-Int.number ≡ to_z w64 (of_z w64 c.in-Ok-Int.number) = search rules in
    subst (λ (n : ℤ). IsFormatRow n row) wide (column row 2, width_3 row long ∙ ap (λ v. v ∷ column row 1 ∷ column row 2 ∷ []) first ∙ ap (λ v. Words (codes "format") ∷ v ∷ column row 2 ∷ []) second)
