use Rattle.std.proofs.Common.{rules, ◌≡◌, ◌∷◌, [], ℕ, pos, Err, refl, ap, ◌∙◌}
use Rattle.std.proofs.lemmas.Result.{err_from_is_err_and}
use Rattle.sqlite.specs.declared.types.Value.TheVariants.{Int}
use Rattle.reg_tables.specs.declared.error.TableError.TheVariants.{Store}
use Rattle.reg_tables.specs.Rows.{given_deposit}
use Rattle.reg_tables.proofs.ReadersLemmas.{five_are}
use Rattle.reg_tables.proofs.read.rows.deposit_in.Goals as goal

pub returns-clause-read : goal.returns-clause-read
returns-clause-read c =
    let number : c.in_ok-number_column.field-0 ≡ c.args.number = search rules in
    let row = five_are c.in_ok-row.row.now _ _ _ _ _ c.in_ok-row.ensures.wide (c.in_ok-number_column.ensures.read ∙ ap (λ (n : ℕ). Int (pos n)) number) c.in_ok-name_column.ensures.read c.in_ok-name_column-2.ensures.read c.in_ok-day_column.ensures.read c.in_ok-bytes_column.ensures.read in
    c.in_ok-row.ensures.only ∙ ap (λ r. r ∷ []) row

pub returns-in_err-row-clause-other : goal.returns-in_err-row-clause-other
returns-in_err-row-clause-other c is d named rows =
    let p = err_from_is_err_and c.from_residual.result c.from_residual.ensures.1 in
    let same : p.0 ≡ c.in_err-row.field-0.0 = p.2 in
    let store : c.in_err-row.field-0.0 ≡ Store = cc in
    c.in_err-row.ensures.other (ap Err store) (given_deposit c.args.number d) rows refl
