use Rattle.std.proofs.Common.{◌≡◌}
use Rattle.std.proofs.lemmas.Result.{err_from_is_err_and}
use Rattle.reg_tables.specs.declared.error.TableError.TheVariants.{Store}
use Rattle.reg_tables.proofs.ReadersLemmas.{name_utf8}
use Rattle.reg_tables.proofs.read.rows.name_column.Goals as goal

pub returns-in_err-text-clause-other : goal.returns-in_err-text-clause-other
returns-in_err-text-clause-other c is name named same =
    let p = err_from_is_err_and c.from_residual.result c.from_residual.ensures.1 in
    let store : p.0 ≡ Store = cc in
    c.in_err-text.ensures.kind (p.2 store) c.requires (name, same, name_utf8 name named)
