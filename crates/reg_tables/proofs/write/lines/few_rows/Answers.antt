use Rattle.std.proofs.Common.{rules, arith, ◌≡◌, List, ap, length}
use Rattle.std.proofs.lemmas.Result.{IfOk-weaker}
use Rattle.ags_rows.specs.declared.rows.Group.{Group}
use Rattle.reg_store.specs.Fit.{kept_rows}
use Rattle.reg_tables.proofs.LinesLemmas.{kept_few}
use Rattle.reg_tables.proofs.write.lines.few_rows.Goals as goal

pub returns-clause-few : goal.returns-clause-few
returns-clause-few c =
    let file = c.args.file.now in
    let same : c.groups.result.now ≡ file.groups = search rules in
    let few = kept_few file c.bytes-bytes.ensures.clean in
    IfOk-weaker c.kept_rows.result _ _ (λ rows are. omega (arith, ap length are, ap (λ (groups : List Group). length (kept_rows groups)) same, few, c.requires)) c.kept_rows.ensures
