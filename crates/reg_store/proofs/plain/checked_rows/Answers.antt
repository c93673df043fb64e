use Rattle.std.proofs.Common.{◌≡◌, ◌∙◌, All, Global, List, Vec, subst, sym}
use Rattle.std.specs.Prelude.{IfOk}
use Rattle.std.proofs.lemmas.Result.{IfOk-weaker}
use Rattle.ags_rows.specs.declared.rows.Group.{Group}
use Rattle.reg_store.specs.Fit.{kept_rows}
use Rattle.reg_store.specs.Keep.{sent_of}
use Rattle.reg_store.specs.Reading.{HasKeptRows, HasKind}
use Rattle.reg_store.specs.declared.keep.KeptRow.{KeptRow}
use Rattle.reg_store.proofs.PlainLemmas.{of_checked}
use Rattle.reg_store.proofs.ProjectLemmas.{kept_kinds}
use Rattle.reg_store.proofs.plain.checked_rows.Goals as goal

pub returns-clause-rows : goal.returns-clause-rows
returns-clause-rows c =
    of_checked c.args.dictionary.now (sent_of c.args.kept.now) c.in_ok-checked.checked HasKeptRows c.kept_rows.result c.in_ok-checked.ensures
    (subst (λ (groups : List Group). IfOk c.kept_rows.result (λ rows. rows.items ≡ kept_rows groups)) (c.groups.ensures ∙ c.scan.ensures) c.kept_rows.ensures)

pub returns-clause-kinds : goal.returns-clause-kinds
returns-clause-kinds c =
    IfOk-weaker c.kept_rows.result _ _ (λ (rows : Vec KeptRow Global) is. subst (All HasKind) (sym is) (kept_kinds c.groups.result.now)) c.kept_rows.ensures
