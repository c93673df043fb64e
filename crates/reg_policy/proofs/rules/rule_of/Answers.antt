use Rattle.toml.specs.View.{table_view}
use Rattle.reg_policy.specs.Rules.{IsRule}
use Rattle.reg_policy.proofs.Items.{passed_on}
use Rattle.reg_policy.proofs.rules.rule_of.Goals as goal

pub returns-in_err-number_at : goal.returns-in_err-number_at
returns-in_err-number_at c =
    passed_on _ (IsRule (table_view c.args.table.now)) c.in_err-number_at.field-0.0 _ _ c.from_residual.ensures.1 (λ f same. same) c.in_err-number_at.ensures
    (λ bad r is. bad r.number is.number)

pub returns-in_err-effect_at : goal.returns-in_err-effect_at
returns-in_err-effect_at c =
    passed_on _ (IsRule (table_view c.args.table.now)) c.in_err-effect_at.field-0.0 _ _ c.from_residual-in_err-effect_at.ensures.1 (λ f same. same) c.in_err-effect_at.ensures
    (λ bad r is. bad r.effect is.effect)

pub returns-in_err-verb_at : goal.returns-in_err-verb_at
returns-in_err-verb_at c =
    passed_on _ (IsRule (table_view c.args.table.now)) c.in_err-verb_at.field-0.0 _ _ c.from_residual-in_err-verb_at.ensures.1 (λ f same. same) c.in_err-verb_at.ensures
    (λ bad r is. bad r.verb is.verb)

pub returns-in_err-either_at : goal.returns-in_err-either_at
returns-in_err-either_at c =
    passed_on _ (IsRule (table_view c.args.table.now)) c.in_err-either_at.field-0.0 _ _ c.from_residual-in_err-either_at.ensures.1 (λ f same. same) c.in_err-either_at.ensures
    (λ bad r is. bad r.own is.own)

pub returns-in_err-either_at-2 : goal.returns-in_err-either_at-2
returns-in_err-either_at-2 c =
    passed_on _ (IsRule (table_view c.args.table.now)) c.in_err-either_at-2.field-0.0 _ _ c.from_residual-in_err-either_at-2.ensures.1 (λ f same. same) c.in_err-either_at-2.ensures
    (λ bad r is. bad r.past is.past)

pub returns-in_err-name_at : goal.returns-in_err-name_at
returns-in_err-name_at c =
    passed_on _ (IsRule (table_view c.args.table.now)) c.in_err-name_at.field-0.0 _ _ c.from_residual-in_err-name_at.ensures.1 (λ f same. same) c.in_err-name_at.ensures
    (λ bad r is. bad r.firm is.firm)

pub returns-in_err-name_at-2 : goal.returns-in_err-name_at-2
returns-in_err-name_at-2 c =
    passed_on _ (IsRule (table_view c.args.table.now)) c.in_err-name_at-2.field-0.0 _ _ c.from_residual-in_err-name_at-2.ensures.1 (λ f same. same) c.in_err-name_at-2.ensures
    (λ bad r is. bad r.role is.role)

pub returns-in_err-name_at-3 : goal.returns-in_err-name_at-3
returns-in_err-name_at-3 c =
    passed_on _ (IsRule (table_view c.args.table.now)) c.in_err-name_at-3.field-0.0 _ _ c.from_residual-in_err-name_at-3.ensures.1 (λ f same. same) c.in_err-name_at-3.ensures
    (λ bad r is. bad r.project is.project)

pub returns-in_err-group_at : goal.returns-in_err-group_at
returns-in_err-group_at c =
    passed_on _ (IsRule (table_view c.args.table.now)) c.in_err-group_at.field-0.0 _ _ c.from_residual-in_err-group_at.ensures.1 (λ f same. same) c.in_err-group_at.ensures
    (λ bad r is. bad r.group is.group)

pub returns-in_err-entry_at : goal.returns-in_err-entry_at
returns-in_err-entry_at c =
    passed_on _ (IsRule (table_view c.args.table.now)) c.in_err-entry_at.field-0.0 _ _ c.from_residual-in_err-entry_at.ensures.1 (λ f same. same) c.in_err-entry_at.ensures
    (λ bad r is. bad r.entry is.entry)

pub returns-in_err-period_at : goal.returns-in_err-period_at
returns-in_err-period_at c =
    passed_on _ (IsRule (table_view c.args.table.now)) c.in_err-period_at.field-0.0 _ _ c.from_residual-in_err-period_at.ensures.1 (λ f same. same) c.in_err-period_at.ensures
    (λ bad r is. bad r.period is.period)

pub returns : goal.returns
returns c = record {
  number = c.in_ok-number_at.ensures;
  effect = c.in_ok-effect_at.ensures;
  verb = c.in_ok-verb_at.ensures;
  own = c.in_ok-either_at.ensures;
  past = c.in_ok-either_at-2.ensures;
  firm = c.in_ok-name_at.ensures;
  role = c.in_ok-name_at-2.ensures;
  project = c.in_ok-name_at-3.ensures;
  group = c.in_ok-group_at.ensures;
  entry = c.in_ok-entry_at.ensures;
  period = c.in_ok-period_at.ensures;
}
