use Rattle.std.proofs.Common.{◌∙◌, sym}
use Rattle.reg_desk.proofs.Views.{definition_seen, no_fields, row_seen}
use Rattle.reg_desk.proofs.view.row_permits.Goals as goal

pub returns-then-not-are_fields-clause-broken : goal.returns-then-not-are_fields-clause-broken
returns-then-not-are_fields-clause-broken c = λ e row are.
    no_fields c.args.group.now c.args.headings.now c.args.fields.now row (sym c.are_fields.ensures ∙ c.if-not-are_fields.true) are

pub returns-then-is_definition-clause-may : goal.returns-then-is_definition-clause-may
returns-then-is_definition-clause-may c =
    definition_seen c.args.look.now c.args.group.now c.args.headings.now c.args.fields.now (sym c.are_fields.ensures ∙ c.if-not-are_fields.false) (sym c.is_definition.ensures ∙ c.if-is_definition.true)

pub returns-clause-may : goal.returns-clause-may
returns-clause-may c =
    row_seen c.args.look.now c.args.group.now c.args.headings.now c.args.fields.now c.may_see.result (sym c.are_fields.ensures ∙ c.if-not-are_fields.false) (sym c.is_definition.ensures ∙ c.if-is_definition.false) c.may_see.ensures
