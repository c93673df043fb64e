use Rattle.std.proofs.Common.{◌≡◌, ap, ◌∙◌}
use Rattle.ags_rows.specs.declared.code.Code.TheVariants.{Rule7, Rule10a, Rule10b, Rule19b}
use Rattle.ags_check.proofs.Rules.{five_rules}
use Rattle.ags_dict.specs.Entries.{order_of, keys_of, required_of}
use Rattle.ags_check.proofs.Naming.{texts}
use Rattle.ags_check.proofs.HeaderRules.{only_in, misplaced_rule, misnamed_rule}
use Rattle.std.proofs.lemmas.Result.{on_ok_weaker}
use Rattle.ags_check.proofs.header.note_header_headings.Goals as goal

pub returns : goal.returns
returns c =
    let given = c.args.given.now in
    let entries = c.args.extended.now in
    let group = c.args.group.now in
    let name = c.as_slice-name.ensures in
    let row = c.requires in
    let headings : texts c.names-headings.result.now ≡ group.headings = c.names-headings.ensures ∙ row in
    on_ok_weaker c.note_misnamed.result (λ last.
    five_rules _ _ _ _ _ _
    (misplaced_rule entries group Rule7 _ _ _ headings (rw name at c.in_ok-note_misplaced.ensures))
    (only_in group c.args.code _ group.headings (order_of entries group.name) _ _ headings (rw name at c.in_ok-note_unknown.ensures))
    (only_in group Rule10a _ (keys_of entries group.name) group.headings _ _ (ap (keys_of entries) name) (rw row at c.in_ok-note_absent_keys.ensures))
    (only_in group Rule10b _ (required_of entries group.name) group.headings _ _ (ap (required_of entries) name) (rw row at c.in_ok-note_absent_required.ensures))
    (misnamed_rule given entries group Rule19b _ _ _ headings (rw name at last))) c.note_misnamed.ensures
