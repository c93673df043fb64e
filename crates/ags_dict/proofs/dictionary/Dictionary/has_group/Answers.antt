use Rattle.std.proofs.Common.{sym, ap, ◌∙◌}
use Rattle.std.specs.List.{list_any}
use Rattle.ags_dict.specs.Entries.{Entries}
use Rattle.ags_dict.specs.Index.{is_for}
use Rattle.ags_dict.proofs.Found.{found_any, copied_some}
use Rattle.ags_dict.proofs.dictionary.Dictionary.has_group.Goals as goal

pub returns : goal.returns
returns c =
    c.is_some.ensures ∙ sym (copied_some c.find.result _ c.find.ensures) ∙ found_any (is_for c.args.group.now) c.self.inside.groups
    ∙ ap (λ (e : Entries). list_any (is_for c.args.group.now) e.groups) c.self.view_is
