use Rattle.std.proofs.Common.{◌≡◌, Some, None, option_copied, sym, ap, ◌∙◌}
use Rattle.std.specs.List.{find}
use Rattle.ags_dict.specs.Index.{is_for}
use Rattle.ags_dict.proofs.Found.{find_first, find_after}
use Rattle.ags_dict.proofs.groups.GroupEntries.find.Goals as goal

pub returns-in-Some : goal.returns-in-Some
returns-in-Some c =
    let wanted = is_for c.args.group.now in
    let shared : find wanted c.self.inside.shared.value ≡ Some c.in-Some.entry.now =
    ap (find wanted) (sym c.deref.ensures) ∙ sym c.find.ensures ∙ ap option_copied c.in-Some.is in
    find_first wanted c.self.inside.shared.value c.self.inside.own c.args.self.now c.in-Some.entry.now shared c.self.view_is

pub returns-in-None : goal.returns-in-None
returns-in-None c =
    let wanted = is_for c.args.group.now in
    let shared : find wanted c.self.inside.shared.value ≡ None =
    ap (find wanted) (sym c.deref.ensures) ∙ sym c.find.ensures ∙ ap option_copied c.in-None.is in
    c.find-in-None.ensures ∙ find_after wanted c.self.inside.shared.value c.self.inside.own c.args.self.now shared c.self.view_is
