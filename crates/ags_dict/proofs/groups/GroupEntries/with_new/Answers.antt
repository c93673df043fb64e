use Rattle.std.proofs.Common.{◌≡◌, true, false, sym, ap, ◌∙◌, List, ℕ}
use Rattle.std.specs.List.{list_any, find}
use Rattle.std.specs.Option.{is_some}
use Rattle.ags_dict.specs.Entries.{same_group}
use Rattle.ags_dict.specs.Index.{is_for}
use Rattle.ags_dict.proofs.Found.{found_any, copied_some}
use Rattle.ags_dict.proofs.FirstOfEach.{restated, fresh}
use Rattle.ags_dict.proofs.groups.GroupEntries.with_new.Goals as goal

pub returns-then-is_some : goal.returns-then-is_some
returns-then-is_some c =
    let found : list_any (same_group c.args.entry) c.args.self ≡ true =
    sym (found_any (same_group c.args.entry) c.args.self) ∙ ap (λ (g : List ℕ). is_some (find (is_for g) c.args.self)) (sym c.as_slice.ensures)
    ∙ copied_some c.find.result _ c.find.ensures ∙ sym c.is_some.ensures ∙ c.if-is_some.true in
    restated same_group c.args.self c.args.entry found

pub returns : goal.returns
returns c =
    let found : list_any (same_group c.args.entry) c.args.self ≡ false =
    sym (found_any (same_group c.args.entry) c.args.self) ∙ ap (λ (g : List ℕ). is_some (find (is_for g) c.args.self)) (sym c.as_slice.ensures)
    ∙ copied_some c.find.result _ c.find.ensures ∙ sym c.is_some.ensures ∙ c.if-is_some.false in
    fresh same_group c.self.inside.shared.value c.self.inside.own _ c.args.self c.args.entry found c.in_ok-own.ensures c.self.view_is
