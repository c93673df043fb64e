use Rattle.std.proofs.Common.{◌≡◌, ℕ, Bool, List, Option, sym, ap, ◌∙◌, slice_get, option_copied}
use Rattle.std.specs.List.{find}
use Rattle.std.specs.Option.{option_and_then}
use Rattle.ags_dict.specs.declared.entries.GroupEntry.{GroupEntry}
use Rattle.ags_dict.specs.Index.{ArePlaces, is_for}
use Rattle.ags_dict.proofs.Found.{place_leads, first_passing}
use Rattle.ags_dict.proofs.groups.indexed.IndexedGroups.find.Goals as goal

-- what the first place of a name leads to
by_name : (wanted : GroupEntry → Bool) (entries self : List GroupEntry) (places : List ℕ) (first : Option ℕ) → first ≡ slice_get places 0 → ArePlaces wanted entries places → entries ≡ self
    → option_and_then (slice_get entries) first ≡ find wanted self
by_name wanted entries self places first at h view =
    ap (option_and_then (slice_get entries)) at ∙ place_leads wanted entries places 0 h ∙ first_passing wanted entries ∙ ap (find wanted) view

pub returns-in_err-nth : goal.returns-in_err-nth
returns-in_err-nth c =
    ap option_copied c.from_residual.ensures
    ∙ by_name (is_for c.args.group.now) c.self.inside.entries.items c.args.self.now _ _ (sym c.in_err-nth.was ∙ c.nth.ensures) (c.self.invariant c.args.group.now) c.self.view_is

pub returns : goal.returns
returns c =
    c.at.ensures ∙ ap (λ (l : List GroupEntry). slice_get l c.in_ok-nth.field-0) (sym c.self.view_is)
    ∙ by_name (is_for c.args.group.now) c.self.inside.entries.items c.args.self.now _ _ (sym c.in_ok-nth.was ∙ c.nth.ensures) (c.self.invariant c.args.group.now) c.self.view_is
