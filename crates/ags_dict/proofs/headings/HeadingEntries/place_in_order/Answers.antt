use Rattle.std.proofs.Common.{◌≡◌, List, Some, None, length, refl, sym, ap, ◌∙◌}
use Rattle.std.specs.List.{filter}
use Rattle.ags_rows.specs.Contents.{place_in}
use Rattle.ags_dict.specs.declared.entries.HeadingEntry.{HeadingEntry}
use Rattle.ags_dict.specs.Index.{of_group}
use Rattle.ags_dict.proofs.Ranks.{order_in, place_first, place_after}
use Rattle.ags_dict.proofs.headings.HeadingEntries.place_in_order.Goals as goal

pub returns-in-Some : goal.returns-in-Some
returns-in-Some c =
    let place = λ (entries : List HeadingEntry). place_in (order_in c.args.group.now entries) c.args.heading.now in
    let shared : place c.self.inside.shared.value ≡ Some c.in-Some.place = ap place (sym c.deref.ensures) ∙ sym c.place_in_order.ensures.place ∙ c.in-Some.is in
    place_first c.args.group.now c.args.heading.now c.self.inside.shared.value c.self.inside.own c.args.self.now c.in-Some.place shared c.self.view_is

pub returns-in_err-place : goal.returns-in_err-place
returns-in_err-place c =
    let place = λ (entries : List HeadingEntry). place_in (order_in c.args.group.now entries) c.args.heading.now in
    let shared : place c.self.inside.shared.value ≡ None = ap place (sym c.deref.ensures) ∙ sym c.place_in_order.ensures.place ∙ c.in_default.is in
    let earlier = length (filter (of_group c.args.group.now) c.self.inside.shared.value) in
    c.from_residual.ensures
    ∙ place_after c.args.group.now c.args.heading.now c.self.inside.shared.value c.self.inside.own c.args.self.now earlier None shared refl c.in_err-place.ensures.place c.self.view_is

pub returns : goal.returns
returns c =
    let place = λ (entries : List HeadingEntry). place_in (order_in c.args.group.now entries) c.args.heading.now in
    let shared : place c.self.inside.shared.value ≡ None = ap place (sym c.deref.ensures) ∙ sym c.place_in_order.ensures.place ∙ c.in_default.is in
    let count = c.count_of_group-earlier.ensures.count ∙ ap (λ (entries : List HeadingEntry). length (filter (of_group c.args.group.now) entries)) c.deref-2.ensures in
    place_after c.args.group.now c.args.heading.now c.self.inside.shared.value c.self.inside.own c.args.self.now c.count_of_group-earlier.result (Some c.in_ok-place.place) shared count c.in_ok-place.ensures.place c.self.view_is
