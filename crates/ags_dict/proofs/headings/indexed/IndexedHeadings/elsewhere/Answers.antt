use Rattle.std.proofs.Common.{◌≡◌, ℕ, List, not, ◌&&◌, sym, ap, ◌∙◌, take_all}
use Rattle.std.specs.List.{list_any}
use Rattle.std.proofs.lemmas.List.Folds.{list_any_at}
use Rattle.ags_dict.specs.declared.entries.HeadingEntry.{HeadingEntry}
use Rattle.ags_dict.specs.Index.{of_group, is_named, is_of_other, ArePlaces}
use Rattle.ags_dict.proofs.Found.{place_any, any_both}
use Rattle.ags_dict.proofs.headings.indexed.IndexedHeadings.elsewhere.Goals as goal

-- what the places of a heading say of other groups
by_places : (entries self : List HeadingEntry) (group heading places held : List ℕ) → held ≡ places → entries ≡ self → ArePlaces (is_named heading) entries places
    → list_any (is_of_other self group) held ≡ list_any (λ (e : HeadingEntry). is_named heading e && not (of_group group e)) self
by_places entries self group heading places held at view h =
    let other = λ (e : HeadingEntry). not (of_group group e) in
    ap (list_any (is_of_other self group)) at ∙ ap (λ (l : List HeadingEntry). list_any (is_of_other l group) places) (sym view)
    ∙ place_any other (is_named heading) entries places h ∙ sym (any_both (is_named heading) other entries)
    ∙ ap (list_any (λ (e : HeadingEntry). is_named heading e && not (of_group group e))) view

pub returns-then-is_of_other : goal.returns-then-is_of_other
returns-then-is_of_other c =
    let held = c.of-place-items.result.now in
    sym (list_any_at (is_of_other c.args.self.now c.args.group.now) held c.loop-place.place-index 0 c.loop-place-test.true (sym c.is_of_other.ensures ∙ c.if-is_of_other.true))
    ∙ by_places c.self.inside.entries.items c.args.self.now c.args.group.now c.args.heading.now _ held c.of-place-items.ensures c.self.view_is (c.self.invariant.headings c.args.heading.now)

pub returns : goal.returns
returns c =
    let held = c.of-place-items.result.now in
    sym (ap (list_any (is_of_other c.args.self.now c.args.group.now)) (sym (take_all c.loop-place.place-index held c.loop-place-test.false)) ∙ c.loop-place.invariant)
    ∙ by_places c.self.inside.entries.items c.args.self.now c.args.group.now c.args.heading.now _ held c.of-place-items.ensures c.self.view_is (c.self.invariant.headings c.args.heading.now)
