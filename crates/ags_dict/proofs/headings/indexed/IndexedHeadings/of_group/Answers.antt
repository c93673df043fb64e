use Rattle.std.proofs.Common.{List, ◌++◌, Option, Bor, Vec, Global, map, slice_get, sym, ap, ◌∙◌, append-nil, take_all}
use Rattle.std.specs.List.{filter, filter_map}
use Rattle.std.specs.Option.{option_to_list}
use Rattle.ags_dict.specs.declared.entries.HeadingEntry.{HeadingEntry}
use Rattle.ags_dict.specs.Index.{group_places, of_group}
use Rattle.ags_dict.proofs.Found.{leads_more, place_all}
use Rattle.ags_dict.proofs.headings.indexed.IndexedHeadings.of_group.Goals as goal
use Rattle.ags_dict.proofs.headings.indexed.IndexedHeadings.of_group.Goals.{in-Some+in_ok-push, in_default}

pub loop-place-preserved : goal.loop-place-preserved
loop-place-preserved c =
    let places = c.of-place-items.result.now in
    let found = c.loop-place.found.items in
    let values : List (Bor HeadingEntry) → List HeadingEntry = map (λ e. e.now) in
    let all = leads_more c.args.self.now places c.loop-place.place-index found c.at.result c.loop-place-test.true c.at.ensures c.loop-place.invariant in
    elim c.match-at.branch [
      | in-Some+in_ok-push w ↦
          ap (λ (v : Vec (Bor HeadingEntry) Global). values v.items) w.found-is ∙ ap values w.in_ok-push.ensures.items
          ∙ ap (λ (r : Option (Bor HeadingEntry)). values (found ++ option_to_list r)) (sym w.in-Some.is) ∙ all
      | in_default w ↦
          ap (λ (v : Vec (Bor HeadingEntry) Global). values v.items) w.found-is ∙ ap values (sym (append-nil found))
          ∙ ap (λ (r : Option (Bor HeadingEntry)). values (found ++ option_to_list r)) (sym w.in_default.is) ∙ all
    ]

pub returns : goal.returns
returns c =
    let group = c.args.group.now in
    let places = group_places c.self.inside.by_group group in
    c.loop-place.invariant ∙ ap (filter_map (slice_get c.args.self.now)) (take_all c.loop-place.place-index c.of-place-items.result.now c.loop-place-test.false ∙ c.of-place-items.ensures)
    ∙ ap (λ (l : List HeadingEntry). filter_map (slice_get l) places) (sym c.self.view_is)
    ∙ place_all (of_group group) c.self.inside.entries.items places (c.self.invariant.groups group) ∙ ap (filter (of_group group)) c.self.view_is
