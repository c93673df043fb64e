use Rattle.std.proofs.Common.{◌≡◌, ℕ, List, Option, Some, None, cond, ◌&&◌, length, map, sym, ap, ◌∙◌}
use Rattle.std.specs.List.{filter}
use Rattle.std.specs.Option.{option_or}
use Rattle.std.specs.Str.{bytes_eq}
use Rattle.ags_rows.specs.Contents.{place_in}
use Rattle.ags_dict.specs.declared.entries.HeadingEntry.{HeadingEntry}
use Rattle.ags_dict.specs.Index.{places_at, group_places, rank_at, of_group, is_named}
use Rattle.ags_dict.proofs.Found.{noted, places_length}
use Rattle.ags_dict.proofs.Ranks.{ordered}
use Rattle.ags_dict.proofs.headings.indexed.IndexedHeadings.with.Goals as goal

pub invariant_of-result : goal.invariant_of-result
invariant_of-result c =
    let entries = c.self.inside.entries.items in
    let e = c.args.entry in
    let group = c.as_slice-group.result.now in
    let heading = c.as_slice-heading.result.now in
    let rank = length (group_places c.self.inside.by_group group) in
    let ranked : rank ≡ length (filter (of_group e.group) entries) =
    ap (λ (g : List ℕ). length (group_places c.self.inside.by_group g)) c.as_slice-group.ensures
    ∙ places_length (of_group e.group) entries (group_places c.self.inside.by_group e.group) (c.self.invariant.groups e.group) in
    let kept = λ (g h : List ℕ). λ (a b : List ℕ). option_or (rank_at c.self.inside.by_group g h) (cond (bytes_eq a g && bytes_eq b h) (Some rank) None) in
    record {
      groups =
          noted of_group entries c.push.new.self.items e (group_places c.self.inside.by_group) (group_places c.note.new.self) group c.len-place.result
          (λ text. ap (λ (n : List ℕ). bytes_eq n text) (sym c.as_slice-group.ensures)) (c.len-place.ensures ∙ c.self.inside.entries.ok.0) c.in_ok-push.ensures.items
          c.in_ok-note.ensures.places c.self.invariant.groups;
      headings =
          noted is_named entries c.push.new.self.items e (places_at c.self.inside.by_heading) (places_at c.note-2.new.self) heading c.len-place.result
          (λ text. ap (λ (n : List ℕ). bytes_eq n text) (sym c.as_slice-heading.ensures)) (c.len-place.ensures ∙ c.self.inside.entries.ok.0) c.in_ok-push.ensures.items
          c.in_ok-note-2.ensures c.self.invariant.headings;
      orders = λ g h.
          c.in_ok-note.ensures.ranks g h ∙ ap (λ (a : List ℕ). kept g h a heading) c.as_slice-group.ensures ∙ ap (λ (b : List ℕ). kept g h e.group b) c.as_slice-heading.ensures
          ∙ ap (λ (o : Option ℕ). option_or o (cond (bytes_eq e.group g && bytes_eq e.heading h) (Some rank) None)) (c.self.invariant.orders g h)
          ∙ sym (ordered entries e g h rank ranked)
          ∙ ap (λ (l : List HeadingEntry). place_in (map (λ (e : HeadingEntry). e.heading) (filter (of_group g) l)) h) (sym c.in_ok-push.ensures.items);
    }
