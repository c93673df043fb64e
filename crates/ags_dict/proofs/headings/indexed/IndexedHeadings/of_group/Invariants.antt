use Rattle.std.proofs.Common.{◌≡◌, map, take, slice_get}
use Rattle.std.specs.List.{filter_map}
use Rattle.ags_dict.proofs.headings.indexed.IndexedHeadings.of_group.Given as goal

abbrev pub invariant-loop-place : goal.invariant-loop-place
invariant-loop-place l = map (λ e. e.now) l.found.items ≡ filter_map (slice_get l.self) (take l.place-index l.place-items)
