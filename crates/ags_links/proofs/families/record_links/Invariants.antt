use Rattle.std.proofs.Common.{◌≡◌, take, map, filter, codes}
use Rattle.std.specs.Str.{bytes_eq}
use Rattle.ags_rows.specs.Contents.{place_in, under}
use Rattle.ags_links.proofs.Kept.{texts}
use Rattle.ags_links.proofs.families.record_links.Given as goal

abbrev pub invariant-loop-heading : goal.invariant-loop-heading
invariant-loop-heading l = l.places.items ≡ map (place_in l.headings) (filter (λ h. bytes_eq (under l.headings l.group.types h) (codes "RL")) (texts (take l.heading-index l.heading-items)))
