use Rattle.std.proofs.Common.{◌≡◌, take, filter}
use Rattle.ags_links.specs.Families.{is_one_of}
use Rattle.ags_links.proofs.Kept.{texts}
use Rattle.ags_links.proofs.parents.common_headings.Given as goal

abbrev pub invariant-loop-heading : goal.invariant-loop-heading
invariant-loop-heading l = texts l.common.items ≡ filter (is_one_of l.keys) (texts (take l.heading-index l.heading-items))
