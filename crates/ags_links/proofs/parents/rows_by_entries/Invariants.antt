use Rattle.std.proofs.Common.{take}
use Rattle.ags_links.specs.Lookups.{Finds, pairs_of}
use Rattle.ags_links.specs.ParentRows.{ArePlacesIn, HasAskedAmong}
use Rattle.ags_links.proofs.Kept.{texts}
use Rattle.ags_links.proofs.parents.rows_by_entries.Given as goal

abbrev pub invariant-loop-number : goal.invariant-loop-number
invariant-loop-number l = record {
  finds : Finds (pairs_of l.pairs.items) (HasAskedAmong l.asked (take l.number-index l.numbers) l.filed.rows.now (texts l.headings));
  placed : ArePlacesIn l.filed.families.now (texts l.headings) l.stood;
}
