use Rattle.std.proofs.Common.{[], take}
use Rattle.ags_links.specs.Adding.{AddsRows}
use Rattle.ags_links.specs.Indexing.{IsNamedAmong}
use Rattle.ags_links.proofs.Kept.{texts}
use Rattle.ags_links.proofs.Linking.{EachNames}
use Rattle.ags_links.proofs.index.Index.link_targets.Given as goal

abbrev pub invariant-loop-part : goal.invariant-loop-part
invariant-loop-part l = record {
  named : AddsRows [] l.found.items (IsNamedAmong l.self (texts (take l.part-index l.part-items)));
  each : EachNames l.self (texts (take l.part-index l.part-items));
}
