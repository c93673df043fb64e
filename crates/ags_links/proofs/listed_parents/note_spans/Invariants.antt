use Rattle.std.proofs.Common.{take}
use Rattle.ags_links.specs.ParentRows.{AreSpansOf}
use Rattle.ags_links.proofs.listed_parents.note_spans.Given as goal

abbrev pub invariant-loop-number : goal.invariant-loop-number
invariant-loop-number l = AreSpansOf l.linked.filed.rows.now l.linked.of_groups.items l.lookup (take l.number-index l.users) l.initial.spans l.spans
