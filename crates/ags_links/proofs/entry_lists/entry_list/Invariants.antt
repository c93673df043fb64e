use Rattle.std.proofs.Common.{take}
use Rattle.ags_links.specs.EntryLists.{AreEntries}
use Rattle.ags_links.proofs.entry_lists.entry_list.Given as goal

abbrev pub invariant-loop-number : goal.invariant-loop-number
invariant-loop-number l = AreEntries l.filed.rows.now (take l.number-index l.numbers) l.heading l.entries.items
