use Rattle.std.proofs.Common.{All}
use Rattle.ags_links.specs.EntryLists.{IsEntryList}
use Rattle.ags_links.proofs.entry_lists.entry_lists.Given as goal

abbrev pub invariant-loop-place : goal.invariant-loop-place
invariant-loop-place l = All (IsEntryList l.filed.rows.now) l.lists.lists.items
