use Rattle.std.proofs.Common.{◌≡◌, take}
use Rattle.ags_dict.proofs.groups.indexed.IndexedGroups.copied.Given as goal

abbrev pub invariant-loop-entry : goal.invariant-loop-entry
invariant-loop-entry l = l.copied ≡ take l.entry-index l.entry-items
