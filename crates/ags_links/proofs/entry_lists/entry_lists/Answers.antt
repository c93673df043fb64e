use Rattle.std.proofs.Common.{sym, subst, length}
use Rattle.ags_links.specs.ParentRows.{AreNumbers}
use Rattle.ags_links.proofs.entry_lists.entry_lists.Goals as goal

pub add_list-requires-clause-numbers : goal.add_list-requires-clause-numbers
add_list-requires-clause-numbers c = subst (AreNumbers (length c.args.filed.now.rows.now)) (sym c.index-links-place.is) (c.requires.numbers c.loop-place.place c.index-links-place.result c.loop-place-test.true)
