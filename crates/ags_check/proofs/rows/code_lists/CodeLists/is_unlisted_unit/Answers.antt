use Rattle.std.proofs.Common.{codes}
use Rattle.ags_rows.specs.Contents.{contents_of}
use Rattle.ags_check.proofs.Listings.{unlisted_by}
use Rattle.ags_check.proofs.rows.code_lists.CodeLists.is_unlisted_unit.Goals as goal

pub returns : goal.returns
returns c = rw (← c.self.view_is) (unlisted_by (contents_of c.self.inside.groups.now) (codes "UNIT") (codes "UNIT_UNIT") _ c.self.inside.units _ c.self.invariant.units c.is_unlisted.ensures)
