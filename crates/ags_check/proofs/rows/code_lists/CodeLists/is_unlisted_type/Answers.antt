use Rattle.std.proofs.Common.{codes}
use Rattle.ags_rows.specs.Contents.{contents_of}
use Rattle.ags_check.proofs.Listings.{unlisted_by}
use Rattle.ags_check.proofs.rows.code_lists.CodeLists.is_unlisted_type.Goals as goal

pub returns : goal.returns
returns c = rw (← c.self.view_is) (unlisted_by (contents_of c.self.inside.groups.now) (codes "TYPE") (codes "TYPE_TYPE") _ c.self.inside.types _ c.self.invariant.types c.is_unlisted.ensures)
