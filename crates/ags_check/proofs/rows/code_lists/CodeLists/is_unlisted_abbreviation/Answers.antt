use Rattle.ags_rows.specs.Contents.{contents_of}
use Rattle.ags_check.proofs.Listings.{unlisted_pair}
use Rattle.ags_check.proofs.rows.code_lists.CodeLists.is_unlisted_abbreviation.Goals as goal

pub returns : goal.returns
returns c =
    let own = c.self.inside in
    rw (← c.self.view_is) (unlisted_pair (contents_of own.groups.now) own.abbreviations.held own.concatenator _ _ _ c.self.invariant.pairs c.self.invariant.concatenator c.is_unlisted_pair.ensures)
