use Rattle.ags_links.specs.Indexing.{IsParentAt}
use Rattle.ags_links.proofs.Linking.{has_listed}
use Rattle.ags_links.proofs.index.Index.has_parent.Goals as goal

pub returns : goal.returns
returns c = has_listed c.parent_rows.result.now (IsParentAt c.args.self.now c.args.row) c.parent_rows.ensures c.is_empty.result c.is_empty.ensures
