use Rattle.ags_links.specs.Indexing.{IsFileRowAt}
use Rattle.ags_links.proofs.Linking.{has_listed}
use Rattle.ags_links.proofs.index.Index.has_file.Goals as goal

pub returns : goal.returns
returns c = has_listed c.file_rows.result.now (IsFileRowAt c.args.self.now c.args.row) c.file_rows.ensures c.is_empty.result c.is_empty.ensures
