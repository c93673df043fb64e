use Rattle.std.proofs.Common.{List, ℕ, Contains, sym, subst, ◌↔◌}
use Rattle.std.proofs.lemmas.Result.{on_ok_weaker}
use Rattle.ags_rows.specs.Collecting.{At}
use Rattle.ags_links.specs.DataRows.{DataRow}
use Rattle.ags_links.specs.Indexing.{rows_in}
use Rattle.ags_links.specs.RecordLinks.{separators_of}
use Rattle.ags_links.specs.Steps.{IsLinkedPart}
use Rattle.ags_links.proofs.Kept.{texts}
use Rattle.ags_links.proofs.Linking.{linked_rows}
use Rattle.ags_links.proofs.RowLemmas.{some_at}
use Rattle.ags_links.proofs.steps.add_links.Goals as goal

pub returns : goal.returns
returns c =
    let file = c.args.index.now in
    let at_row : (r : DataRow) × At (rows_in file) c.args.row r = some_at (rows_in file) c.args.row c.requires in
    on_ok_weaker c.add_named.result (λ added.
    linked_rows file c.args.row at_row.0 (texts c.deref.result.now) c.args.found.now.items c.add_named.new.found.items at_row.1
    (subst (λ ps. (part : List ℕ) → Contains (texts ps) part ↔ IsLinkedPart (separators_of file.contents) at_row.0 part) (sym c.deref.ensures.value) (c.in_ok-parts.ensures at_row.0 at_row.1))
    added) c.add_named.ensures
