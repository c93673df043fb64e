use Rattle.std.proofs.Common.{sym, subst}
use Rattle.ags_rows.proofs.Lemmas.{two_rules}
use Rattle.ags_links.specs.Indexing.{rows_in}
use Rattle.ags_check.specs.Columns.{Outlined, HaveRowsOf}
use Rattle.std.proofs.lemmas.Result.{on_ok_weaker}
use Rattle.ags_check.proofs.rows.note_group_entries.Goals as goal

pub note_data_rows-requires-clause-rows : goal.note_data_rows-requires-clause-rows
note_data_rows-requires-clause-rows c = subst (λ (v : Outlined). HaveRowsOf (rows_in c.args.index.now) c.args.first v.group) (sym c.in_ok-outline.ensures) c.requires.rows

pub returns : goal.returns
returns c =
    let columns = rw (c.in_ok-outline.ensures, c.requires.listed) at c.in_ok-note_columns.ensures in
    on_ok_weaker c.note_data_rows.result (λ rows. two_rules _ _ _ columns (rw c.in_ok-outline.ensures at rows)) c.note_data_rows.ensures
