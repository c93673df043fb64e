use Rattle.std.proofs.Common.{◌≡◌, ◌+◌, ◌≤◌, List, ℕ, sym, ap, length, arith}
use Rattle.ags_rows.specs.declared.rows.Group.{Group}
use Rattle.ags_rows.specs.Collecting.{At, OneOf}
use Rattle.ags_rows.specs.Contents.{Contents, contents_of}
use Rattle.ags_rows.proofs.Lemmas.{among_more, among_all}
use Rattle.ags_links.specs.DataRows.{data_rows, rows_before}
use Rattle.ags_check.specs.Columns.{HaveRowsOf}
use Rattle.ags_check.specs.RowRules.{entry_rules_of}
use Rattle.ags_check.proofs.Numbering.{group_rows, group_few, group_next}
use Rattle.ags_check.proofs.rows.note_row_groups.Goals as goal

-- the rows of the group at a place are numbered from a number on, as the index has them
has_rows : (groups : List Group) (contents : List Contents) (i first : ℕ) (group : Group) → contents ≡ contents_of groups → first ≡ rows_before (contents_of groups) i → At groups i group
    → HaveRowsOf (data_rows contents) first group
has_rows groups contents i first group same is at = rw (same, is) (group_rows groups i group at)

few : (groups : List Group) (contents : List Contents) (i first : ℕ) (group : Group) → contents ≡ contents_of groups → first ≡ rows_before (contents_of groups) i → At groups i group
    → first + length group.rows ≤ length (data_rows contents)
few groups contents i first group same is at = omega (arith, is, group_few groups i group at, ap (λ (c : List Contents). length (data_rows c)) same)

pub note_group_entries-requires-clause-rows : goal.note_group_entries-requires-clause-rows
note_group_entries-requires-clause-rows c =
    has_rows c.args.groups.now c.args.index.now.contents c.loop-group.group-index c.loop-group.first c.group-item.result c.requires.contents c.loop-group.invariant.first
    (c.loop-group-test.true, sym c.group-item.is)

pub note_group_entries-requires-clause-few : goal.note_group_entries-requires-clause-few
note_group_entries-requires-clause-few c =
    let h = few c.args.groups.now c.args.index.now.contents c.loop-group.group-index c.loop-group.first c.group-item.result c.requires.contents c.loop-group.invariant.first
    (c.loop-group-test.true, sym c.group-item.is) in
    omega (arith, h, c.requires.few)

pub overflow_cast-first : goal.overflow_cast-first
overflow_cast-first c =
    let h = few c.args.groups.now c.args.index.now.contents c.loop-group.group-index c.loop-group.first c.group-item.result c.requires.contents c.loop-group.invariant.first
    (c.loop-group-test.true, sym c.group-item.is) in
    omega (arith, h, c.requires.few, c.len-size.ensures)

pub overflow_add-first : goal.overflow_add-first
overflow_add-first c =
    let h = few c.args.groups.now c.args.index.now.contents c.loop-group.group-index c.loop-group.first c.group-item.result c.requires.contents c.loop-group.invariant.first
    (c.loop-group-test.true, sym c.group-item.is) in
    omega (arith, h, c.requires.few, c.len-size.ensures)

pub loop-group-preserved : goal.loop-group-preserved
loop-group-preserved c =
    let groups = c.args.groups.now in
    let contents = contents_of groups in
    let i = c.loop-group.group-index in
    let group = c.group-item.result in
    let at : At groups i group = (c.loop-group-test.true, sym c.group-item.is) in
    let here = rw (← c.requires.entries, c.requires.contents, c.loop-group.invariant.first) at c.in_ok-note_group_entries.ensures in
    record {
      first = omega (arith, c.loop-group.invariant.first, c.len-size.ensures, group_next groups i group at);
      noted = among_more groups (λ place g f. OneOf (entry_rules_of c.args.dictionary.now contents (rows_before contents place) g) f) i group _ _ _ at c.loop-group.invariant.noted here;
    }

pub returns : goal.returns
returns c =
    let groups = c.args.groups.now in
    let contents = contents_of groups in
    among_all groups (λ place g f. OneOf (entry_rules_of c.args.dictionary.now contents (rows_before contents place) g) f) _ _ _ c.loop-group-test.false c.loop-group.invariant.noted
