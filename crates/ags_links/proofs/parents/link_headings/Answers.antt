use Rattle.std.proofs.Common.{ap, sym, ◌∙◌}
use Rattle.ags_dict.specs.Entries.{keys_of}
use Rattle.ags_links.proofs.Heading.{link_headings}
use Rattle.ags_links.proofs.Kept.{first_below, first_of_group, texts}
use Rattle.ags_links.proofs.Members.{no_items, some_items}
use Rattle.ags_links.proofs.parents.link_headings.Goals as goal

-- the parent group has no row
pub returns-then-is_empty : goal.returns-then-is_empty
returns-then-is_empty c = λ some_rows. absurd (some_rows (sym c.rows_with-numbers.ensures ∙ no_items c.rows_with-numbers.result.now c.is_empty.result c.is_empty.ensures c.if-is_empty.true))

pub bounds-numbers-0 : goal.bounds-numbers-0
bounds-numbers-0 c = some_items c.rows_with-numbers.result.now c.is_empty.result c.is_empty.ensures c.if-is_empty.false

pub row-requires : goal.row-requires
row-requires c =
    first_below c.args.by_group.now c.args.filed.now.rows.now c.args.parent.now c.rows_with-numbers.result.now c.requires c.rows_with-numbers.ensures
    (some_items c.rows_with-numbers.result.now c.is_empty.result c.is_empty.ensures c.if-is_empty.false)

-- it has rows, whose KEY headings are those of the first
pub returns : goal.returns
returns c = λ some_rows.
    let entries = c.args.filed.now.dictionary.now in
    let parent = c.args.parent.now in
    let numbers = c.rows_with-numbers.result.now in
    let some = some_items numbers c.is_empty.result c.is_empty.ensures c.if-is_empty.false in
    let of_parent = first_of_group c.args.by_group.now c.args.filed.now.rows.now parent numbers c.row.result.0.now c.requires c.rows_with-numbers.ensures some c.row.ensures.row in
    link_headings entries parent c.args.family.now.headings c.row.result.1.now.key_headings (texts c.in_ok-common.common.items) (texts c.in_byte_order.result.items)
    (c.row.ensures.kept.key_headings ∙ ap (keys_of entries) of_parent) c.in_ok-common.ensures c.in_byte_order.ensures
