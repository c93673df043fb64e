-- What proofs and definitions of the crates above cite of this one, beside its contracts and definitions. Each is proved here: nothing in it has to be believed.
-- What a list contains, and what is at a place of it.
pub use Rattle.ags_links.proofs.Members.{contains_head, contains_tail, contains_cons, contains_map, map_contains}
pub use Rattle.ags_rows.proofs.Lemmas.{at_map}
pub use Rattle.ags_links.proofs.RowLemmas.{one_at, some_at, map_at}
-- The place of a name in a heading, and the parts of a text that a separator cuts.
pub use Rattle.ags_links.proofs.Heading.{placed, place_of, at_place}
pub use Rattle.ags_links.proofs.Cutting.{parts_cut, part_left}
-- DATA rows are numbered over a file: each number is one row of one group, and the rows before a group are counted.
pub use Rattle.ags_links.proofs.Numbering.{front_row, back_row, row_cases, row_of_group, row_of, row_among, row_at_place, before_few, before_next}
-- Walks along steps.
pub use Rattle.ags_links.proofs.WalkLemmas.{reach_itself, reach_first, reach_then, reached_more, reached_itself}
-- The graph of a file: there is one, it is walked as the file's steps are, and no step leaves a row of a definition group.
pub use Rattle.ags_links.proofs.OneGraph.{steps_ascend, one_graph}
pub use Rattle.ags_links.proofs.FileGraphs.{graphs_walk_as_files, definition_orphan, definitions_have_no_step}
