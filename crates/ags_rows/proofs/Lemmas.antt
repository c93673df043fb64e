-- What proofs and definitions of the crates above cite of this one, beside its contracts and definitions. Each is proved here: nothing in it has to be believed.
-- The item at a place of a list, and what a list contains.
pub use Rattle.ags_rows.proofs.AtPlaces.{at_later, at_earlier, at_from_read, at_same, at_map, at_mapped, contains_at, at_contained, take_at, all_at, all_from_at}
pub use Rattle.ags_rows.proofs.Collecting.{none_is, is_one, one_is, before_or_at}
pub use Rattle.ags_rows.proofs.WellFormed.{once_apart, once_from}
-- Findings that are added rule by rule and element by element, sorted at the end, and of the first phase that has any.
pub use Rattle.ags_rows.proofs.Collecting.{adds_none, adds_both, adds_same, adds_found, adds_clear, adds_unmet, among_none, among_more, among_all, one_none, one_more, one_rule, two_rules, three_rules, listed, listed_all, none_listed, found_late}
pub use Rattle.ags_rows.proofs.WellFormed.{clear_first}
-- A text is cut into lines from the left, rows into groups, and two findings that compare as equal are one.
pub use Rattle.ags_rows.proofs.Cuts.{some_groups}
pub use Rattle.ags_rows.proofs.Cutting.{byte_found, byte_none, line_none, line_lf, line_crlf, line_falls, lines_from_cut, AreCut}
pub use Rattle.ags_rows.proofs.Files.{finding_exact}
-- A file has one cutting into rows and groups, and one list of findings.
pub use Rattle.ags_rows.proofs.Once.{same_file, one_grouping, one_loose_grouping, one_first_found, one_loose_list}
-- A file without findings has the same groups where it is read loosely; the groups of the built-in dictionary.
pub use Rattle.ags_rows.proofs.Loosely.{loose_groups}
pub use Rattle.ags_rows.proofs.Mini.{mini_groups}
-- A line has one reading; what is written is read back; the groups of a file that was read can be written.
pub use Rattle.ags_rows.proofs.Fields.{line_spells, same_fields}
pub use Rattle.ags_rows.proofs.RoundTrip.{file_is_read}
pub use Rattle.ags_rows.proofs.WellFormed.{read_plain}
