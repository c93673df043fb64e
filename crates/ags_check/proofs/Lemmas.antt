-- What proofs and definitions of the crates above cite of this one, beside its contracts and definitions. Each is proved here: nothing in it has to be believed.
-- Bytes have one list of findings; two checked files of the same bytes are one; contents that keep the rules give no finding.
pub use Rattle.ags_check.proofs.Whole.{one_list}
pub use Rattle.ags_check.proofs.OneFile.{one_clean_file}
pub use Rattle.ags_check.proofs.CleanContents.{clean_contents}
