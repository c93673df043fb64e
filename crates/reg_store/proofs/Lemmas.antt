-- What proofs of the crates above cite of this one, beside its contracts and definitions. Each is proved here: nothing in it
-- has to be believed.
-- What was sent of each deposit of a list, also after a withdrawal, and a list whose deposit is withdrawn already.
pub use Rattle.reg_store.proofs.DepositLemmas.{length_sents, sents_with_withdrawn, sent_at, deposit_at, withdrawn_again}
-- The rows that are kept of a file: those of its contents, how many DATA rows there are, the place of the row of PROJ.
pub use Rattle.reg_store.proofs.ProjectLemmas.{headed_count, kept_contents, project_at}
