-- What proofs of the crates above cite of this one, beside its contracts and definitions. Each is proved here: nothing in it has to be believed.
-- Equality of a name with names of a list may be asked either way.
pub use Rattle.ags_text.proofs.Named.{any_other_way}
