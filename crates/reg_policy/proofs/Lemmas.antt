-- What proofs and definitions of the crates above cite of this one, beside its contracts and definitions. Each is proved here: nothing in it has to be believed.
-- A day has one text.
pub use Rattle.reg_policy.proofs.DayTexts.{one_text_of_day}
