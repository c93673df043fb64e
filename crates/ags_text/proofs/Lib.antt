pub mod Lemmas
pub mod Named
