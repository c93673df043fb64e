pub mod Taking
pub mod Answering
pub mod BuiltIn
pub mod Telling
