pub mod Names
pub mod Days
pub mod Documents
pub mod Readers
pub mod Rules
pub mod Callers
pub mod Decision
