pub mod Entries
pub mod Index
pub mod Reading
pub mod Mini
pub mod Laws
