pub mod Numbers
pub mod Groups
pub mod Asks
