pub mod Failures
pub mod Given
pub mod Printing
pub mod Asking
pub mod Sessions
