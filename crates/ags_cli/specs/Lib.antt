pub mod Streams
pub mod Report
pub mod Faults
pub mod Reading
pub mod Writing
pub mod Answers
pub mod Checking
