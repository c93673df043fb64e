pub mod Strips
pub mod PartReaders
pub mod NumberReaders
pub mod DayReader
pub mod TimeReaders
pub mod UnitLemmas
pub mod CodeLemmas
