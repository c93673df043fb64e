-- The digits of numbers, for tactics.
pub use Rattle.std.specs.Fmt.{digits}
