-- The rows that a row steps to, as they are passed on.
use Rattle.std.specs.Prelude.{ℕ, List}
use Rattle.ags_links.specs.declared.steps.SteppedTo.{SteppedTo}
use Rattle.ags_links.specs.declared.steps.SteppedTo.TheVariants.{Parents, Listed}

abbrev pub stepped_rows : SteppedTo → List ℕ
stepped_rows (Parents rows) = rows.now
stepped_rows (Listed rows) = rows.items
