-- What a cell names, read as a record link (Rule 11).
use Rattle.std.specs.Prelude.{ℕ, List}
use Rattle.ags_dict.specs.Entries.{Entries}
use Rattle.ags_links.specs.DataRows.{DataRow, ListsRows}
use Rattle.ags_links.specs.RecordLinks.{IsPartOf, NamesAt, IsBroken}
use Rattle.ags_links.specs.declared.separators.Separators.{Separators}
use Rattle.ags_links.specs.declared.index.Targets.{Targets}
use Rattle.ags_links.specs.declared.index.Targets.TheVariants.{Rows, Broken}

-- the rows that the parts name, where each part names a row; broken where some part names none
abbrev pub AreTargets : Entries → Separators → List DataRow → DataRow → List ℕ → Targets → Type 0
AreTargets entries separators rows r heading (Rows found) =
    ListsRows found.items (λ m. (part : List ℕ) × IsPartOf separators r heading part
    × NamesAt entries separators rows part m)
    × ((part : List ℕ) → IsPartOf separators r heading part → (m : ℕ) × NamesAt entries separators rows part m)
AreTargets entries separators rows r heading Broken = IsBroken entries separators rows r heading
