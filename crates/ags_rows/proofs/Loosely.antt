-- A file without findings has none when it is read loosely.
use Rattle.std.proofs.Common.{ℕ, List, [], inr}
use Rattle.ags_rows.specs.declared.rows.Group.{Group}
use Rattle.ags_rows.specs.Stands.{StandsInLines}
use Rattle.ags_rows.specs.Findings.{FileParts, FirstFound, phases, loose_phases, RowFindings, LooseFindings, FileGroups, LooseGroups}
use Rattle.ags_rows.specs.Parsing.{later_phases}
use Rattle.ags_rows.proofs.WellFormed.{clear_first}

-- phases without findings, with Rules 1 and 2a struck out
loose_first : (file : FileParts) → FirstFound (phases file) [] → FirstFound (loose_phases file) []
loose_first file h =
    let clear = clear_first (StandsInLines file.lines) (later_phases file.rows file.groups) h in
    inr (λ f s. clear.0 f s.0, clear.1)

pub loose_findings : (bytes : List ℕ) → RowFindings bytes [] → LooseFindings bytes []
loose_findings bytes h = (h.0, h.1, loose_first h.0 h.2)

pub loose_groups : (bytes : List ℕ) (groups : List Group) → FileGroups bytes groups → LooseGroups bytes groups
loose_groups bytes groups h = (h.0, h.1, loose_first h.0 h.2, h.3, h.4)
