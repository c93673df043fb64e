-- The built-in dictionary has no findings.
use Rattle.std.proofs.Common.{◌≢◌, List, []}
use Rattle.ags_rows.specs.declared.finding.Finding.{Finding}
use Rattle.ags_rows.specs.declared.built_in.TheConstants.{MINI}
use Rattle.ags_rows.specs.Findings.{LooseFindings}
use Rattle.ags_rows.specs.Laws.{OneListOfFindings}
use Rattle.ags_dict.specs.Entries.{Entries}
use Rattle.ags_dict.specs.Reading.{IsDictionary}

pub no_findings : OneListOfFindings → (entries : Entries) → IsDictionary MINI.now entries → (found : List Finding) → LooseFindings MINI.now found → found ≢ [] → ⊥
no_findings one entries is found loose some = let groups = is.1.1 in some (one.2 MINI.now found [] loose (groups.0, groups.1, groups.2))
