-- Lists of findings, as they are held: without a subject, a finding takes no room for one.
use Rattle.std.specs.Prelude.{List, [], map}
use Rattle.std.specs.Ordering.{on, eq_by_cmp}
use Rattle.std.specs.Cmp.{IsTotalOrder, IsPartialEquivalence, on_total, eq_by_cmp_equiv, partial_equiv_from_equiv}
use Rattle.std.specs.declared.cmp.Ordering.{Ordering}
use Rattle.ags_rows.specs.declared.finding.Finding.{Finding}
use Rattle.ags_rows.specs.declared.finding.Bare.{Bare}
use Rattle.ags_rows.specs.declared.finding.FindingRef.{FindingRef}
use Rattle.ags_rows.specs.declared.finding.Held.{Held}
use Rattle.ags_rows.specs.declared.finding.Held.TheVariants.{Bare as AllBare, Full}
use Rattle.ags_rows.specs.FindingOrder.{finding_cmp, finding_total}

-- a finding without a subject
abbrev pub bare_finding : Bare → Finding
bare_finding bare = record { line = bare.line; code = bare.code; subject = [] }

-- a finding as a list reports it
abbrev pub finding_of : FindingRef → Finding
finding_of found = record { line = found.line; code = found.code; subject = found.subject.now }

-- the findings of a list
abbrev pub held_findings : Held → List Finding
held_findings (AllBare bare) = map bare_finding bare.items
held_findings (Full full) = full.items

-- without a subject, findings are in the order of findings
abbrev pub bare_cmp : Bare → Bare → Ordering
bare_cmp = on bare_finding finding_cmp

pub bare_total : IsTotalOrder bare_cmp
bare_total = on_total bare_finding finding_total

pub bare_eq_laws : IsPartialEquivalence (eq_by_cmp bare_cmp)
bare_eq_laws = partial_equiv_from_equiv (eq_by_cmp_equiv bare_total)
