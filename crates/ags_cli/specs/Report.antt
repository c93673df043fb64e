-- What is printed for a file without findings and for one with findings.
use Rattle.std.specs.Prelude.{ℕ, List, [], ◌++◌, map, flat_map, codes, nat_le, ◌&&◌, if◌then◌else◌}
use Rattle.std.specs.Fmt.{decimal}
use Rattle.ags_rows.specs.Codes.{code_text}
use Rattle.ags_rows.specs.declared.finding.Finding.{Finding}
use Rattle.ags_cli.specs.declared.report.Report.{Report}

-- the bytes that are printed as they are: from the space to `~`
abbrev pub first_printed : ℕ
first_printed = 32

abbrev pub last_printed : ℕ
last_printed = 126

-- what is printed for each other byte: `?`
abbrev pub placeholder : ℕ
placeholder = 63

abbrev pub shown_byte : ℕ → ℕ
shown_byte byte = if nat_le first_printed byte && nat_le byte last_printed then byte else placeholder

-- a subject as it is printed: `-` where it is empty
abbrev pub shown_subject : List ℕ → List ℕ
shown_subject [] = codes "-"
shown_subject subject = map shown_byte subject

-- a finding as it is printed: code, line and subject
abbrev pub report_line : Finding → List ℕ
report_line found =
    code_text found.code ++ codes " " ++ decimal found.line ++ codes " " ++ shown_subject found.subject ++ codes "\n"

-- what is printed for the findings of a file, and the status
abbrev pub report_of : List Finding → Report
report_of [] = record { text = codes "clean\n"; status = 0 }
report_of findings = record { text = flat_map report_line findings; status = 1 }
