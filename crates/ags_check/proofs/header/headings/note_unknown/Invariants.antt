use Rattle.std.proofs.Common.{◌≡◌, None}
use Rattle.ags_rows.specs.Collecting.{Adds, AmongBefore}
use Rattle.ags_rows.specs.Contents.{place_in}
use Rattle.ags_dict.specs.Entries.{order_of}
use Rattle.ags_check.proofs.Naming.{texts, NotesName}
use Rattle.ags_check.proofs.header.headings.note_unknown.Given as goal

abbrev pub invariant-loop-heading : goal.invariant-loop-heading
invariant-loop-heading l = Adds (AmongBefore (texts l.headings) (NotesName l.line l.code (λ _ name. place_in (order_of l.dictionary l.group) name ≡ None)) l.heading-index) l.fn.findings l.findings
