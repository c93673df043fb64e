use Rattle.ags_rows.specs.Collecting.{Adds, AmongBefore}
use Rattle.ags_rows.specs.declared.code.Code.TheVariants.{Rule7}
use Rattle.ags_rows.specs.Contents.{place_in}
use Rattle.ags_dict.specs.Entries.{order_of}
use Rattle.ags_check.specs.HeaderSteps.{IsOvertaken}
use Rattle.ags_check.proofs.Naming.{texts, NotesName}
use Rattle.ags_check.proofs.Ranks.{IsLatest}
use Rattle.ags_check.proofs.header.headings.note_misplaced.Given as goal

abbrev pub invariant-loop-heading : goal.invariant-loop-heading
invariant-loop-heading l = record {
  noted : Adds (AmongBefore (texts l.headings) (NotesName l.line Rule7 (IsOvertaken (order_of l.dictionary l.group) (texts l.headings))) l.heading-index) l.fn.findings l.findings;
  latest : IsLatest (place_in (order_of l.dictionary l.group)) (texts l.headings) l.heading-index l.latest;
}
