use Rattle.std.proofs.Common.{ℕ, List}
use Rattle.std.specs.Prelude.{◌↔◌}
use Rattle.ags_rows.specs.declared.code.Code.TheVariants.{Rule19a, P2}
use Rattle.ags_text.specs.Names.{is_heading_name}
use Rattle.ags_rows.specs.Collecting.{Adds, AmongBefore}
use Rattle.ags_rows.specs.Stands.{IsRepeat}
use Rattle.ags_rows.specs.Parsing.{IsMet}
use Rattle.ags_rows.proofs.Repeats.{StandsInName}
use Rattle.ags_rows.proofs.checking.note_headings.Given as goal

abbrev pub invariant-loop-heading : goal.invariant-loop-heading
invariant-loop-heading l = record {
  met : (q : List ℕ) → IsMet l.met q ↔ IsRepeat l.heading-items l.heading-index q;
  noted : Adds (AmongBefore l.heading-items (StandsInName l.group.heading_line Rule19a P2 is_heading_name l.heading-items) l.heading-index) l.fn.findings l.findings;
}
