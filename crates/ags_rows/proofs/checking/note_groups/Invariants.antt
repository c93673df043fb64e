use Rattle.std.proofs.Common.{ℕ, List, map}
use Rattle.std.specs.Prelude.{◌↔◌}
use Rattle.ags_rows.specs.Collecting.{Adds, AmongBefore, OneOf}
use Rattle.ags_rows.specs.Stands.{IsRepeat, group_rules}
use Rattle.ags_rows.specs.Parsing.{IsMet}
use Rattle.ags_rows.proofs.checking.note_groups.Given as goal

abbrev pub invariant-loop-group : goal.invariant-loop-group
invariant-loop-group l = record {
  met : (q : List ℕ) → IsMet l.met q ↔ IsRepeat (map (λ g. g.name) l.groups) l.group-index q;
  noted : Adds (AmongBefore l.groups (λ place group. OneOf (group_rules (map (λ g. g.name) l.groups) place group)) l.group-index) l.fn.findings l.findings;
}
