use Rattle.std.proofs.Common.{◌≡◌, ◌<◌, ◌≤◌, ◌-◌, length, take, drop}
use Rattle.ags_text.specs.Bytes.{Lacks}
use Rattle.ags_rows.specs.Parsing.{inner_at, in_front}
use Rattle.ags_rows.proofs.spelling.read_quoted.Given as goal

abbrev pub invariant-loop-next : goal.invariant-loop-next
invariant-loop-next l = record {
  within : l.from ≤ length l.text;
  so_far : in_front (take l.from l.text) (inner_at (drop l.from l.text)) ≡ inner_at l.text;
  quoted : 0 < l.from → Lacks 34 (take l.from l.text) → ⊥;
}

abbrev pub decreases-loop-next : goal.decreases-loop-next
decreases-loop-next l = length l.text - l.from
