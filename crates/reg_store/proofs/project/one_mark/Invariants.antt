use Rattle.std.proofs.Common.{◌≡◌, ◌↔◌, ◌<◌, ℕ, length}
use Rattle.ags_links.specs.Walks.{IsMarked}
use Rattle.reg_store.proofs.project.one_mark.Given as goal

abbrev pub invariant-loop-row : goal.invariant-loop-row
invariant-loop-row l = record {
  count : length l.marks.items ≡ l.row;
  one : (k : ℕ) → IsMarked l.marks.items k ↔ ((k < l.row) × (k ≡ l.number));
}
