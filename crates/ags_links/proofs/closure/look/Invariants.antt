use Rattle.std.proofs.Common.{◌≡◌, ◌+◌, take}
use Rattle.ags_links.specs.Work.{Looked}
use Rattle.ags_links.proofs.closure.look.Given as goal

abbrev pub invariant-loop-target : goal.invariant-loop-target
invariant-loop-target l = record {
  looked : Looked (take l.target-index l.beside) l.fn.marks l.marks l.fn.work.items l.work.items;
  turns : l.turns ≡ l.fn.turns + l.target-index;
}
