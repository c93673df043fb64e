use Rattle.std.proofs.Common.{◌≡◌, [], All, Vec, ℕ, length}
use Rattle.std.specs.declared.alloc.Global.{Global}
use Rattle.ags_links.proofs.lists.empty_lists.Given as goal

abbrev pub invariant-loop : goal.invariant-loop
invariant-loop l = record {
  count : length l.lists.items ≡ l.counter;
  empty : All (λ (v : Vec ℕ Global). v.items ≡ []) l.lists.items;
}
