use Rattle.std.proofs.Common.{◌≡◌, [], refl, sym, subst, rules}
use Rattle.reg_tables.specs.Private.Memory.{AreKnown}
use Rattle.reg_tables.proofs.RepeatsLemmas.{none_below}
use Rattle.reg_tables.proofs.memory.Memory.new.Goals as goal

pub returns-clause-agrees : goal.returns-clause-agrees
returns-clause-agrees c = λ dictionary.
    let none : c.new.result.items ≡ [] = search rules in
    record {
      known = subst (AreKnown dictionary []) (sym none) (record { long = refl; each = λ k d one there here. absurd cc });
      digests = λ k d at. absurd cc;
      below = none_below c.new-2.result 1 c.new-2.ensures;
    }
