use Rattle.std.proofs.Common.{◌≡◌, map, take}
use Rattle.ags_dict.proofs.dictionary.Dictionary.order.Given as goal

abbrev pub invariant-loop-entry : goal.invariant-loop-entry
invariant-loop-entry l = map (λ h. h.now) l.order.items ≡ map (λ e. e.heading) (take l.entry-index (map (λ e. e.now) l.entry-items))
