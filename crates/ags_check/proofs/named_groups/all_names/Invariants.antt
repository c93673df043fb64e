use Rattle.std.proofs.Common.{◌≡◌, take, map}
use Rattle.ags_check.proofs.named_groups.all_names.Given as goal

abbrev pub invariant-loop-group : goal.invariant-loop-group
invariant-loop-group l = map (λ n. n.now) l.names.items ≡ map (λ g. g.name) (take l.group-index l.groups)
