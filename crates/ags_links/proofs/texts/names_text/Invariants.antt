use Rattle.std.proofs.Common.{◌≡◌, ◌++◌, take, flat_map}
use Rattle.ags_links.specs.KeyTexts.{ended_text}
use Rattle.ags_links.proofs.texts.names_text.Given as goal

abbrev pub invariant-loop-name : goal.invariant-loop-name
invariant-loop-name l = l.text.items ≡ ended_text l.first ++ flat_map (λ n. ended_text n.now) (take l.name-index l.others)
