use Rattle.ags_links.proofs.Kept.{texts}
use Rattle.ags_links.proofs.Parting.{TakesFirst}
use Rattle.ags_links.proofs.texts.distinct.Given as goal

abbrev pub invariant-loop-place : goal.invariant-loop-place
invariant-loop-place l = TakesFirst (texts l.listed) l.place (texts l.once.items)
