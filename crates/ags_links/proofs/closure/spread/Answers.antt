use Rattle.std.proofs.Common.{◌≡◌, ◌∙◌, ◌++◌, length, take, drop, ap, subst, sym, arith}
use Rattle.ags_links.specs.Turns.{turns_of}
use Rattle.ags_links.specs.Walks.{AreReachedFrom}
use Rattle.ags_links.proofs.Growing.{written_back}
use Rattle.ags_links.proofs.closure.spread.Goals as goal
use Rattle.ags_links.proofs.closure.spread.Goals.{After-drop-beside-2}

-- the marks that are returned are those that the walk left
left : (c : After-drop-beside-2) → take c.in_ok-marks.marks.len (c.follow.new.marks ++ drop (length c.follow.new.marks) c.in_ok-marks.marks.items) ≡ c.follow.new.marks
left c =
    written_back c.in_ok-marks.marks.len c.follow.new.marks c.in_ok-marks.marks.items (omega (arith, c.in_ok-marks.marks.ok.0))
    (omega (arith, c.follow.auto.marks, ap length c.deref_mut.ensures.value))

pub returns-clause-rows : goal.returns-clause-rows
returns-clause-rows c = ap length (left c) ∙ c.follow.auto.marks ∙ ap length (c.deref_mut.ensures.value ∙ c.in_ok-marks.ensures.items)

pub returns-clause-marks : goal.returns-clause-marks
returns-clause-marks c =
    subst (AreReachedFrom c.args.steps.now c.args.from.now) (sym (left c))
    (subst (λ from. AreReachedFrom c.args.steps.now from c.follow.new.marks) (c.deref_mut.ensures.value ∙ c.in_ok-marks.ensures.items) c.in_ok-turns.ensures.marks)

pub returns-clause-turns : goal.returns-clause-turns
returns-clause-turns c = c.in_ok-turns.ensures.turns ∙ ap (λ marks. turns_of marks c.args.steps.now) (sym (left c))
