use Rattle.std.proofs.Common.{◌≡◌, ◌<◌, ◌≤◌, ◌+◌, ◌++◌, ◌∷◌, length, sym, ap, subst, arith, ◌∙◌, [], All}
use Rattle.std.proofs.lemmas.List.{nil_from_length}
use Rattle.std.proofs.lemmas.List.Elements.{Contains-push}
use Rattle.ags_links.specs.Work.{targets, Looked}
use Rattle.ags_links.proofs.Marks.{marked_below}
use Rattle.ags_links.proofs.Members.{targets_below}
use Rattle.ags_links.proofs.Follows.{Following, follow_more, follow_ends, follow_turns, follow_falls, follow_fits}
use Rattle.ags_links.proofs.closure.follow.Goals as goal
use Rattle.ags_links.proofs.closure.follow.Goals.{In-Some, In_default, After-turns-1}

-- what is kept, with the row that was taken at the end
taken : (c : In-Some) → Following c.args.steps.now c.args.marks.now c.loop-row.marks (c.pop.new.self.items ++ c.in-Some.row ∷ []) c.loop-row.turns
taken c = subst (λ work. Following c.args.steps.now c.args.marks.now c.loop-row.marks work c.loop-row.turns) c.in-Some.ensures.items c.loop-row.invariant

row_below : (c : In-Some) → c.in-Some.row < length c.args.beside.now
row_below c = omega (arith, marked_below c.loop-row.marks c.in-Some.row ((taken c).marked c.in-Some.row (Contains-push c.pop.new.self.items c.in-Some.row)), c.loop-row.auto.marks, c.requires.length)

fits : (c : In-Some) → c.loop-row.turns + 1 + length (targets c.args.steps.now c.in-Some.row) ≤ length c.loop-row.marks + length c.args.steps.now
fits c = follow_fits c.args.steps.now c.args.marks.now c.loop-row.marks c.pop.new.self.items c.loop-row.turns c.in-Some.row (taken c)

-- what is beside the row
beside_row : (c : After-turns-1) → c.deref.result.now ≡ targets c.args.steps.now c.in-Some.row
beside_row c = c.deref.ensures.value ∙ ap (λ v. v.items) c.index-beside-row.is ∙ c.requires.beside c.in-Some.row c.index-beside-row.result (row_below (goal.at.look-requires-clause-rows c).In-Some)

pub overflow_add-turns : goal.overflow_add-turns
overflow_add-turns c = omega (arith, fits c, c.loop-row.auto.marks, c.requires.rows)

pub bounds-beside-row : goal.bounds-beside-row
bounds-beside-row c = row_below c

pub look-requires-clause-rows : goal.look-requires-clause-rows
look-requires-clause-rows c = rw (beside_row c) (subst (λ n. All (λ s. s < n) (targets c.args.steps.now c.in-Some.row)) (sym c.loop-row.auto.marks) (targets_below (length c.args.marks.now) c.args.steps.now c.in-Some.row c.requires.range))

pub look-requires-clause-room : goal.look-requires-clause-room
look-requires-clause-room c = rw (beside_row c) (omega (arith, fits (goal.at.look-requires-clause-rows c).In-Some, c.loop-row.auto.marks, c.requires.rows))

pub loop-row-smaller : goal.loop-row-smaller
loop-row-smaller c =
    let split : length c.loop-row.work.items ≡ length (c.pop.new.self.items ++ c.in-Some.row ∷ []) = ap length c.in-Some.ensures.items in
    let falls = follow_falls c.deref.result.now c.loop-row.marks c.look.new.marks c.pop.new.self.items c.look.new.work.items c.in-Some.row c.look.auto.marks c.in_ok-look.ensures.looked in
    omega (arith, split, falls)

pub loop-row-preserved : goal.loop-row-preserved
loop-row-preserved c =
    let is = beside_row (goal.at.loop-row-preserved c).After-turns-1 in
    let looked : Looked (targets c.args.steps.now c.in-Some.row) c.loop-row.marks c.look.new.marks c.pop.new.self.items c.look.new.work.items = subst (λ ts. Looked ts c.loop-row.marks c.look.new.marks c.pop.new.self.items c.look.new.work.items) is c.in_ok-look.ensures.looked in
    let turns : c.look.new.turns ≡ c.loop-row.turns + 1 + length (targets c.args.steps.now c.in-Some.row) = c.in_ok-look.ensures.turns ∙ ap (λ ts. c.loop-row.turns + 1 + length ts) is in
    subst (λ n. Following c.args.steps.now c.args.marks.now c.look.new.marks c.look.new.work.items n) (sym turns)
    (follow_more c.args.steps.now c.args.marks.now c.loop-row.marks c.pop.new.self.items c.loop-row.turns c.in-Some.row c.look.new.marks c.look.new.work.items (taken (goal.at.loop-row-preserved c).In-Some) looked)

-- nothing waits
done : (c : In_default) → Following c.args.steps.now c.args.marks.now c.loop-row.marks [] c.loop-row.turns
done c = subst (λ work. Following c.args.steps.now c.args.marks.now c.loop-row.marks work c.loop-row.turns) (nil_from_length c.loop-row.work.items (omega (arith, c.loop-row.work.ok.0, c.in_default.ensures.cases.0))) c.loop-row.invariant

pub returns-clause-marks : goal.returns-clause-marks
returns-clause-marks c = follow_ends c.args.steps.now c.args.marks.now c.loop-row.marks c.loop-row.turns (done c)

pub returns-clause-turns : goal.returns-clause-turns
returns-clause-turns c = follow_turns c.args.steps.now c.args.marks.now c.loop-row.marks c.loop-row.turns (done c)
