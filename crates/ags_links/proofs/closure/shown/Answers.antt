use Rattle.std.proofs.Common.{◌≡◌, ◌↔◌, length, map, not, List, Bool, ℕ, sym, ap, subst, ◌∙◌}
use Rattle.std.proofs.lemmas.List.{length-map}
use Rattle.ags_links.specs.Walks.{HasStep, IsMarked, IsReached}
use Rattle.ags_links.specs.Turns.{hidden_turns, turns_of}
use Rattle.ags_links.specs.Work.{swapped}
use Rattle.ags_links.proofs.Shows.{back_range, shown_iff, shown_turns}
use Rattle.ags_links.proofs.closure.shown.Goals as goal
use Rattle.ags_links.proofs.closure.shown.Goals.{After-deref-2, After-drop-back-2}

back_is : (c : After-deref-2) → c.deref.result.now ≡ map swapped c.args.graph.now.steps
back_is c = c.deref.ensures.value ∙ c.in_ok-back.ensures ∙ ap (map swapped) c.steps.ensures.steps

denied_is : (c : After-deref-2) → c.deref-2.result.now ≡ map not c.args.permitted.now
denied_is c = c.deref-2.ensures.value ∙ c.in_ok-denied.ensures

rows_are : (c : After-deref-2) → length c.deref-2.result.now ≡ c.args.graph.now.rows
rows_are c = ap length (denied_is c) ∙ length-map c.args.permitted.now not ∙ c.requires

pub spread-requires-clause-range : goal.spread-requires-clause-range
spread-requires-clause-range c = rw (back_is c, rows_are c) (back_range c.args.graph.now.rows c.args.graph.now.steps c.steps.ensures.in_range)

pub spread-requires-clause-rows : goal.spread-requires-clause-rows
spread-requires-clause-rows c = rw (rows_are c) c.steps.ensures.few

marks_are : (c : After-drop-back-2) → c.in_ok-marks.marks.items ≡ map not c.in_ok-hidden.hidden.items
marks_are c = c.in_ok-marks.ensures ∙ ap (map not) c.deref-3.ensures.value

pub returns-clause-marks : goal.returns-clause-marks
returns-clause-marks c =
    let d = (goal.at.returns-clause-marks c).After-deref-2 in
    let rows : length c.in_ok-hidden.hidden.items ≡ c.args.graph.now.rows = c.in_ok-hidden.ensures.rows ∙ rows_are d in
    let back : (s : ℕ) → IsMarked c.in_ok-hidden.hidden.items s ↔ IsReached (HasStep (map swapped c.args.graph.now.steps)) (IsMarked (map not c.args.permitted.now)) s =
    subst (λ (p : List (ℕ × ℕ) × List Bool). (s : ℕ) → IsMarked c.in_ok-hidden.hidden.items s ↔ IsReached (HasStep p.0) (IsMarked p.1) s) (ap (λ x. (x, c.deref-2.result.now)) (back_is d) ∙ ap (λ y. (map swapped c.args.graph.now.steps, y)) (denied_is d)) c.in_ok-hidden.ensures.marks in
    rw (marks_are c) (shown_iff c.args.graph.now.rows c.args.graph.now.steps c.args.permitted.now c.in_ok-hidden.hidden.items c.steps.ensures.in_range c.requires rows back)

pub returns-clause-turns : goal.returns-clause-turns
returns-clause-turns c =
    let d = (goal.at.returns-clause-turns c).After-deref-2 in
    c.in_ok-hidden.ensures.turns ∙ ap (turns_of c.in_ok-hidden.hidden.items) (back_is d) ∙ shown_turns c.in_ok-hidden.hidden.items c.args.graph.now.steps ∙ ap (λ ms. hidden_turns ms c.args.graph.now.steps) (sym (marks_are c))

pub returns-clause-rows : goal.returns-clause-rows
returns-clause-rows c =
    ap length (marks_are c) ∙ length-map c.in_ok-hidden.hidden.items not ∙ c.in_ok-hidden.ensures.rows ∙ rows_are (goal.at.returns-clause-rows c).After-deref-2
