use Rattle.reg_desk.proofs.Taken.{none_held}
use Rattle.std.proofs.Common.{rules, ◌∙◌, sym, ap, subst, refl, ◌-◌, List, length, ◌<◌, ◌≤◌}
use Rattle.std.specs.Prelude.{slice_get}
use Rattle.reg_store.specs.Deposit.{Deposit}
use Rattle.reg_desk.proofs.Taking.{first_found, found_within}
use Rattle.reg_desk.proofs.serving.deposit.held_already.Goals as goal

pub head-requires-clause-number : goal.head-requires-clause-number
head-requires-clause-number g c = λ s.
    let found = c.in_ok-find.ensures in
    subst (λ (l : List Deposit). (0 < c.in-Some.number) × (c.in-Some.number ≤ length l))
    (sym (found.leaves.same s refl))
    (found_within c.args.firm.now c.args.project.now c.args.bytes.now (g.K.Keep.deposits c.args.keep.now) c.in-Some.number (sym (found.found s) ∙ c.in-Some.is))

pub returns-in_ok-head-in-Some-clause-held : goal.returns-in_ok-head-in-Some-clause-held
returns-in_ok-head-in-Some-clause-held g c = λ s.
    let found = c.in_ok-find.ensures in
    let s1 = c.in_ok-head-in-Some.ensures.leaves.sound s in
    sym (first_found c.args.firm.now c.args.project.now c.args.bytes.now (g.K.Keep.deposits c.args.keep.now) c.in-Some.number c.in_ok-head-in-Some.head (sym (found.found s1) ∙ c.in-Some.is)
    (λ d at. c.in_ok-head-in-Some.ensures.read s d
    (ap (λ (l : List Deposit). slice_get l (c.in-Some.number - 1)) (found.leaves.same s1 refl) ∙ at)))

pub returns-in-None-clause-held : goal.returns-in-None-clause-held
returns-in-None-clause-held g c = search (rules, none_held)
