use Rattle.std.proofs.Common.{rules, arith, ◌≡◌, sym, subst}
use Rattle.sqlite.specs.State.{HasCleanDisk, Survives}
use Rattle.sqlite.specs.Held.{state}
use Rattle.sqlite.proofs.Callers.{survives_begin}
use Rattle.reg_tables.specs.Private.Commits.{Makes}
use Rattle.reg_tables.specs.Private.KeepLaws.{ChangesOf}
use Rattle.reg_tables.proofs.AddsLemmas.{change_left}
use Rattle.reg_tables.proofs.write.change.commit.Given.{Over}
use Rattle.reg_tables.proofs.write.change.commit.Goals.{After-commit}
use Rattle.reg_tables.proofs.write.change.commit.Goals as goal

pub returns-clause-made : goal.returns-clause-made
returns-clause-made g c clean =
    let end = c.commit.new.self.0 in
    let same : end ≡ c.conn-2-1.given.0 = search rules in
    let late : HasCleanDisk (state g.S.Store end) = search rules in
    let early : HasCleanDisk (state g.S.Store c.make.new.tx.conn.now) = omega (arith, c.commit.ensures.survives.clean) in
    let P = Makes (g.C.Change.makes c.args.change.now) (state g.S.Store c.args.conn.now).now in
    let made = rw c.transaction-tx.ensures.begun at (c.in_ok-make.ensures.made early).change in
    subst (λ h. P (state g.S.Store h).now) same (subst P (sym (c.in_ok-commit.ensures.ok late).1.now_is) made)

-- what a crash may leave once the commit was tried
left : (g : Over) (c : After-commit g) → Survives (state g.S.Store c.args.conn.now) (state g.S.Store c.commit.new.self.0)
    (ChangesOf (g.C.Change.makes c.args.change.now) (state g.S.Store c.args.conn.now))
left g c =
    let last = state g.S.Store c.make.new.tx.conn.now in
    let begun = c.transaction-tx.ensures.begun in
    let inside = survives_begin g.S.Store c.args.conn.now last _ (rw begun at c.make.ensures.survives) in
    let made = λ (clean : HasCleanDisk last). rw begun at (c.in_ok-make.ensures.made clean).change in
    change_left (g.C.Change.makes c.args.change.now) _ last _ inside made c.commit.ensures.survives

pub returns-clause-crash : goal.returns-clause-crash
returns-clause-crash g c =
    let same : c.commit.new.self.0 ≡ c.conn-2-1.given.0 = search rules in
    rw same at (left g (goal.at.returns-clause-crash g c).After-commit)

pub returns-in_err-commit-clause-crash : goal.returns-in_err-commit-clause-crash
returns-in_err-commit-clause-crash g c =
    let same : c.commit.new.self.0 ≡ c.conn-2-1.given.0 = search rules in
    rw same at (left g (goal.at.returns-in_err-commit-clause-crash g c).After-commit)
