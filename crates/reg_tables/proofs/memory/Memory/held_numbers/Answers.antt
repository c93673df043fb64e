use Rattle.std.proofs.Common.{◌++◌, ◌+◌, ◌≤◌, ◌∙◌, List, append-nil, ap, length, map, subst, sym}
use Rattle.std.proofs.lemmas.List.{drop_all}
use Rattle.reg_store.specs.Sent.{numbers_from}
use Rattle.reg_tables.specs.declared.memory.Known.{Known}
use Rattle.reg_tables.proofs.Known.{bare_of}
use Rattle.reg_tables.proofs.MemoryLemmas.{numbers_held}
use Rattle.reg_tables.proofs.memory.Memory.held_numbers.Goals as goal

pub returns : goal.returns
returns c = λ dictionary list agrees.
    let known = c.args.self.now.known.items in
    let project = c.args.project.now in
    let found = c.loop-one.numbers.items in
    sym (append-nil found) ∙ ap (λ rest. found ++ numbers_from (c.loop-one.number + 1) project (map bare_of rest)) (sym (drop_all c.loop-one.one-index known (subst (λ (all : List Known). length all ≤ c.loop-one.one-index) c.deref-one-items.ensures.value c.loop-one-test.false)))
    ∙ c.loop-one.invariant.rest ∙ numbers_held 1 project dictionary list known agrees.known
