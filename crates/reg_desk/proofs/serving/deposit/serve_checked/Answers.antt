use Rattle.std.proofs.Common.{◌∙◌, sym, ap, List, ℕ, Err, refl, arith}
use Rattle.reg_store.specs.Sent.{number_of}
use Rattle.reg_store.specs.Deposit.{Deposit, sents}
use Rattle.reg_desk.specs.Machine.{first_equal}
use Rattle.reg_desk.specs.Serving.{terms_at}
use Rattle.reg_desk.proofs.Taken.{none_number}
use Rattle.reg_desk.proofs.Serves.{refused_serves, still_works}
use Rattle.reg_desk.proofs.Taking.{fine_of, fine_asks, first_of, deposit_repeats, is_taken, deposit_full, deposit_added, deposit_unadded}
use Rattle.reg_desk.proofs.serving.deposit.serve_checked.Goals as goal

pub returns-in-Err : goal.returns-in-Err
returns-in-Err g c = λ rules day number permit.
    let K = g.K.Keep in
    let keep = c.args.keep.now in
    let bytes = c.args.checked.now.bytes in
    let fine = fine_of (terms_at K rules keep) c.args.caller.now c.args.project.now bytes day c.args.checked.now.given number permit c.requires.short c.requires.dictionary c.bytes.ensures.clean.file.findings in
    rw c.refused.ensures
    (refused_serves K rules _ keep c.held_already.new.keep c.in-Err.error c.in-Err.ensures.reads (λ e. c.in-Err.ensures.refused (ap (λ x. Err x) e))
    (fine_asks K rules c.args.caller.now c.args.project.now c.args.embargo bytes day keep fine))

pub returns-in-Ok-Some : goal.returns-in-Ok-Some
returns-in-Ok-Some g c = λ rules day number permit.
    let K = g.K.Keep in
    let keep = c.args.keep.now in
    let bytes = c.args.checked.now.bytes in
    let fine = fine_of (terms_at K rules keep) c.args.caller.now c.args.project.now bytes day c.args.checked.now.given number permit c.requires.short c.requires.dictionary c.bytes.ensures.clean.file.findings in
    let held = rw c.in-Ok-Some.field-0-is at c.in-Ok-Some.ensures.held in
    rw c.receipt.ensures.held
    (deposit_repeats K rules c.args.caller.now c.args.project.now c.args.embargo bytes day keep c.held_already.new.keep c.in-Ok-Some.number c.in-Ok-Some.until fine c.in-Ok-Some.ensures.reads
    (λ s. first_of c.args.caller.now.firm c.args.project.now bytes c.bytes.result.now
    (sents (K.deposits keep)) _ c.bytes.ensures.bytes (held s)))

pub add-requires-clause-working : goal.add-requires-clause-working
add-requires-clause-working g c = still_works g.K.Keep c.args.keep.now c.held_already.new.keep c.in-Ok-None.ensures.reads

pub add-requires-clause-dictionary : goal.add-requires-clause-dictionary
add-requires-clause-dictionary g c = c.requires.dictionary ∙ sym c.in-Ok-None.ensures.reads.same_dictionary

pub add-requires-clause-fresh : goal.add-requires-clause-fresh
add-requires-clause-fresh g c = λ s.
    let state = sents (g.K.Keep.deposits c.args.keep.now) in
    let held = rw c.in-Ok-None.field-0-is at c.in-Ok-None.ensures.held in
    ap (λ (l : List Deposit). number_of c.args.caller.now.firm c.args.project.now c.args.checked.now.bytes (sents l))
    (c.in-Ok-None.ensures.reads.same s refl)
    ∙ ap (λ (b : List ℕ). number_of c.args.caller.now.firm c.args.project.now b state) (sym c.bytes.ensures.bytes)
    ∙ none_number c.args.caller.now.firm c.args.project.now c.bytes.result.now 1 state (sym {b = first_equal 1 c.args.caller.now.firm c.args.project.now c.bytes.result.now state} (held s))

pub returns-then-count-limit : goal.returns-then-count-limit
returns-then-count-limit g c = λ rules day number permit.
    let K = g.K.Keep in
    let keep = c.args.keep.now in
    let mid = c.held_already.new.keep in
    let bytes = c.args.checked.now.bytes in
    let held = rw c.in-Ok-None.field-0-is at c.in-Ok-None.ensures.held in
    let works = still_works K keep mid c.in-Ok-None.ensures.reads in
    deposit_full K rules c.args.caller.now c.args.project.now c.args.embargo bytes day keep mid
    (fine_of (terms_at K rules keep) c.args.caller.now c.args.project.now bytes day c.args.checked.now.given number permit c.requires.short c.requires.dictionary c.bytes.ensures.clean.file.findings)
    c.in-Ok-None.ensures.reads
    (λ s. first_of c.args.caller.now.firm c.args.project.now bytes c.bytes.result.now
    (sents (K.deposits keep)) _ c.bytes.ensures.bytes (held s))
    (λ s. omega (arith, c.count.ensures s works, c.limit.ensures))

pub returns-in-Err-add : goal.returns-in-Err-add
returns-in-Err-add g c = λ rules day number permit.
    let K = g.K.Keep in
    let keep = c.args.keep.now in
    let bytes = c.args.checked.now.bytes in
    let fine = fine_of (terms_at K rules keep) c.args.caller.now c.args.project.now bytes day c.args.checked.now.given number permit c.requires.short c.requires.dictionary c.bytes.ensures.clean.file.findings in
    let held = rw c.in-Ok-None.field-0-is at c.in-Ok-None.ensures.held in
    rw c.refused-in-Err-add.ensures
    (deposit_unadded K rules c.args.caller.now c.args.project.now c.args.embargo bytes day keep c.held_already.new.keep c.add.new.self c.in-Err-add.error fine
    c.in-Ok-None.ensures.reads
    (is_taken K rules c.args.caller.now c.args.project.now bytes day keep c.held_already.new.keep fine c.in-Ok-None.ensures.reads
    (λ s. first_of c.args.caller.now.firm c.args.project.now bytes c.bytes.result.now
    (sents (K.deposits keep)) _ c.bytes.ensures.bytes (held s))
    (λ s. omega (arith, c.count.ensures s (still_works K keep c.held_already.new.keep c.in-Ok-None.ensures.reads), c.limit.ensures)))
    c.in-Err-add.ensures.leaves (λ s e. c.in-Err-add.ensures.full s (ap (λ x. Err x) e)))

pub returns-in-Ok : goal.returns-in-Ok
returns-in-Ok g c = λ rules day number permit.
    let K = g.K.Keep in
    let keep = c.args.keep.now in
    let bytes = c.args.checked.now.bytes in
    let fine = fine_of (terms_at K rules keep) c.args.caller.now c.args.project.now bytes day c.args.checked.now.given number permit c.requires.short c.requires.dictionary c.bytes.ensures.clean.file.findings in
    let held = rw c.in-Ok-None.field-0-is at c.in-Ok-None.ensures.held in
    rw (c.receipt-in-Ok.ensures.new refl)
    (deposit_added K rules c.args.caller.now c.args.project.now c.args.embargo bytes day keep c.held_already.new.keep c.add.new.self c.in-Ok.number fine
    c.in-Ok-None.ensures.reads
    (is_taken K rules c.args.caller.now c.args.project.now bytes day keep c.held_already.new.keep fine c.in-Ok-None.ensures.reads
    (λ s. first_of c.args.caller.now.firm c.args.project.now bytes c.bytes.result.now
    (sents (K.deposits keep)) _ c.bytes.ensures.bytes (held s))
    (λ s. omega (arith, c.count.ensures s (still_works K keep c.held_already.new.keep c.in-Ok-None.ensures.reads), c.limit.ensures)))
    c.in-Ok.ensures.leaves c.in-Ok.ensures.number)
