use Rattle.std.proofs.Common.{rules, ◌≡◌, refl, ◌∷◌, []}
use Rattle.sqlite.specs.Held.{state}
use Rattle.reg_store.specs.Keep.{sent_of}
use Rattle.reg_tables.specs.Rows.{given_deposit}
use Rattle.reg_tables.proofs.QuietLaws.{clean_before, idle_then, quiet_then}
use Rattle.reg_tables.proofs.ExamineLemmas.{whole_tests, only_shown, tests_none, head_shown}
use Rattle.reg_tables.proofs.QueryLemmas.{passed_quiet}
use Rattle.reg_tables.proofs.open.deposits.whole_head.Goals as goal

pub kept_head-requires : goal.kept_head-requires
kept_head-requires g c = record { idle = idle_then _ _ c.requires.idle c.in_ok-rows.ensures.quiet }

pub returns-in-Ok-clause-tested : goal.returns-in-Ok-clause-tested
returns-in-Ok-clause-tested g c clean =
    let old = state g.S.Store c.args.conn.now in
    let mid = state g.S.Store c.read_numbered.new.conn in
    let early = clean_before mid (state g.S.Store c.kept_head.new.conn) c.kept_head.ensures.quiet.survives clean in
    let first = clean_before old mid c.in_ok-rows.ensures.quiet.survives early in
    let d = sent_of c.in-Ok.kept in
    let rows = c.in_ok-rows.rows.items in
    let read : rows ≡ given_deposit c.args.number d ∷ [] = c.in-Ok.ensures.read in
    whole_tests c.kept_head.result old.now mid.now c.args.dictionary.now c.args.number d rows c.args.digests.now
    (c.in_ok-rows.ensures.quiet.same early refl).0 (c.in_ok-rows.ensures.found early) read c.in-Ok.ensures.is_named c.requires.below (c.requires.digested first) (c.kept_head.ensures.tested clean)

pub returns-in-Ok-clause-head : goal.returns-in-Ok-clause-head
returns-in-Ok-clause-head g c clean =
    let mid = state g.S.Store c.read_numbered.new.conn in
    let early = clean_before mid (state g.S.Store c.kept_head.new.conn) c.kept_head.ensures.quiet.survives clean in
    let d = sent_of c.in-Ok.kept in
    let rows = c.in_ok-rows.rows.items in
    let read : rows ≡ given_deposit c.args.number d ∷ [] = c.in-Ok.ensures.read in
    head_shown c.kept_head.result (state g.S.Store c.args.conn.now).now c.args.dictionary.now c.args.number d rows (c.in_ok-rows.ensures.found early) read c.kept_head.ensures.head

pub returns-in-Ok-clause-quiet : goal.returns-in-Ok-clause-quiet
returns-in-Ok-clause-quiet g c = quiet_then _ _ _ _ c.requires.idle.idle c.in_ok-rows.ensures.quiet c.kept_head.ensures.quiet

pub returns-in-Err-Store-clause-tested : goal.returns-in-Err-Store-clause-tested
returns-in-Err-Store-clause-tested g c clean =
    let rows = c.in_ok-rows.rows.items in
    tests_none _ (λ w. c.in-Err-Store.ensures.other (search rules) w.deposit w.named (only_shown (state g.S.Store c.args.conn.now).now c.args.dictionary.now c.args.number rows (c.in_ok-rows.ensures.found clean) w))

pub returns-in-Err-Store-clause-quiet : goal.returns-in-Err-Store-clause-quiet
returns-in-Err-Store-clause-quiet g c = c.in_ok-rows.ensures.quiet

pub returns-in_err-rows-clause-quiet : goal.returns-in_err-rows-clause-quiet
returns-in_err-rows-clause-quiet g c = passed_quiet _ _ c.from_residual.result _ c.from_residual.ensures.1 c.in_err-rows.ensures.quiet
