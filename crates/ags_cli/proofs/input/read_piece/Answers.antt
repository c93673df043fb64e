use Rattle.std.proofs.Common.{rules, ◌≤◌, length}
use Rattle.std.proofs.lemmas.List.{take-append-le}
use Rattle.ags_cli.proofs.Taking.{takes_read, takes_failed, appends_read}
use Rattle.ags_cli.proofs.input.read_piece.Goals as goal

pub returns-clause-taken : goal.returns-clause-taken
returns-clause-taken g c = takes_read _ _ _ _ _ c.in_ok-count.ensures.bytes.0 (search rules)

pub returns-clause-appended : goal.returns-clause-appended
returns-clause-appended g c =
    let few : c.in_ok-count.count ≤ length c.read.new.buf = search rules in
    appends_read _ _ _ _ _ _ c.in_ok-count.ensures.bytes.0 (λ none. c.in_ok-count.ensures.bytes.1 none (search rules)) few
    (rw take-append-le at c.in_ok-extend_from_slice.ensures.items)

pub returns-in_err-count-clause-taken : goal.returns-in_err-count-clause-taken
returns-in_err-count-clause-taken g c = takes_failed _ _ _ c.in_err-count.ensures.bytes

pub returns-in_err-extend_from_slice-clause-taken : goal.returns-in_err-extend_from_slice-clause-taken
returns-in_err-extend_from_slice-clause-taken g c = takes_read _ _ _ _ _ c.in_ok-count.ensures.bytes.0 (search rules)
