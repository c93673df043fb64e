use Rattle.std.proofs.Common.{rules, refl, ◌≡◌, ◌+◌, length, arith}
use Rattle.std.proofs.lemmas.Result.{err_from_is_err_and}
use Rattle.ags_cli.proofs.Taking.{takes_start, takes_piece, takes_all, takes_part, takes_within, takes_nothing, takes_few, reads_fault, notes_call, notes_fault, notes_none, notes_kept, length-appended}
use Rattle.ags_cli.proofs.input.read_file.Goals as goal

pub loop-bytes-init : goal.loop-bytes-init
loop-bytes-init g c = record {
  within = omega (arith, c.new-bytes.ensures.len);
  wide = search rules;
  noted = refl;
  taken = takes_start _ _ c.new-bytes.ensures.items;
}

pub returns-in_err-count-clause-taken : goal.returns-in_err-count-clause-taken
returns-in_err-count-clause-taken g c =
    takes_within _ c.min-room.result _ _ _ _ c.loop-bytes.invariant.taken c.read_piece.ensures.taken (search rules)

pub returns-in_err-count-clause-file : goal.returns-in_err-count-clause-file
returns-in_err-count-clause-file g c =
    let p = err_from_is_err_and c.from_residual-in_err-count.result c.from_residual-in_err-count.ensures.1 in
    reads_fault _ _ p.0 _ p.1 p.2 c.in_err-count.ensures.fault

pub returns-in_err-count-clause-noted : goal.returns-in_err-count-clause-noted
returns-in_err-count-clause-noted g c =
    let p = err_from_is_err_and c.from_residual-in_err-count.result c.from_residual-in_err-count.ensures.1 in
    notes_fault _ _ _ _ p.0 _ p.1 p.2 c.in_err-count.ensures.noted c.loop-bytes.invariant.noted

pub returns-then-count-eq0-clause-taken : goal.returns-then-count-eq0-clause-taken
returns-then-count-eq0-clause-taken g c =
    takes_within _ c.min-room.result _ _ _ _ c.loop-bytes.invariant.taken c.read_piece.ensures.taken (search rules)

pub returns-then-count-eq0-clause-short : goal.returns-then-count-eq0-clause-short
returns-then-count-eq0-clause-short g c =
    let longer : length c.read_piece.new.bytes.items ≡ length c.loop-bytes.bytes.items + c.in_ok-count.count
    = length-appended _ _ _ _ _ c.in_ok-count.ensures.appended in
    omega (arith, longer)

pub returns-then-count-eq0-clause-noted : goal.returns-then-count-eq0-clause-noted
returns-then-count-eq0-clause-noted g c = notes_call _ _ _ _ c.in_ok-count.ensures.noted c.loop-bytes.invariant.noted

pub returns-then-count-eq0-clause-file : goal.returns-then-count-eq0-clause-file
returns-then-count-eq0-clause-file g c =
    takes_all _ _ _ (takes_piece _ _ _ _ _ _ c.loop-bytes.invariant.taken c.in_ok-count.ensures.appended)
    (c.in_ok-count.ensures.appended.at_end c.if-count-eq0.true)

pub loop-bytes-preserved : goal.loop-bytes-preserved
loop-bytes-preserved g c =
    let longer : length c.read_piece.new.bytes.items ≡ length c.loop-bytes.bytes.items + c.in_ok-count.count
    = length-appended _ _ _ _ _ c.in_ok-count.ensures.appended in
    record {
      within = search rules;
      wide = c.loop-bytes.invariant.wide;
      noted = notes_kept _ _ _ c.in_ok-count.ensures.noted c.loop-bytes.invariant.noted;
      taken = takes_piece _ _ _ _ _ _ c.loop-bytes.invariant.taken c.in_ok-count.ensures.appended;
    }

pub returns-clause-file : goal.returns-clause-file
returns-clause-file g c = takes_part _ _ _ _ c.loop-bytes.invariant.taken (omega arith)

pub returns-clause-taken : goal.returns-clause-taken
returns-clause-taken g c = takes_few _ _ _ _ c.loop-bytes.invariant.taken c.loop-bytes.invariant.within

pub returns-clause-noted : goal.returns-clause-noted
returns-clause-noted g c = notes_none _ _ c.loop-bytes.invariant.noted

pub returns-in_err-piece-clause-taken : goal.returns-in_err-piece-clause-taken
returns-in_err-piece-clause-taken g c = takes_nothing _ _
