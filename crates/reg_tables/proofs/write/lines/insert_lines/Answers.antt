use Rattle.std.proofs.Common.{arith, ◌≡◌, ◌≤◌, ◌+◌, ◌*◌, ◌/◌, ◌∙◌, length}
use Rattle.std.proofs.lemmas.Result.{on_ok_weaker}
use Rattle.sqlite.specs.Held.{state}
use Rattle.sqlite.proofs.StateLemmas.{survives_then}
use Rattle.reg_tables.proofs.AddsLemmas.{kept_then, lines_further, lines_rest}
use Rattle.reg_tables.proofs.write.lines.insert_lines.Goals as goal

pub loop-part-preserved : goal.loop-part-preserved
loop-part-preserved g c =
    let first = state g.S.Store c.args.tx.now.conn.now in
    let was = state g.S.Store c.loop-part.tx.conn.now in
    let now = state g.S.Store c.insert_eight_lines.new.tx.conn.now in
    let at = c.loop-part.part * 8 in
    let further : (c.loop-part.part + 1) * 8 ≡ at + 8 = omega arith in
    let kept = c.loop-part.invariant in (
      c.insert_eight_lines.ensures.same_reference ∙ kept.0,
      survives_then first was now _ _ (λ _. ⊥) (λ _ db none. none) (λ _ db none. none) kept.1 c.insert_eight_lines.ensures.survives,
      λ clean. kept_then first was now (kept.2 (omega (arith, c.insert_eight_lines.ensures.survives.clean))) (c.insert_eight_lines.ensures.kept clean),
      λ clean. rw further (lines_further c.args.number at 8 _ c.args.rows.now first was now (omega (arith, c.loop-part-test.true)) (omega arith)
          (kept.3 (omega (arith, c.insert_eight_lines.ensures.survives.clean))) (c.in_ok-insert_eight_lines.ensures.put clean)),
    )

pub returns-clause-put : goal.returns-clause-put
returns-clause-put g c clean =
    let first = state g.S.Store c.args.tx.now.conn.now in
    let was = state g.S.Store c.loop-part.tx.conn.now in
    let now = state g.S.Store c.insert_each_line.new.tx.conn.now in
    let rows = c.args.rows.now in
    let at = length rows / 8 * 8 in
    let low : at ≤ length rows = omega arith in
    let reached : c.loop-part.part * 8 ≡ at = omega (arith, c.loop-part-test.false) in
    let before = c.loop-part.invariant.3 (omega (arith, c.insert_each_line.ensures.survives.clean)) in
    on_ok_weaker c.insert_each_line.result (lines_rest c.args.number at _ rows first was now low (omega arith) (rw reached at before)) (c.insert_each_line.ensures.put clean)
