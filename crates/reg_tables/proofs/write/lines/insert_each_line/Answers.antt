use Rattle.std.proofs.Common.{rules, arith, ◌∙◌}
use Rattle.sqlite.specs.Held.{state}
use Rattle.sqlite.proofs.StateLemmas.{survives_then}
use Rattle.reg_tables.proofs.AddsLemmas.{kept_then, lines_more}
use Rattle.reg_tables.proofs.write.lines.insert_each_line.Goals as goal

pub loop-i-preserved : goal.loop-i-preserved
loop-i-preserved g c =
    let first = state g.S.Store c.args.tx.now.conn.now in
    let was = state g.S.Store c.loop-i.tx.conn.now in
    let now = state g.S.Store c.insert_line.new.tx.conn.now in
    let kept = c.loop-i.invariant in (
      c.insert_line.ensures.same_reference ∙ kept.0,
      survives_then first was now _ _ (λ _. ⊥) (λ _ db none. none) (λ _ db none. none) kept.1 c.insert_line.ensures.survives,
      λ clean. kept_then first was now (kept.2 (omega (arith, c.insert_line.ensures.survives.clean))) (c.insert_line.ensures.kept clean),
      λ clean. lines_more c.args.number c.args.from c.loop-i.i c.args.rows.now c.index-rows-i.result first was now (search rules) (search rules)
          (kept.3 (omega (arith, c.insert_line.ensures.survives.clean))) (c.in_ok-insert_line.ensures.put clean),
    )

pub insert_line-requires-clause-inside : goal.insert_line-requires-clause-inside
insert_line-requires-clause-inside g c clean = (c.loop-i.invariant.3 clean).goes_on

pub returns-in_err-insert_line-clause-same_reference : goal.returns-in_err-insert_line-clause-same_reference
returns-in_err-insert_line-clause-same_reference g c = c.insert_line.ensures.same_reference ∙ c.loop-i.invariant.0

pub returns-in_err-insert_line-clause-kept : goal.returns-in_err-insert_line-clause-kept
returns-in_err-insert_line-clause-kept g c clean =
    kept_then (state g.S.Store c.args.tx.now.conn.now) (state g.S.Store c.loop-i.tx.conn.now) (state g.S.Store c.insert_line.new.tx.conn.now) (c.loop-i.invariant.2 (omega (arith, c.insert_line.ensures.survives.clean))) (c.insert_line.ensures.kept clean)

pub returns-in_err-insert_line-clause-survives : goal.returns-in_err-insert_line-clause-survives
returns-in_err-insert_line-clause-survives g c =
    survives_then (state g.S.Store c.args.tx.now.conn.now) (state g.S.Store c.loop-i.tx.conn.now) (state g.S.Store c.insert_line.new.tx.conn.now) _ _ (λ _. ⊥) (λ _ db none. none) (λ _ db none. none) c.loop-i.invariant.1 c.insert_line.ensures.survives

pub returns-clause-kept : goal.returns-clause-kept
returns-clause-kept g c = c.loop-i.invariant.2

pub returns-clause-survives : goal.returns-clause-survives
returns-clause-survives g c = c.loop-i.invariant.1
