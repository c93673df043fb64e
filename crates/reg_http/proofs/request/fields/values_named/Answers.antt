use Rattle.std.proofs.Common.{◌∙◌, sym}
use Rattle.reg_http.proofs.FieldLemmas.{AreValues-same, AreValues-other}
use Rattle.reg_http.proofs.request.fields.values_named.Goals.{then-is_same_name, else-is_same_name}
use Rattle.reg_http.proofs.request.fields.values_named.Goals as goal

pub loop-header-preserved : goal.loop-header-preserved
loop-header-preserved c =
    elim c.if-is_same_name.branch [
      | then-is_same_name w ↦
          rw w.found-is (AreValues-same _ _ _ w.of-then-is_same_name.result.now c.args.headers.now c.loop-header.header-index _ _ c.loop-header-test.true
          c.of.ensures w.of-then-is_same_name.ensures (sym c.is_same_name.ensures ∙ w.if-is_same_name.true)
          (w.and-found.ensures _ c.loop-header.invariant))
      | else-is_same_name w ↦
          rw w.found-is (AreValues-other _ _ _ c.args.headers.now c.loop-header.header-index _ _ c.loop-header-test.true
          c.of.ensures (sym c.is_same_name.ensures ∙ w.if-is_same_name.false) c.loop-header.invariant)
    ]
