use Rattle.std.proofs.Common.{◌∙◌, append_assoc}
use Rattle.std.proofs.lemmas.Result.{on_ok_weaker}
use Rattle.reg_store.proofs.rows.keep_header.Goals as goal

pub returns : goal.returns
returns c =
    on_ok_weaker c.keep_row-4.result (λ last. last
    ∙ rw (c.in_ok-keep_row-3.ensures, c.in_ok-keep_row-2.ensures, c.in_ok-keep_row.ensures, c.from_ref.ensures.value, c.as_slice-name.ensures, c.as_slice.ensures, c.as_slice-2.ensures, c.as_slice-3.ensures) (simp append_assoc)) c.keep_row-4.ensures
