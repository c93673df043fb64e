use Rattle.std.proofs.Common.{append_assoc, ◌∙◌}
use Rattle.std.proofs.lemmas.Result.{on_ok_weaker}
use Rattle.reg_store.proofs.rows.keep_group.Goals as goal

pub returns : goal.returns
returns c =
    on_ok_weaker c.keep_data.result (λ last. last
    ∙ rw (c.in_ok-keep_header.ensures, c.as_slice.ensures, c.as_slice-2.ensures) (append_assoc c.args.rows.now.items _ _)) c.keep_data.ensures
