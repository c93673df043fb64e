use Rattle.ags_rows.proofs.Mini.{mini_formed, mini_written, mini_clear, mini_groups}
use Rattle.ags_rows.proofs.laws.mini_is_written.Goals as goal

pub returns : goal.returns
returns c = (mini_formed, mini_written, mini_clear, mini_groups)
