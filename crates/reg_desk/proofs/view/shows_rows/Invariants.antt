use Rattle.std.proofs.Common.{All, take, true}
use Rattle.reg_desk.specs.View.{HeadedMayBeSeen}
use Rattle.reg_desk.proofs.view.shows_rows.Given as goal

abbrev pub invariant-loop-row : goal.invariant-loop-row
invariant-loop-row l = All (λ h. HeadedMayBeSeen l.look h true) (take l.row-index l.rows)
