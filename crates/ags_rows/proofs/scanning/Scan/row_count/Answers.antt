use Rattle.std.proofs.Common.{◌≤◌, arith}
use Rattle.ags_rows.specs.declared.TheConstants.{READABLE}
use Rattle.ags_rows.specs.Groups.{row_count}
use Rattle.ags_rows.proofs.FewRows.{row_count_step}
use Rattle.ags_rows.proofs.scanning.Scan.row_count.Goals as goal

pub overflow_cast-count : goal.overflow_cast-count
overflow_cast-count c =
    let groups = c.as_slice-group-items.result.now in
    let all : row_count groups ≤ READABLE = rw c.as_slice-group-items.ensures c.self.invariant in
    omega (arith, all, row_count_step groups _ c.group-item.result c.loop-group-test.true c.group-item.is, c.len.ensures)

pub overflow_add-count : goal.overflow_add-count
overflow_add-count c =
    let groups = c.as_slice-group-items.result.now in
    let all : row_count groups ≤ READABLE = rw c.as_slice-group-items.ensures c.self.invariant in
    omega (arith, all, row_count_step groups _ c.group-item.result c.loop-group-test.true c.group-item.is, c.len.ensures, c.loop-group.invariant)
