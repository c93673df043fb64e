use Rattle.std.proofs.Common.{rules, arith, IsTrue, sym, subst}
use Rattle.sqlite.specs.State.{HasCleanDisk}
use Rattle.sqlite.specs.Files.{file_state}
use Rattle.reg_tables.proofs.OpenLemmas.{found_register, found_refused, found_still}
use Rattle.reg_tables.proofs.open.SqlKeep+FileStore+FileFrom+F.open.Goals as goal

pub returns-in-Ok-adopt-clause-adopted : goal.returns-in-Ok-adopt-clause-adopted
returns-in-Ok-adopt-clause-adopted g c clean =
    let was = c.in-Ok.connection in
    let early : HasCleanDisk (file_state was) = omega (arith, c.in-Ok-adopt.ensures.quiet.clean) in
    found_register (file_state was) (c.in-Ok.ensures.opened early).0 (c.in-Ok.ensures.found early) (c.in-Ok-adopt.ensures.adopted clean)

pub returns-in-Err-adopt-clause-refused : goal.returns-in-Err-adopt-clause-refused
returns-in-Err-adopt-clause-refused g c clean =
    let was = c.in-Ok.connection in
    let early : HasCleanDisk (file_state was) = omega (arith, c.in-Err-adopt.ensures.left.clean) in
    found_refused (file_state was) (c.in-Ok.ensures.opened early) (c.in-Ok.ensures.found early) (c.in-Err-adopt.ensures.refused clean)

pub returns-in-Err-adopt-clause-open : goal.returns-in-Err-adopt-clause-open
returns-in-Err-adopt-clause-open g c well clean =
    let was = c.in-Ok.connection in
    let early : HasCleanDisk (file_state was) = omega (arith, c.in-Err-adopt.ensures.left.clean) in
    subst IsTrue (sym (c.in-Err-adopt.ensures.same well clean).0) (c.in-Ok.ensures.opened early).0.is_open

pub returns-in-Err-adopt-clause-still : goal.returns-in-Err-adopt-clause-still
returns-in-Err-adopt-clause-still g c clean is_open =
    let was = c.in-Ok.connection in
    let early : HasCleanDisk (file_state was) = omega (arith, c.in-Err-adopt.ensures.left.clean) in
    found_still (file_state was) (file_state c.in-Err-adopt.connection) (c.in-Ok.ensures.opened early).0 (c.in-Ok.ensures.found early) (c.in-Err-adopt.ensures.still clean is_open)

pub returns-in-Err : goal.returns-in-Err
returns-in-Err g c = search rules
