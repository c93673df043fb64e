use Rattle.std.proofs.Common.{rules, arith, IsTrue, sym, subst}
use Rattle.sqlite.specs.State.{HasCleanDisk}
use Rattle.sqlite.specs.Files.{file_state}
use Rattle.reg_tables.proofs.MigrateLemmas.{found_first}
use Rattle.reg_tables.proofs.OpenLemmas.{found_refused, found_still}
use Rattle.reg_tables.proofs.open.migrate.SqlKeep+FileStore+FileFrom+F.migrate.Goals as goal

pub returns-in-Ok-migrate_in-clause-migrated : goal.returns-in-Ok-migrate_in-clause-migrated
returns-in-Ok-migrate_in-clause-migrated g c clean =
    let was = c.in-Ok.connection in
    let early : HasCleanDisk (file_state was) = omega (arith, c.in-Ok-migrate_in.ensures.made.clean) in
    found_first (file_state was) (c.in-Ok.ensures.opened early).0 (c.in-Ok.ensures.found early) (c.in-Ok-migrate_in.ensures.migrated clean)

pub returns-in-Err-migrate_in-clause-refused : goal.returns-in-Err-migrate_in-clause-refused
returns-in-Err-migrate_in-clause-refused g c clean =
    let was = c.in-Ok.connection in
    let early : HasCleanDisk (file_state was) = omega (arith, c.in-Err-migrate_in.ensures.left.clean) in
    found_refused (file_state was) (c.in-Ok.ensures.opened early) (c.in-Ok.ensures.found early) (c.in-Err-migrate_in.ensures.refused clean)

pub returns-in-Err-migrate_in-clause-open : goal.returns-in-Err-migrate_in-clause-open
returns-in-Err-migrate_in-clause-open g c well clean =
    let was = c.in-Ok.connection in
    let early : HasCleanDisk (file_state was) = omega (arith, c.in-Err-migrate_in.ensures.left.clean) in
    subst IsTrue (sym (c.in-Err-migrate_in.ensures.same well clean).0) (c.in-Ok.ensures.opened early).0.is_open

pub returns-in-Err-migrate_in-clause-still : goal.returns-in-Err-migrate_in-clause-still
returns-in-Err-migrate_in-clause-still g c clean is_open =
    let was = c.in-Ok.connection in
    let early : HasCleanDisk (file_state was) = omega (arith, c.in-Err-migrate_in.ensures.left.clean) in
    found_still (file_state was) (file_state c.in-Err-migrate_in.connection) (c.in-Ok.ensures.opened early).0 (c.in-Ok.ensures.found early) (c.in-Err-migrate_in.ensures.still clean is_open)

pub returns-in-Err : goal.returns-in-Err
returns-in-Err g c = search rules
