use Rattle.std.proofs.Common.{rules, arith, IsTrue, sym, subst}
use Rattle.sqlite.specs.State.{HasCleanDisk}
use Rattle.sqlite.specs.Files.{file_state}
use Rattle.reg_tables.proofs.OpenLemmas.{found_schema, found_still}
use Rattle.reg_tables.proofs.open.create.SqlKeep+FileStore+FileFrom+F.create.Goals as goal

pub returns-in-Ok-make-clause-blank : goal.returns-in-Ok-make-clause-blank
returns-in-Ok-make-clause-blank g c clean =
    let was = c.in-Ok-connect.connection in
    let early : HasCleanDisk (file_state was) = omega (arith, c.in-Ok-make.ensures.made.clean) in
    found_schema (file_state was) (c.in-Ok-connect.ensures.opened early) (c.in-Ok-connect.ensures.found early) c.in-Ok-make.ensures.blank

pub returns-in-Ok-connect-clause-not_empty : goal.returns-in-Ok-connect-clause-not_empty
returns-in-Ok-connect-clause-not_empty g c named clean =
    let was = c.in-Ok-connect.connection in
    let early : HasCleanDisk (file_state was) = omega (arith, c.in-Err-make.ensures.left.clean) in
    found_schema (file_state was) (c.in-Ok-connect.ensures.opened early) (c.in-Ok-connect.ensures.found early) (c.in-Err-make.ensures.not_empty named)

pub returns-in-Ok-connect-clause-vacant : goal.returns-in-Ok-connect-clause-vacant
returns-in-Ok-connect-clause-vacant g c named clean =
    let was = c.in-Ok-connect.connection in
    let early : HasCleanDisk (file_state was) = omega (arith, c.in-Err-make.ensures.left.clean) in
    found_schema (file_state was) (c.in-Ok-connect.ensures.opened early) (c.in-Ok-connect.ensures.found early) (c.in-Err-make.ensures.vacant named)

pub returns-in-Ok-connect-clause-open : goal.returns-in-Ok-connect-clause-open
returns-in-Ok-connect-clause-open g c well clean =
    let was = c.in-Ok-connect.connection in
    let early : HasCleanDisk (file_state was) = omega (arith, c.in-Err-make.ensures.left.clean) in
    subst IsTrue (sym (c.in-Err-make.ensures.same well clean).0) (c.in-Ok-connect.ensures.opened early).0.is_open

pub returns-in-Ok-connect-clause-still : goal.returns-in-Ok-connect-clause-still
returns-in-Ok-connect-clause-still g c clean is_open =
    let was = c.in-Ok-connect.connection in
    let early : HasCleanDisk (file_state was) = omega (arith, c.in-Err-make.ensures.left.clean) in
    found_still (file_state was) (file_state c.in-Err-make.connection) (c.in-Ok-connect.ensures.opened early).0 (c.in-Ok-connect.ensures.found early) (c.in-Err-make.ensures.still clean is_open)

pub returns : goal.returns
returns g c = search rules
