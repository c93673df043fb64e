use Rattle.std.proofs.Common.{rules}
use Rattle.sqlite.proofs.Callers.{memory_is_clean}
use Rattle.reg_tables.proofs.open.create.SqlKeep+MemStore.in_memory.Goals as goal

pub returns-in-Ok-make-clause-empty : goal.returns-in-Ok-make-clause-empty
returns-in-Ok-make-clause-empty c = c.in-Ok-make.ensures.empty (memory_is_clean c.in-Ok-make.keep.connection)

pub returns-in-Ok-make-clause-register : goal.returns-in-Ok-make-clause-register
returns-in-Ok-make-clause-register c = c.in-Ok-make.ensures.register (memory_is_clean c.in-Ok-make.keep.connection)

pub returns-in-Err-clause-refused : goal.returns-in-Err-clause-refused
returns-in-Err-clause-refused c = search rules
