use Rattle.std.proofs.Common.{rules, sym}
use Rattle.sqlite.specs.Held.{state}
use Rattle.reg_tables.proofs.FormatLemmas.{autocommit_idle, refused_unstarted}
use Rattle.reg_tables.proofs.QueryLemmas.{survives_none}
use Rattle.reg_tables.proofs.TablesLemmas.{format_tables}
use Rattle.reg_tables.proofs.open.tables.examine_tables.Goals as goal

pub returns-then-not-has_meta-clause-refused : goal.returns-then-not-has_meta-clause-refused
returns-then-not-has_meta-clause-refused g c clean = refused_unstarted c.args.format (state g.S.Store c.args.conn.now).now (search rules)

pub returns-then-not-has_meta-clause-left : goal.returns-then-not-has_meta-clause-left
returns-then-not-has_meta-clause-left g c = survives_none (state g.S.Store c.args.conn.now)

pub returns-then-not-is_autocommit-clause-left : goal.returns-then-not-is_autocommit-clause-left
returns-then-not-is_autocommit-clause-left g c = survives_none (state g.S.Store c.args.conn.now)

pub refuse_tables-requires-clause-mode : goal.refuse_tables-requires-clause-mode
refuse_tables-requires-clause-mode g c = autocommit_idle _ _ c.is_autocommit.ensures.value (search rules)

pub returns-then-not-is_register-clause-refused : goal.returns-then-not-is_register-clause-refused
returns-then-not-is_register-clause-refused g c = c.refuse_tables.ensures.refused

pub returns-then-not-is_register-clause-same : goal.returns-then-not-is_register-clause-same
returns-then-not-is_register-clause-same g c well clean = c.refuse_tables.ensures.same clean well

pub returns-then-not-is_register-clause-still : goal.returns-then-not-is_register-clause-still
returns-then-not-is_register-clause-still g c = c.refuse_tables.ensures.still

pub returns-then-not-is_register-clause-left : goal.returns-then-not-is_register-clause-left
returns-then-not-is_register-clause-left g c = c.refuse_tables.ensures.crash

pub returns-clause-idle : goal.returns-clause-idle
returns-clause-idle g c = record {
  idle = autocommit_idle _ _ c.is_autocommit.ensures.value (search rules);
  schema = λ clean. format_tables c.args.format c.args.conn.now.schema (search rules);
  settled = λ clean is_open. sym (c.is_autocommit.ensures.settled (search rules) is_open);
}

pub returns-clause-left : goal.returns-clause-left
returns-clause-left g c = survives_none (state g.S.Store c.args.conn.now)
