use Rattle.std.proofs.Common.{rules, ◌≡◌, refl, sym, ap}
use Rattle.sqlite.specs.Held.{state}
use Rattle.sqlite.proofs.StateLemmas.{survives_weaker}
use Rattle.reg_tables.specs.declared.error.TableError.TheVariants.{NoMemory}
use Rattle.reg_tables.specs.Private.Errors.{is_of_database}
use Rattle.reg_tables.proofs.CreatesLaws.{new_empty}
use Rattle.reg_tables.specs.Tables.{no_schema}
use Rattle.reg_tables.proofs.CreateLemmas.{making_left}
use Rattle.reg_tables.proofs.QuietLaws.{same_itself, survives_same}
use Rattle.reg_tables.proofs.open.create.fill.Goals as goal

pub returns-then-not-is_vacant-clause-left : goal.returns-then-not-is_vacant-clause-left
returns-then-not-is_vacant-clause-left g c = survives_same (state g.S.Store c.args.conn.now)

pub returns-then-not-is_vacant-clause-same : goal.returns-then-not-is_vacant-clause-same
returns-then-not-is_vacant-clause-same g c = λ _ _. (refl, refl, same_itself (state g.S.Store c.args.conn.now))

pub returns-then-not-is_vacant-clause-still : goal.returns-then-not-is_vacant-clause-still
returns-then-not-is_vacant-clause-still g c = λ _ is_open. (is_open, same_itself (state g.S.Store c.args.conn.now))

pub returns-then-not-is_autocommit-clause-left : goal.returns-then-not-is_autocommit-clause-left
returns-then-not-is_autocommit-clause-left g c = survives_same (state g.S.Store c.args.conn.now)

pub returns-then-not-is_autocommit-clause-same : goal.returns-then-not-is_autocommit-clause-same
returns-then-not-is_autocommit-clause-same g c = λ _ _. (refl, refl, same_itself (state g.S.Store c.args.conn.now))

pub returns-then-not-is_autocommit-clause-still : goal.returns-then-not-is_autocommit-clause-still
returns-then-not-is_autocommit-clause-still g c = λ _ is_open. (is_open, same_itself (state g.S.Store c.args.conn.now))

pub returns-then-is_err-clause-left : goal.returns-then-is_err-clause-left
returns-then-is_err-clause-left g c = survives_same (state g.S.Store c.args.conn.now)

pub returns-then-is_err-clause-same : goal.returns-then-is_err-clause-same
returns-then-is_err-clause-same g c = λ _ _. (refl, refl, same_itself (state g.S.Store c.args.conn.now))

pub returns-then-is_err-clause-still : goal.returns-then-is_err-clause-still
returns-then-is_err-clause-still g c = λ _ is_open. (is_open, same_itself (state g.S.Store c.args.conn.now))

pub change_tables-requires-clause-settled : goal.change_tables-requires-clause-settled
change_tables-requires-clause-settled g c clean is_open = sym (c.is_autocommit.ensures.settled (search rules) is_open)

pub returns-in-Ok-clause-mode : goal.returns-in-Ok-clause-mode
returns-in-Ok-clause-mode g c = c.in-Ok.ensures.mode

pub returns-in-Ok-clause-open : goal.returns-in-Ok-clause-open
returns-in-Ok-clause-open g c clean = c.in-Ok.ensures.open clean refl

pub returns-in-Ok-clause-put : goal.returns-in-Ok-clause-put
returns-in-Ok-clause-put g c clean = new_empty c.args.bytes.now c.requires.reads.0 _ c.requires.short c.requires.reads.1 (c.in-Ok.ensures.made clean).change

pub returns-in-Ok-clause-settled : goal.returns-in-Ok-clause-settled
returns-in-Ok-clause-settled g c = c.in-Ok.ensures.settled

pub returns-in-Ok-clause-made : goal.returns-in-Ok-clause-made
returns-in-Ok-clause-made g c =
    let blank : (state g.S.Store c.args.conn.now).now.schema ≡ no_schema = search rules in
    making_left c.args.bytes.now (state g.S.Store c.args.conn.now) (state g.S.Store c.change_tables.new.conn) c.requires.short c.requires.reads blank c.change_tables.ensures.crash

pub returns-in-Err-NoMemory-clause-left : goal.returns-in-Err-NoMemory-clause-left
returns-in-Err-NoMemory-clause-left g c =
    let is : c.in-Err-NoMemory.field-0 ≡ NoMemory = search rules in
    survives_weaker (state g.S.Store c.args.conn.now) (state g.S.Store c.change_tables.new.conn) _ _ (λ _ _ none. absurd none) (c.in-Err-NoMemory.ensures.quiet (ap is_of_database is))

pub returns-in-Err-Store-clause-left : goal.returns-in-Err-Store-clause-left
returns-in-Err-Store-clause-left g c =
    let blank : (state g.S.Store c.args.conn.now).now.schema ≡ no_schema = search rules in
    let made = making_left c.args.bytes.now (state g.S.Store c.args.conn.now) (state g.S.Store c.change_tables.new.conn) c.requires.short c.requires.reads blank c.change_tables.ensures.crash in
    survives_weaker (state g.S.Store c.args.conn.now) (state g.S.Store c.change_tables.new.conn) _ _ (λ _ _ left. (refl, left)) made
