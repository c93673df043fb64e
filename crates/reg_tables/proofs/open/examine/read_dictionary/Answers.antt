use Rattle.std.proofs.Common.{rules, ◌≡◌}
use Rattle.sqlite.specs.Held.{state}
use Rattle.reg_tables.proofs.QuietLaws.{clean_before}
use Rattle.reg_tables.specs.Tables.{format_number}
use Rattle.reg_tables.proofs.ExamineLemmas.{meta_of}
use Rattle.reg_tables.proofs.open.examine.read_dictionary.Goals as goal

pub returns-clause-read : goal.returns-clause-read
returns-clause-read g c clean =
    let old = state g.S.Store c.args.conn.now in
    let first = clean_before old (state g.S.Store c.read_meta.new.conn) c.read_meta.ensures.quiet.survives clean in
    let same : c.deref-2.result.now ≡ c.in_ok-rows.rows.items = search rules in
    meta_of (format_number c.args.format) c.meta_dictionary.result old.now c.in_ok-rows.rows.items (c.requires.idle.schema first) (c.in_ok-rows.ensures.all clean) (c.in_ok-rows.ensures.found clean) (rw same at c.meta_dictionary.ensures)
