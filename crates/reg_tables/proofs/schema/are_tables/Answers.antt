use Rattle.std.proofs.Common.{rules, tests, ◌∙◌, sym}
use Rattle.std.proofs.lemmas.List.{length-map}
use Rattle.std.proofs.lemmas.Iterator.{YieldsList-from_slice, YieldsList-from_zip, same_from_all}
use Rattle.reg_tables.specs.Private.Schemas.{table_of}
use Rattle.reg_tables.proofs.SchemaLemmas.{mapped}
use Rattle.reg_tables.proofs.schema.are_tables.Goals as goal

pub returns-then-tables-expected : goal.returns-then-tables-expected
returns-then-tables-expected c =
    same_from_all c.all.new.self _ _ _ _ c.all.ensures.ran
    (YieldsList-from_zip (YieldsList-from_slice c.args.tables.now cc) (mapped table_of (YieldsList-from_slice c.args.expected.now cc)))
    (c.if-tables-expected.true ∙ sym (length-map c.args.expected.now table_of))
    (λ x q k. search (rules, tests)) (λ x q k. search (rules, tests))
