use Rattle.std.proofs.Common.{rules, tests, ◌∙◌, sym}
use Rattle.std.proofs.lemmas.List.{length-map}
use Rattle.std.proofs.lemmas.Iterator.{YieldsList-from_slice, YieldsList-from_zip, same_from_all}
use Rattle.reg_tables.specs.Private.Schemas.{column_of}
use Rattle.reg_tables.proofs.SchemaLemmas.{mapped}
use Rattle.reg_tables.proofs.schema.are_columns.Goals as goal

pub returns-then-columns-expected : goal.returns-then-columns-expected
returns-then-columns-expected c =
    same_from_all c.all.new.self _ _ _ _ c.all.ensures.ran
    (YieldsList-from_zip (YieldsList-from_slice c.args.columns.now cc) (mapped column_of (YieldsList-from_slice c.args.expected.now cc)))
    (c.if-columns-expected.true ∙ sym (length-map c.args.expected.now column_of))
    (λ x q k. search (rules, tests)) (λ x q k. search (rules, tests))
