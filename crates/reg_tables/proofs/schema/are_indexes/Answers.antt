use Rattle.std.proofs.Common.{rules, tests, ◌∙◌, sym}
use Rattle.std.proofs.lemmas.List.{length-map}
use Rattle.std.proofs.lemmas.Iterator.{YieldsList-from_slice, YieldsList-from_zip, same_from_all}
use Rattle.reg_tables.specs.Private.Schemas.{index_of}
use Rattle.reg_tables.proofs.SchemaLemmas.{mapped}
use Rattle.reg_tables.proofs.schema.are_indexes.Goals as goal

pub returns-then-indexes-expected : goal.returns-then-indexes-expected
returns-then-indexes-expected c =
    same_from_all c.all.new.self _ _ _ _ c.all.ensures.ran
    (YieldsList-from_zip (YieldsList-from_slice c.args.indexes.now cc) (mapped index_of (YieldsList-from_slice c.args.expected.now cc)))
    (c.if-indexes-expected.true ∙ sym (length-map c.args.expected.now index_of))
    (λ x q k. search (rules, tests)) (λ x q k. search (rules, tests))
