use Rattle.std.proofs.Common.{Err, refl, subst}
use Rattle.reg_tables.specs.declared.error.AdoptError.TheVariants.{NotRegister}
use Rattle.reg_tables.specs.Adoption.{ReadsMeta}
use Rattle.reg_tables.proofs.ExamineLemmas.{meta_reads}
use Rattle.reg_tables.proofs.open.meta.meta_dictionary.Goals as goal

pub returns-in-Some-meta_text : goal.returns-in-Some-meta_text
returns-in-Some-meta_text c =
    let read = c.kept_dictionary.ensures in
    subst (λ n. ReadsMeta n c.args.rows.now c.kept_dictionary.result) c.number-expected.ensures
    (meta_reads c.number-expected.result c.kept_dictionary.result c.args.rows.now _ c.in-Some-meta_text.ensures.found (c.in-None.ensures.none refl) read.read read.refused read.named)

pub returns-in-None-meta_text : goal.returns-in-None-meta_text
returns-in-None-meta_text c =
    subst (λ n. ReadsMeta n c.args.rows.now (Err NotRegister)) c.number-expected.ensures
    (λ n has. c.in-None.ensures.none refl n has.0 has.1 has.2, λ dictionary reads. c.in-None-meta_text.ensures.none refl reads.0 reads.1)
