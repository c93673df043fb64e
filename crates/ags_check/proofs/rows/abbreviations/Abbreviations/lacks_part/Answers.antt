use Rattle.std.proofs.Common.{sym, ◌∙◌, ap, not}
use Rattle.ags_check.proofs.PairSets.{part_lacks, part_had, part_last}
use Rattle.ags_check.proofs.rows.abbreviations.Abbreviations.lacks_part.Goals as goal

pub cutting-preserved : goal.cutting-preserved
cutting-preserved c =
    part_had c.args.self.now.held c.args.separator c.args.heading.now c.cutting.rest.now c.in-Some.place (sym c.find_byte.ensures.place ∙ c.in-Some.is) (sym c.has.ensures ∙ c.if-not-has.false)
    ∙ c.cutting.invariant

pub returns-then-not-has : goal.returns-then-not-has
returns-then-not-has c =
    sym (part_lacks c.args.self.now.held c.args.separator c.args.heading.now c.cutting.rest.now c.in-Some.place (sym c.find_byte.ensures.place ∙ c.in-Some.is) (sym c.has.ensures ∙ c.if-not-has.true))
    ∙ c.cutting.invariant

pub returns : goal.returns
returns c =
    ap not c.has-2.ensures
    ∙ part_last c.args.self.now.held c.args.separator c.args.heading.now c.cutting.rest.now (sym c.find_byte.ensures.place ∙ c.in_default.is)
    ∙ c.cutting.invariant
