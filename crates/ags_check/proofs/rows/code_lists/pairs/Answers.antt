use Rattle.std.proofs.Common.{◌∙◌, map, ap, take_all}
use Rattle.ags_rows.specs.Contents.{contents_of}
use Rattle.ags_check.specs.CodeLists.{abbreviations, pair_texts}
use Rattle.ags_check.proofs.rows.code_lists.pairs.Goals as goal

pub loop-group-init : goal.loop-group-init
loop-group-init c = ap (map pair_texts) c.new-pairs.ensures.items

pub returns : goal.returns
returns c = c.loop-group.invariant ∙ ap (λ groups. abbreviations (contents_of groups)) (take_all c.loop-group.group-index c.args.groups.now c.loop-group-test.false)
