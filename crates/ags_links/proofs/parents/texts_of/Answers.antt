use Rattle.std.proofs.Common.{◌∙◌, ◌++◌, ◌∷◌, [], Bor, List, ℕ, ap}
use Rattle.std.proofs.lemmas.List.{map-append}
use Rattle.ags_links.specs.declared.parents.ParentLinks.{ParentLinks}
use Rattle.ags_links.proofs.Growing.{map_more}
use Rattle.ags_links.proofs.Kept.{texts}
use Rattle.ags_links.proofs.parents.texts_of.Goals as goal

pub loop-of_group-preserved : goal.loop-of_group-preserved
loop-of_group-preserved c =
    let old = c.loop-of_group.texts.items in
    let item = c.of_group-item.result in
    map_more (λ (l : ParentLinks). l.text.items) [] (texts old) (texts c.push.new.self.items) c.args.links.now c.loop-of_group.of_group-index item c.loop-of_group-test.true c.loop-of_group.invariant
    (ap texts c.in_ok-push.ensures.items ∙ map-append (λ (h : Bor (List ℕ)). h.now) old _ ∙ ap (λ t. texts old ++ t ∷ []) (c.as_slice.ensures.value ∙ ap (λ (l : ParentLinks). l.text.items) c.of_group-item.is))
