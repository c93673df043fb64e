use Rattle.std.proofs.Common.{◌∙◌, ◌++◌, ◌∷◌, [], Bor, List, ℕ, take, get_or, map, ap, sym}
use Rattle.std.proofs.lemmas.List.{map-append, take_more}
use Rattle.ags_rows.specs.declared.rows.Group.{Group}
use Rattle.ags_check.proofs.Naming.{texts}
use Rattle.ags_check.proofs.named_groups.all_names.Goals as goal

pub loop-group-preserved : goal.loop-group-preserved
loop-group-preserved c =
    let groups = c.args.groups.now in
    let i = c.loop-group.group-index in
    let group = c.group-item.result in
    let old = c.loop-group.names.items in
    ap texts c.in_ok-push.ensures.items ∙ map-append (λ (h : Bor (List ℕ)). h.now) old _
    ∙ ap (λ t. texts old ++ t ∷ []) (c.as_slice.ensures ∙ ap (λ (g : Group). g.name) c.group-item.is)
    ∙ ap (λ l. l ++ (get_or groups i group).name ∷ []) c.loop-group.invariant
    ∙ sym (map-append (λ (g : Group). g.name) (take i groups) (get_or groups i group ∷ [])) ∙ ap (map (λ (g : Group). g.name)) (sym (take_more groups i group c.loop-group-test.true))
