use Rattle.std.proofs.Common.{List, ℕ, ◌++◌, ap, sym, ◌∙◌}
use Rattle.ags_rows.specs.Contents.{under, group_contents}
use Rattle.ags_check.proofs.Listings.{read_group, read_more}
use Rattle.ags_check.proofs.rows.code_lists.texts.Goals as goal

pub loop-group-preserved : goal.loop-group-preserved
loop-group-preserved c =
    let read : List (List ℕ) → List (List ℕ) → List ℕ = λ headings fields. under headings fields c.args.heading.now in
    c.in_ok-push_named.ensures
    ∙ ap (λ (l : List (List ℕ)). l ++ read_group c.args.name.now read (group_contents c.group-item.result)) c.loop-group.invariant
    ∙ sym (read_more c.args.name.now read c.args.groups.now c.loop-group.group-index c.group-item.result c.loop-group-test.true c.group-item.is)
