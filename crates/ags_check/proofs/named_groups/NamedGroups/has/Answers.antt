use Rattle.std.proofs.Common.{ap, subst, ◌∙◌, ℕ, List, ◌↔◌, IsTrue, is_some}
use Rattle.ags_rows.specs.declared.rows.Group.{Group}
use Rattle.ags_rows.specs.Contents.{contents_of, place_in}
use Rattle.ags_check.specs.Header.{HasGroup}
use Rattle.ags_check.proofs.Groups.{named}
use Rattle.ags_check.proofs.named_groups.NamedGroups.has.Goals as goal

pub returns : goal.returns
returns c =
    let name = c.args.name.now in
    let found = c.is_some.ensures ∙ ap is_some (c.find.ensures ∙ ap (λ (names : List (List ℕ)). place_in names name) c.self.invariant) in
    subst (λ (groups : List Group). IsTrue c.is_some.result ↔ HasGroup (contents_of groups) name) c.self.view_is (rw found (named c.self.inside.groups.now name))
