use Rattle.std.proofs.Common.{sym, ap, subst, ◌∙◌, refl}
use Rattle.std.specs.Option.{IsSome}
use Rattle.ags_rows.specs.Contents.{place_in}
use Rattle.ags_links.proofs.Heading.{name_placed}
use Rattle.ags_links.proofs.parents.first_with.Goals as goal

pub unwrap-requires : goal.unwrap-requires
unwrap-requires c =
    let at = name_placed c.args.texts.now c.args.links.now.text.items c.requires in
    subst IsSome (sym at.1 ∙ ap (place_in c.args.texts.now) (sym c.deref.ensures.value) ∙ sym c.find.ensures) refl
