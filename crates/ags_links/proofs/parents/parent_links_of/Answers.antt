use Rattle.std.proofs.Common.{◌≡◌, ◌∷◌, ap, sym, subst, ◌∙◌, Some, option_copied}
use Rattle.ags_dict.specs.Entries.{parent_of}
use Rattle.ags_links.specs.declared.parents.ParentLinks.{ParentLinks}
use Rattle.ags_links.specs.KeyTexts.{key_text}
use Rattle.ags_links.specs.ParentRows.{AreLinkHeadings, ParentLinksTo, link_names}
use Rattle.ags_links.proofs.Kept.{texts}
use Rattle.ags_links.proofs.parents.parent_links_of.Goals as goal

-- there is a parent group
pub returns : goal.returns
returns c =
    let entries = c.args.filed.now.dictionary.now in
    let group = c.args.group.now in
    let parent = c.in-Some.parent.now in
    let links : ParentLinks = record { rows = c.rows_with.result; headings = c.in_ok-headings.headings; text = c.in_ok-text.text } in
    let named : parent_of entries group.name ≡ Some parent = ap (parent_of entries) (sym c.as_slice.ensures) ∙ sym c.parent.ensures ∙ ap option_copied c.in-Some.is in
    subst (ParentLinksTo entries c.args.by_group.now group links) (sym named) (
      c.rows_with.ensures,
      λ some. subst (λ hs. AreLinkHeadings entries parent hs (link_names links)) c.requires.family.headings (c.in_ok-headings.ensures (λ empty. some (c.rows_with.ensures ∙ empty))),
      c.in_ok-text.ensures ∙ ap (λ hs. key_text (parent ∷ texts hs)) c.deref.ensures.value,
    )
