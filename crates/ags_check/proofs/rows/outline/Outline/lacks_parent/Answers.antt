use Rattle.std.proofs.Common.{◌≡◌, ◌∙◌, true, ap, sym, is_some}
use Rattle.ags_dict.specs.Entries.{Entries, parent_of}
use Rattle.ags_check.specs.Columns.{Outlined}
use Rattle.ags_check.proofs.RowNotes.{parent_means}
use Rattle.ags_check.proofs.rows.outline.Outline.lacks_parent.Goals as goal

pub returns : goal.returns
returns c = λ row at.
    let own = c.self.inside in
    let file = c.args.index.now in
    let same : parent_of own.dictionary.now own.group.now.name ≡ parent_of file.entries row.group =
    ap (λ (e : Entries). parent_of e own.group.now.name) (ap (λ (v : Outlined). v.entries) c.self.view_is ∙ c.requires.entries)
    ∙ ap (parent_of file.entries) (ap (λ (v : Outlined). v.group.name) c.self.view_is ∙ sym (c.requires.row row at)) in
    let parented : is_some (parent_of file.entries row.group) ≡ true = sym (ap is_some same) ∙ sym c.self.invariant.has_parent ∙ c.if-not-self.false in
    parent_means file.entries file.contents c.args.number row c.has_parent.result parented at c.has_parent.ensures
