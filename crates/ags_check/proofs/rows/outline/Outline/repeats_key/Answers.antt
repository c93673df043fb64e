use Rattle.std.proofs.Common.{◌≡◌, ◌≢◌, ◌∙◌, [], ap, sym}
use Rattle.ags_dict.specs.Entries.{Entries, keys_of}
use Rattle.ags_check.specs.Columns.{Outlined}
use Rattle.ags_check.proofs.RowNotes.{repeats_means}
use Rattle.ags_check.proofs.rows.outline.Outline.repeats_key.Goals as goal

pub returns : goal.returns
returns c = λ row at.
    let own = c.self.inside in
    let file = c.args.index.now in
    let same : keys_of own.dictionary.now own.group.now.name ≡ keys_of file.entries row.group =
    ap (λ (e : Entries). keys_of e own.group.now.name) (ap (λ (v : Outlined). v.entries) c.self.view_is ∙ c.requires.entries)
    ∙ ap (keys_of file.entries) (ap (λ (v : Outlined). v.group.name) c.self.view_is ∙ sym (c.requires.row row at)) in
    let keyed : keys_of file.entries row.group ≢ [] = λ none. c.self.invariant.has_keys.0 c.if-not-self.false (same ∙ none) in
    repeats_means file.entries file.contents c.args.number c.first_of_key.result row keyed at c.first_of_key.ensures
