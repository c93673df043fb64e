use Rattle.std.proofs.Common.{◌≡◌, ◌∷◌, ◌++◌, ap, sym, ◌∙◌, map}
use Rattle.ags_rows.specs.Contents.{field_at}
use Rattle.ags_links.specs.Families.{HasText, HasKeyText}
use Rattle.ags_links.specs.Keys.{key_of}
use Rattle.ags_links.specs.KeyTexts.{key_text}
use Rattle.ags_links.specs.Placing.{row_of}
use Rattle.ags_dict.specs.Entries.{keys_of}
use Rattle.ags_links.specs.Lookups.{found, pairs_of}
use Rattle.ags_links.proofs.ByText.{pushed}
use Rattle.ags_links.proofs.Finding.{finds_row, finds_rows, finds_ok}
use Rattle.ags_links.proofs.Heading.{entries_at}
use Rattle.ags_links.proofs.families.rows_by_key.Goals as goal

pub loop-number-preserved : goal.loop-number-preserved
loop-number-preserved c =
    let row = c.row.result.0.now in
    let of_row = row_of row in
    let text : c.in_ok-text.text.items ≡ key_text (of_row.group ∷ key_of c.args.filed.now.dictionary.now of_row) =
    c.in_ok-text.ensures.items ∙ c.deref-in-loop-number.ensures.value ∙ c.in_ok-push_group_entries.ensures ∙ ap (λ start. start ++ key_text (of_row.group ∷ map (field_at of_row.fields) c.deref.result.now)) c.clear.ensures.items
    ∙ ap (λ ps. key_text (of_row.group ∷ map (field_at of_row.fields) ps)) (c.deref.ensures.value ∙ c.row.ensures.kept.keys)
    ∙ ap (λ es. key_text (of_row.group ∷ es)) (entries_at of_row (keys_of c.args.filed.now.dictionary.now of_row.group)) in
    finds_row (pairs_of c.loop-number.pairs.items) (pairs_of c.push.new.self.items) (HasKeyText c.args.filed.now.dictionary.now) c.args.filed.now.rows.now c.loop-number.number row c.in_ok-text.text.items c.row.ensures.row
    c.loop-number.invariant (λ q. ap (λ ps. found (pairs_of ps) q) c.in_ok-push.ensures.items ∙ pushed c.loop-number.pairs.items c.in_ok-text.text c.loop-number.number q) (sym text) (λ q h. text ∙ h)

pub returns : goal.returns
returns c = finds_ok c.rows_by_text.result (pairs_of c.loop-number.pairs.items) (HasText (map row_of c.args.filed.now.rows.now) (HasKeyText c.args.filed.now.dictionary.now)) c.rows_by_text.ensures
    (finds_rows (pairs_of c.loop-number.pairs.items) (HasKeyText c.args.filed.now.dictionary.now) c.args.filed.now.rows.now c.loop-number.number c.loop-number-test.false c.loop-number.invariant)
