use Rattle.std.proofs.Common.{◌≡◌, ◌∙◌, ◌++◌, ◌∷◌, [], Bor, List, ℕ, map, ap, sym}
use Rattle.std.proofs.lemmas.List.{append-nil, map-append, take_all}
use Rattle.ags_rows.specs.Contents.{under, fields_of}
use Rattle.ags_check.proofs.Listings.{mapped_more}
use Rattle.ags_check.proofs.Naming.{texts}
use Rattle.ags_check.proofs.rows.code_lists.push_texts.Goals as goal

pub loop-row-init : goal.loop-row-init
loop-row-init c = sym (append-nil (texts c.args.texts.now.items))

pub loop-row-preserved : goal.loop-row-preserved
loop-row-preserved c =
    let headings = c.args.group.now.headings in
    let heading = c.args.heading.now in
    let row = c.row-item.result in
    let old = c.loop-row.texts.items in
    let stands : c.under.result.now ≡ under headings (fields_of row) heading =
    c.under.ensures ∙ ap (λ hs. under hs c.as_slice.result.now heading) c.as_slice-headings.ensures ∙ ap (λ fields. under headings fields heading) c.as_slice.ensures in
    ap texts c.in_ok-push.ensures.items ∙ map-append (λ (t : Bor (List ℕ)). t.now) old _
    ∙ ap (λ t. texts old ++ t ∷ []) stands
    ∙ mapped_more (λ fields. under headings fields heading) fields_of (texts c.args.texts.now.items) (texts old) c.as_slice-rows.result.now c.loop-row.row-index row c.loop-row-test.true c.row-item.is c.loop-row.invariant

pub returns : goal.returns
returns c =
    c.loop-row.invariant
    ∙ ap (λ rows. texts c.args.texts.now.items ++ map (λ fields. under c.args.group.now.headings fields c.args.heading.now) (map fields_of rows)) (take_all c.loop-row.row-index c.as_slice-rows.result.now c.loop-row-test.false ∙ c.as_slice-rows.ensures)
