use Rattle.std.proofs.Common.{◌≡◌, ◌∙◌, ◌++◌, ◌∷◌, [], map, ap, sym, codes}
use Rattle.std.proofs.lemmas.List.{append-nil, map-append, take_all}
use Rattle.ags_rows.specs.Contents.{under, fields_of}
use Rattle.ags_check.specs.CodeLists.{abbreviation_in, pair_texts}
use Rattle.ags_check.proofs.Listings.{mapped_more}
use Rattle.ags_check.proofs.rows.code_lists.push_pairs.Goals as goal

pub loop-row-init : goal.loop-row-init
loop-row-init c = sym (append-nil (map pair_texts c.args.pairs.now.items))

pub loop-row-preserved : goal.loop-row-preserved
loop-row-preserved c =
    let headings = c.args.group.now.headings in
    let row = c.row-item.result in
    let old = c.loop-row.pairs.items in
    let heading : c.under-heading.result.now ≡ under headings (fields_of row) (codes "ABBR_HDNG") =
    c.under-heading.ensures ∙ ap (λ hs. under hs c.as_slice.result.now (codes "ABBR_HDNG")) c.as_slice-headings.ensures ∙ ap (λ fields. under headings fields (codes "ABBR_HDNG")) c.as_slice.ensures in
    let code : c.under-code.result.now ≡ under headings (fields_of row) (codes "ABBR_CODE") =
    c.under-code.ensures ∙ ap (λ hs. under hs c.as_slice-in-loop-row.result.now (codes "ABBR_CODE")) c.as_slice-headings.ensures ∙ ap (λ fields. under headings fields (codes "ABBR_CODE")) c.as_slice-in-loop-row.ensures in
    ap (map pair_texts) c.in_ok-push.ensures.items ∙ map-append pair_texts old _
    ∙ ap (λ h. map pair_texts old ++ (h, c.under-code.result.now) ∷ []) heading
    ∙ ap (λ k. map pair_texts old ++ (under headings (fields_of row) (codes "ABBR_HDNG"), k) ∷ []) code
    ∙ mapped_more (abbreviation_in headings) fields_of (map pair_texts c.args.pairs.now.items) (map pair_texts old) c.as_slice-rows.result.now c.loop-row.row-index row c.loop-row-test.true c.row-item.is c.loop-row.invariant

pub returns : goal.returns
returns c =
    c.loop-row.invariant
    ∙ ap (λ rows. map pair_texts c.args.pairs.now.items ++ map (abbreviation_in c.args.group.now.headings) (map fields_of rows)) (take_all c.loop-row.row-index c.as_slice-rows.result.now c.loop-row-test.false ∙ c.as_slice-rows.ensures)
