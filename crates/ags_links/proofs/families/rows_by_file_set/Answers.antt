use Rattle.std.proofs.Common.{◌≡◌, codes, map, sym, ap, ◌∙◌}
use Rattle.std.specs.Str.{bytes_eq}
use Rattle.std.proofs.lemmas.Bool.{true≢false}
use Rattle.std.proofs.lemmas.Slice.Eq.{bytes_eq-Decides}
use Rattle.ags_links.specs.Families.{HasText, HasFileSet}
use Rattle.ags_rows.specs.Contents.{field_at}
use Rattle.ags_links.specs.Placing.{row_of}
use Rattle.ags_links.specs.Lookups.{found, pairs_of}
use Rattle.ags_links.proofs.ByText.{pushed}
use Rattle.ags_links.proofs.Finding.{finds_row, finds_over, finds_rows, finds_ok}
use Rattle.ags_links.proofs.families.rows_by_file_set.Goals as goal
use Rattle.ags_links.proofs.families.rows_by_file_set.Goals.{then-eq+in_ok-text+in_ok-push, else-eq}

pub loop-number-preserved : goal.loop-number-preserved
loop-number-preserved c =
    let row = c.row.result.0.now in
    let name = row.group.now.name in
    let tested : c.eq.result ≡ bytes_eq name (codes "FILE") = c.eq.ensures ∙ ap (bytes_eq c.as_slice.result.now) c.as_slice-in-loop-number.ensures ∙ ap (λ n. bytes_eq n (codes "FILE")) c.as_slice.ensures in
    elim c.if-eq.branch [
      | then-eq+in_ok-text+in_ok-push w ↦
          let is_file : name ≡ codes "FILE" = (bytes_eq-Decides name (codes "FILE")).0 (sym tested ∙ w.if-eq.true) in
          let text = w.in_ok-text.ensures.items ∙ w.field.ensures ∙ ap (field_at (row_of row).fields) c.row.ensures.kept.file_set in
          rw w.pairs-is (finds_row (pairs_of c.loop-number.pairs.items) (pairs_of w.push.new.self.items) HasFileSet c.args.filed.now.rows.now c.loop-number.number row w.in_ok-text.text.items c.row.ensures.row
          c.loop-number.invariant (λ q. ap (λ ps. found (pairs_of ps) q) w.in_ok-push.ensures.items ∙ pushed c.loop-number.pairs.items w.in_ok-text.text c.loop-number.number q) (is_file, sym text) (λ q h. text ∙ h.1))
      | else-eq w ↦
          rw w.pairs-is (finds_over (pairs_of c.loop-number.pairs.items) HasFileSet c.args.filed.now.rows.now c.loop-number.number row c.row.ensures.row
          c.loop-number.invariant (λ q h. true≢false (sym ((bytes_eq-Decides name (codes "FILE")).1 h.0) ∙ sym tested ∙ w.if-eq.false)))
    ]

pub returns : goal.returns
returns c = finds_ok c.rows_by_text.result (pairs_of c.loop-number.pairs.items) (HasText (map row_of c.args.filed.now.rows.now) HasFileSet) c.rows_by_text.ensures
    (finds_rows (pairs_of c.loop-number.pairs.items) HasFileSet c.args.filed.now.rows.now c.loop-number.number c.loop-number-test.false c.loop-number.invariant)
