use Rattle.std.proofs.Common.{◌∙◌, ◌++◌, ◌∷◌, [], Bor, List, ℕ, length, take, get_or, map, ap, sym, arith}
use Rattle.std.proofs.lemmas.List.{map-append, take_all, take_more}
use Rattle.std.proofs.lemmas.List.Elements.{All-push}
use Rattle.ags_rows.specs.Contents.{group_contents}
use Rattle.ags_check.specs.Columns.{IsColumn}
use Rattle.ags_check.proofs.EntryNotes.{heading_of}
use Rattle.ags_check.proofs.Naming.{texts}
use Rattle.ags_check.proofs.rows.columns.columns.Goals as goal

pub loop-heading-init : goal.loop-heading-init
loop-heading-init c = record {
  each = λ k d lt. absurd (omega (arith, lt, ap length c.new-columns.ensures.items));
  heads = ap (map heading_of) c.new-columns.ensures.items;
}

pub loop-heading-preserved : goal.loop-heading-preserved
loop-heading-preserved c =
    let d : Bor (List ℕ) = record { ref_ptr = (0, 0); now = [] } in
    let headings = c.args.headings.now in
    let i = c.loop-heading.heading-index in
    let old = c.loop-heading.columns.items in
    rw c.in_ok-push.ensures.items
    (record {
      each = All-push (IsColumn (group_contents c.args.group.now)) old c.heading_column.result c.loop-heading.invariant.each c.heading_column.ensures.column;
      heads = map-append heading_of old (c.heading_column.result ∷ [])
          ∙ ap (λ l. l ++ heading_of c.heading_column.result ∷ []) c.loop-heading.invariant.heads
          ∙ ap (λ h. texts (take i headings) ++ h ∷ []) c.heading_column.ensures.heading
          ∙ sym (map-append (λ (h : Bor (List ℕ)). h.now) (take i headings) (get_or headings i d ∷ [])) ∙ ap texts (sym (take_more headings i d c.loop-heading-test.true));
    })

pub returns : goal.returns
returns c = record {
  each = c.loop-heading.invariant.each;
  heads = c.loop-heading.invariant.heads ∙ ap texts (take_all c.loop-heading.heading-index c.args.headings.now c.loop-heading-test.false);
}
