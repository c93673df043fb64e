use Rattle.std.proofs.Common.{◌≡◌, ℕ, List, Bor, Vec, Global, Bool, map, take, sym, ap, ◌∙◌, arith}
use Rattle.std.specs.List.{filter}
use Rattle.std.proofs.lemmas.List.{take_all, length-map}
use Rattle.ags_dict.specs.declared.entries.HeadingEntry.{HeadingEntry}
use Rattle.ags_dict.specs.Entries.{Entries, of_status}
use Rattle.ags_dict.specs.Index.{of_group}
use Rattle.ags_text.specs.Bytes.{plus_sign}
use Rattle.ags_rows.specs.Parts.{has_part}
use Rattle.ags_dict.proofs.Picked.{picked_yes, picked_no}
use Rattle.ags_dict.proofs.Found.{filter_both}
use Rattle.ags_dict.proofs.dictionary.Dictionary.of_status.Goals as goal
use Rattle.ags_dict.proofs.dictionary.Dictionary.of_status.Goals.{then-has_separated_part+in_ok-push, else-has_separated_part}

abbrev has : List ℕ → HeadingEntry → Bool
has word entry = has_part plus_sign word entry.status

pub loop-entry-preserved : goal.loop-entry-preserved
loop-entry-preserved c =
    let values = λ (v : Vec (Bor (List ℕ)) Global). map (λ (r : Bor (List ℕ)). r.now) v.items in
    let word = c.args.word.now in
    let asked : has word c.entry-item.result.now ≡ c.has_separated_part.result = ap (has_part plus_sign word) (sym c.as_slice.ensures) ∙ sym c.has_separated_part.ensures in
    elim c.if-has_separated_part.branch [
      | then-has_separated_part+in_ok-push w ↦
          ap values w.found-is ∙ ap (map (λ (r : Bor (List ℕ)). r.now)) w.in_ok-push.ensures.items
          ∙ picked_yes (has word) (λ e. e.heading) c.deref-entry-items.result.now c.loop-entry.entry-index c.entry-item.result c.loop-entry.found.items w.as_slice-then-has_separated_part.result
          c.loop-entry-test.true c.entry-item.is (asked ∙ w.if-has_separated_part.true) w.as_slice-then-has_separated_part.ensures c.loop-entry.invariant
      | else-has_separated_part w ↦
          ap values w.found-is
          ∙ picked_no (has word) (λ e. e.heading) c.deref-entry-items.result.now c.loop-entry.entry-index c.entry-item.result c.loop-entry.found.items
          c.loop-entry-test.true c.entry-item.is (asked ∙ w.if-has_separated_part.false) c.loop-entry.invariant
    ]

pub returns : goal.returns
returns c =
    let word = c.args.word.now in
    let group = c.args.group.now in
    let refs = c.deref-entry-items.result.now in
    let entries : List (Bor HeadingEntry) → List HeadingEntry = map (λ (r : Bor HeadingEntry). r.now) in
    let all : take c.loop-entry.entry-index (entries refs) ≡ entries refs = take_all c.loop-entry.entry-index (entries refs) (omega (arith, length-map refs (λ (r : Bor HeadingEntry). r.now), c.loop-entry-test.false)) in
    c.loop-entry.invariant ∙ ap (λ (l : List HeadingEntry). map (λ e. e.heading) (filter (has word) l)) (all ∙ ap entries c.deref-entry-items.ensures.value ∙ c.in_ok-entries.ensures)
    ∙ ap (map (λ (e : HeadingEntry). e.heading)) (sym (filter_both (of_group group) (has word) c.self.inside.headings))
    ∙ ap (λ (e : Entries). of_status e group word) c.self.view_is
