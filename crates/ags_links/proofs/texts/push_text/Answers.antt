use Rattle.std.proofs.Common.{◌≡◌, ◌++◌, ◌∷◌, [], ap, ◌∙◌, sym, flat_map}
use Rattle.std.proofs.lemmas.List.{append_assoc}
use Rattle.ags_links.specs.KeyTexts.{byte_text, end_mark}
use Rattle.ags_links.proofs.PlainTexts.{plain_text}
use Rattle.ags_links.proofs.texts.push_text.Goals as goal
use Rattle.ags_links.proofs.texts.push_text.Goals.{then-is_plain+in_ok-extend_from_slice, else-is_plain+in_ok-push_bytes}

pub returns : goal.returns
returns c =
    let old = c.args.out.now.items in
    let bytes = flat_map byte_text c.args.text.now in
    let pushed : c.if-is_plain.out.items ≡ old ++ bytes = elim c.if-is_plain.branch [
      | then-is_plain+in_ok-extend_from_slice w ↦ ap (λ v. v.items) w.out-is ∙ w.in_ok-extend_from_slice.ensures.items ∙ ap (λ bs. old ++ bs) (sym (plain_text c.args.text.now (c.is_plain.ensures w.if-is_plain.true)))
      | else-is_plain+in_ok-push_bytes w ↦ ap (λ v. v.items) w.out-is ∙ w.in_ok-push_bytes.ensures
    ] in
    c.in_ok-push.ensures.items ∙ ap (λ l. l ++ end_mark ∷ []) pushed ∙ append_assoc old bytes (end_mark ∷ [])
