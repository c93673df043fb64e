-- An answer is rendered as one text.
use Rattle.std.proofs.Common.{◌≡◌, ℕ, List, [], ◌∷◌, refl, sym, ap, ◌∙◌}
use Rattle.std.specs.List.{AllZip}
use Rattle.serde_json.specs.Data.{Data}
use Rattle.serde_json.specs.Written.{compact_text}
use Rattle.reg_policy.proofs.Lemmas.{one_text_of_day}
use Rattle.reg_http.specs.Bodies.{IsListedData, listed_data, listing_data, receipt_data}
use Rattle.reg_http.specs.Rendering.{HasOneRendering, IsBody, answer_kind, answer_status}
use Rattle.reg_http.specs.Replies.{reply_text}
use Rattle.reg_desk.specs.declared.answer.Listed.{Listed}
use Rattle.reg_desk.specs.declared.answer.Answer.{Answer}
use Rattle.reg_desk.specs.declared.answer.Answer.TheVariants.{Receipt, Listing}

-- a listing has one list of items
same_items : (ls : List Listed) (ds es : List Data) → AllZip IsListedData ls ds → AllZip IsListedData ls es → ds ≡ es
same_items [] [] [] all each = refl
same_items [] [] (e ∷ es) all each = absurd each
same_items (l ∷ ls) (d ∷ ds) [] all each = absurd each
same_items (l ∷ ls) (d ∷ ds) (e ∷ es) all each =
    let text = one_text_of_day all.0.0 each.0.0 l.embargo all.0.1 each.0.1 in
    let head : d ≡ e = all.0.2 ∙ ap (λ t. listed_data t l) text ∙ sym each.0.2 in
    ap (λ x. x ∷ ds) head ∙ ap (λ t. e ∷ t) (same_items ls ds es all.1 each.1)
same_items ls ds es all each = absurd all

-- one body
same_body : (answer : Answer) (p q : List ℕ) → IsBody answer p → IsBody answer q → p ≡ q
same_body (Receipt n embargo) p q (d, (t, w, i), j) (f, (s, v, k), l) =
    j ∙ ap compact_text (i ∙ ap (λ x. receipt_data x n) (one_text_of_day t s embargo w v) ∙ sym k) ∙ sym l
same_body (Listing ls) p q (d, (ds, all, i), j) (f, (es, each, k), l) =
    j ∙ ap compact_text (i ∙ ap listing_data (same_items ls ds es all each) ∙ sym k) ∙ sym l
same_body answer p q i j = i ∙ sym j

-- the law
pub one_rendering : HasOneRendering
one_rendering answer a b x y =
    x.2 ∙ ap (reply_text (answer_status answer) (answer_kind answer)) (same_body answer x.0 y.0 x.1 y.1) ∙ sym y.2
