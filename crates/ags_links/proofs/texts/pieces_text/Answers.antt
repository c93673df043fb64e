use Rattle.std.proofs.Common.{◌≡◌, ◌∷◌, [], ◌++◌, ◌∙◌, ap, sym, get_or}
use Rattle.ags_links.specs.KeyTexts.{end_mark}
use Rattle.ags_links.proofs.Cutting.{piece_byte, piece_end, piece_other, pieces_key_text}
use Rattle.ags_links.proofs.Growing.{grow_end, grow_more}
use Rattle.ags_links.proofs.texts.pieces_text.Goals as goal
use Rattle.ags_links.proofs.texts.pieces_text.Goals.{then-byte-delimiter+in_ok-push, else-byte-delimiter+in_ok-push_marked}

pub returns : goal.returns
returns c =
    grow_end (piece_byte c.args.delimiter) [] c.loop-byte.text.items c.push-2.new.self.items (end_mark ∷ []) c.args.part.now c.loop-byte.byte-index c.loop-byte-test.false c.loop-byte.invariant c.in_ok-push-2.ensures.items
    ∙ pieces_key_text c.args.delimiter c.args.part.now

pub loop-byte-preserved : goal.loop-byte-preserved
loop-byte-preserved c =
    let old = c.loop-byte.text.items in
    let byte = get_or c.args.part.now c.loop-byte.byte-index 0 in
    let grown : c.if-byte-delimiter.text.items ≡ old ++ piece_byte c.args.delimiter byte =
    elim c.if-byte-delimiter.branch [
      | then-byte-delimiter+in_ok-push w ↦ ap (λ v. v.items) w.text-is ∙ w.in_ok-push.ensures.items ∙ ap (λ l. old ++ l) (sym (piece_end c.args.delimiter byte w.if-byte-delimiter.true))
      | else-byte-delimiter+in_ok-push_marked w ↦ ap (λ v. v.items) w.text-is ∙ w.in_ok-push_marked.ensures ∙ ap (λ l. old ++ l) (sym (piece_other c.args.delimiter byte w.if-byte-delimiter.false))
    ] in
    grow_more (piece_byte c.args.delimiter) [] old c.if-byte-delimiter.text.items c.args.part.now c.loop-byte.byte-index 0 c.loop-byte-test.true c.loop-byte.invariant grown
