use Rattle.std.proofs.Common.{◌≡◌, ℕ, List, ◌++◌, ◌∙◌, ap, length, take, drop, refl, arith}
use Rattle.std.proofs.Math.Seq.{drop-append_seam, take-append_seam}
use Rattle.reg_http.specs.Replies.{json_kind, reply_front}
use Rattle.reg_http.proofs.reply.answer.json_reply.Goals as goal

-- a text that was put after another is moved before it
fronted : (body front both turned : List ℕ) (n : ℕ) → n ≡ length body → both ≡ body ++ front → turned ≡ drop n both ++ take n both → turned ≡ front ++ body
fronted body front both turned n long joined turn = rw (turn, long, joined, drop-append_seam body front, take-append_seam body front) refl

pub returns : goal.returns
returns c =
    let body = c.args.body.items in
    let told : c.len.result ≡ length body = omega (arith, c.len.ensures) in
    let front = c.as_bytes.ensures.value ∙ c.in_ok-front.ensures ∙ ap (reply_front c.args.status json_kind) told in
    fronted body _ _ _ _ (omega (arith, c.in_ok-extend_from_slice.ensures.len)) c.in_ok-extend_from_slice.ensures.items c.rotate_right.ensures.items
    ∙ ap (λ f. f ++ body) front
