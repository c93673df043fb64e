use Rattle.std.proofs.Common.{ℕ, ◌==◌, ◌∷◌, length, take, rules, arith, ap, sym, ◌∙◌}
use Rattle.std.proofs.lemmas.List.{take_rest}
use Rattle.std.proofs.lemmas.List.Sums.{position_or_len_is}
use Rattle.form_urlencoded.specs.Form.{split}
use Rattle.ags_text.specs.Bytes.{comma}
use Rattle.reg_request.proofs.GroupLemmas.{split_here, split_whole}
use Rattle.reg_request.proofs.groups.first_piece.Goals as goal

pub returns-in-Some : goal.returns-in-Some
returns-in-Some c =
    let text = c.args.text.now in
    let found = position_or_len_is (λ (b : ℕ). b == comma) text c.in-Some.i 0 (search rules) (search rules) (search rules) in
    record {
      pieces = split_here comma text c.in-Some.i found (search rules) ∙ ap (λ t. take c.in-Some.i text ∷ split comma t) (sym (take_rest text _));
      shorter = search rules;
      whole = tt;
    }

pub returns-in-None : goal.returns-in-None
returns-in-None c =
    let text = c.args.text.now in
    let none = position_or_len_is (λ (b : ℕ). b == comma) text (length text) 0 (omega arith) (search rules) (search rules) in
    record { pieces = tt; shorter = tt; whole = split_whole comma text none }
