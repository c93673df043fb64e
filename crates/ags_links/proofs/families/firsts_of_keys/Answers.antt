use Rattle.std.proofs.Common.{◌∙◌, map, sym, arith}
use Rattle.std.proofs.lemmas.List.{length-map}
use Rattle.ags_links.specs.Placing.{row_of}
use Rattle.ags_links.proofs.Answering.{key_row, one_key_text, firsts_hold}
use Rattle.ags_links.proofs.families.firsts_of_keys.Goals as goal

pub first_rows-requires-clause-few : goal.first_rows-requires-clause-few
first_rows-requires-clause-few c = λ text n h. omega (arith, key_row (map row_of c.args.filed.now.rows.now) c.args.filed.now.dictionary.now c.args.by_key.now c.requires text n h, length-map c.args.filed.now.rows.now row_of)

pub first_rows-requires-clause-once : goal.first_rows-requires-clause-once
first_rows-requires-clause-once c = one_key_text (map row_of c.args.filed.now.rows.now) c.args.filed.now.dictionary.now c.args.by_key.now c.requires

pub returns : goal.returns
returns c =
    firsts_hold (map row_of c.args.filed.now.rows.now) c.args.filed.now.dictionary.now c.args.by_key.now c.in_ok-firsts.firsts.items c.requires (c.in_ok-firsts.ensures.count ∙ sym (length-map c.args.filed.now.rows.now row_of)) c.in_ok-firsts.ensures.firsts
