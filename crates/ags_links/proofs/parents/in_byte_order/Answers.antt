use Rattle.std.proofs.lemmas.List.Sorted.{IsPermutation-sym}
use Rattle.ags_links.proofs.Heading.{texts_permuted}
use Rattle.ags_links.proofs.parents.in_byte_order.Goals as goal

pub returns : goal.returns
returns c = λ name.
    let names = c.args.names.items in
    let sorted = c.sort_unstable.new.self.items in
    let moved = c.sort_unstable.ensures.permutation in
    (texts_permuted sorted names name (IsPermutation-sym names sorted moved), texts_permuted names sorted name moved)
