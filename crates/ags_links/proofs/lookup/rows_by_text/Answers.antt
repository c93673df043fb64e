use Rattle.std.proofs.Common.{rules}
use Rattle.std.proofs.lemmas.Cmp.{nat_list_cmp_total}
use Rattle.std.proofs.lemmas.List.Sorted.{answers_always, ranks_by}
use Rattle.ags_links.proofs.ByText.{key, below, sorted_keeps}
use Rattle.ags_links.proofs.lookup.rows_by_text.Goals as goal

pub returns : goal.returns
returns c = λ text. sorted_keeps c.args.pairs.items c.sort_by.new.self.items text (c.in_ok-sort_by.ensures.stable below (ranks_by nat_list_cmp_total key) (answers_always _ _ _ (λ f a r g h. search rules)))

pub invariant_of-result : goal.invariant_of-result
invariant_of-result c = record {
  sorted = c.in_ok-sort_by.ensures.sorted below (ranks_by nat_list_cmp_total key) (answers_always _ _ _ (λ f a r g h. search rules));
  alone = search rules;
}
