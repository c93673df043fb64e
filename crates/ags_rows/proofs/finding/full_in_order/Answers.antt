use Rattle.std.proofs.Common.{refl}
use Rattle.std.proofs.lemmas.List.Filters.{dedup_is}
use Rattle.std.proofs.lemmas.List.Kept.{Contains-dedup, Contains-from_dedup, IsStrictlySortedBy-dedup}
use Rattle.std.proofs.lemmas.List.Sorted.{Contains-permutation, IsPermutation-sym}
use Rattle.std.proofs.lemmas.Map.Views.{tells_apart}
use Rattle.std.specs.Cmp.{eq_by_cmp_equiv}
use Rattle.ags_rows.specs.FindingOrder.{finding_total}
use Rattle.ags_rows.proofs.Files.{finding_exact}
use Rattle.ags_rows.proofs.finding.full_in_order.Goals as goal

pub returns : goal.returns
returns c =
    let is = dedup_is _ _ _ c.dedup.ensures.filtered in
    let moved = c.sort_unstable.ensures.permutation in
    record {
      in_order = rw is (IsStrictlySortedBy-dedup finding_total (λ x y. refl) _ c.sort_unstable.ensures.sorted);
      only = λ f h. Contains-permutation _ _ f (IsPermutation-sym _ _ moved) (Contains-from_dedup _ _ f (rw is at h));
      all = λ f h. rw is (Contains-dedup (eq_by_cmp_equiv finding_total) (tells_apart finding_exact) _ f (Contains-permutation _ _ f moved h));
    }
