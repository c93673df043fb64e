use Rattle.std.proofs.Common.{refl}
use Rattle.std.proofs.lemmas.List.Filters.{dedup_is}
use Rattle.std.proofs.lemmas.List.Kept.{Contains-dedup, Contains-from_dedup, IsStrictlySortedBy-dedup}
use Rattle.std.proofs.lemmas.List.Sorted.{Contains-permutation, IsPermutation-sym}
use Rattle.std.proofs.lemmas.Map.Views.{tells_apart}
use Rattle.std.specs.Cmp.{eq_by_cmp_equiv}
use Rattle.ags_rows.specs.FindingOrder.{finding_cmp}
use Rattle.ags_rows.specs.FindingLists.{bare_finding, bare_total}
use Rattle.ags_rows.proofs.FindingLists.{bare_exact, mapped_within, sorted_mapped}
use Rattle.ags_rows.proofs.finding.bare_in_order.Goals as goal

pub returns : goal.returns
returns c =
    let is = dedup_is _ _ _ c.dedup.ensures.filtered in
    let moved = c.sort_unstable.ensures.permutation in
    record {
      in_order = rw is (sorted_mapped bare_finding finding_cmp _ (IsStrictlySortedBy-dedup bare_total (λ x y. refl) _ c.sort_unstable.ensures.sorted));
      only = mapped_within bare_finding _ _ (λ x h. Contains-permutation _ _ x (IsPermutation-sym _ _ moved) (Contains-from_dedup _ _ x (rw is at h)));
      all = mapped_within bare_finding _ _ (λ x h. rw is (Contains-dedup (eq_by_cmp_equiv bare_total) (tells_apart bare_exact) _ x (Contains-permutation _ _ x moved h)));
    }
