-- Pairs of a text and a row, by text: what one more pair adds, what a sort leaves, and where the pairs of a text are.
use Rattle.std.proofs.Common.{◌≡◌, ℕ, suc, zero, ◌+◌, ◌-◌, ◌<◌, ◌≤◌, Bool, true, false, not, ◌&&◌, cond, List, [], ◌∷◌, ◌++◌, length, map, take, drop, get_or, refl, sym, ap, subst, ◌∙◌, arith, Vec, inl, inr, ◌⊎◌, All}
use Rattle.std.specs.declared.alloc.Global.{Global}
use Rattle.std.specs.declared.cmp.Ordering.{Ordering}
use Rattle.std.specs.Ordering.{is_lt, is_le, is_eq, nat_cmp, ordering_reverse}
use Rattle.std.specs.Cmp.Lexicographic.{slice_cmp}
use Rattle.std.specs.List.{filter, AllWithin}
use Rattle.std.specs.List.Sorted.{IsStableBy, IsPartitionedBy, ties}
use Rattle.std.specs.Str.{bytes_eq}
use Rattle.std.proofs.lemmas.Bool.{cases_Bool, true≢false, cases_lt, false_from_ne_true, true_from_ne_false, not-true}
use Rattle.std.proofs.lemmas.Cmp.{nat_list_cmp_total}
use Rattle.std.proofs.lemmas.List.{map-append, length-map, take-map, drop-map}
use Rattle.std.proofs.lemmas.List.Elements.{AllWithin-none, filter-append, filter_passes}
use Rattle.std.proofs.lemmas.List.Sorted.{sorted_far, ranks_by}
use Rattle.std.proofs.lemmas.Map.Text.{is_eq-slice_cmp}
use Rattle.std.proofs.lemmas.Simd.{map-map}
use Rattle.std.proofs.lemmas.Slice.Eq.{bytes_eq-Decides}
use Rattle.std.proofs.Math.Seq.{drop-nil, take-nil}
use Rattle.ags_links.specs.declared.lookup.Span.{Span}
use Rattle.ags_links.specs.Lookups.{Lookup, found, pairs_of, comes_before, rows_between, AreInOrder, IsEnd, IsBegin, IsBoundary, IsSpanOf}

abbrev pub Pair : Type 0
Pair = Vec ℕ Global × ℕ

abbrev pub key : Pair → List ℕ
key p = p.0.items

abbrev pub order : List ℕ → List ℕ → Ordering
order a b = slice_cmp nat_cmp a b

abbrev pub below : Pair → Pair → Bool
below p q = is_lt (order (key p) (key q))

abbrev pub has : List ℕ → Pair → Bool
has text p = bytes_eq (key p) text

-- ---- one more pair

-- what is found among pairs after others
pub found_append : (xs ys : List Pair) (text : List ℕ) → found (pairs_of (xs ++ ys)) text ≡ found (pairs_of xs) text ++ found (pairs_of ys) text
found_append xs ys text =
    ap (λ ps. found ps text) (map-append (λ (p : Pair). (key p, p.1)) xs ys)
    ∙ ap (map (λ (p : List ℕ × ℕ). p.1)) (filter-append (λ (p : List ℕ × ℕ). bytes_eq p.0 text) (pairs_of xs) (pairs_of ys))
    ∙ map-append (λ (p : List ℕ × ℕ). p.1) (filter (λ (p : List ℕ × ℕ). bytes_eq p.0 text) (pairs_of xs)) (filter (λ (p : List ℕ × ℕ). bytes_eq p.0 text) (pairs_of ys))

pub pushed : (pairs : List Pair) (text : Vec ℕ Global) (n : ℕ) (q : List ℕ) → found (pairs_of (pairs ++ (text, n) ∷ [])) q ≡ found (pairs_of pairs) q ++ cond (bytes_eq text.items q) (n ∷ []) []
pushed pairs text n q = found_append pairs ((text, n) ∷ []) q ∙ ap (λ l. found (pairs_of pairs) q ++ l) last where
  last : found (pairs_of ((text, n) ∷ [])) q ≡ cond (bytes_eq text.items q) (n ∷ []) []
  last = elim (cases_Bool (bytes_eq text.items q)) [ inl e ↦ rw e | inr e ↦ rw e ]

-- ---- what is found, by the pairs themselves

pub found_is : (pairs : List Pair) (text : List ℕ) → found (pairs_of pairs) text ≡ map (λ (p : Pair). p.1) (filter (has text) pairs)
found_is [] text = refl
found_is (p ∷ ps) text = elim (cases_Bool (has text p)) [ inl e ↦ rw e (ap (λ l. p.1 ∷ l) (found_is ps text)) | inr e ↦ rw e (found_is ps text) ]

-- ---- a stable sort by text

tie_of : (o : Ordering) → not (is_lt (ordering_reverse o)) && not (is_lt o) ≡ is_eq o
tie_of o = grind arith

pub tied : (y z : Pair) → ties below y z ≡ has (key y) z
tied y z = ap (λ o. not (is_lt o) && not (is_lt (order (key z) (key y)))) (nat_list_cmp_total.antisymm (key y) (key z)) ∙ tie_of (order (key z) (key y)) ∙ is_eq-slice_cmp (key z) (key y)

-- some pair has the text, or none
some_has : (text : List ℕ) (xs : List Pair) → ((y : Pair) × (has text y ≡ true)) ⊎ (filter (has text) xs ≡ [])
some_has text xs = by (filter (has text) xs) (filter_passes (has text) xs) where
  by : (ys : List Pair) → All (λ y. has text y ≡ true) ys → ((y : Pair) × (has text y ≡ true)) ⊎ (ys ≡ [])
  by [] pass = inr refl
  by (y ∷ ys) pass = inl (y, pass 0 y (omega arith))

pub sorted_keeps : (xs ys : List Pair) (text : List ℕ) → IsStableBy below xs ys → found (pairs_of ys) text ≡ found (pairs_of xs) text
sorted_keeps xs ys text stable = found_is ys text ∙ ap (map (λ (p : Pair). p.1)) same ∙ sym (found_is xs text) where
  by : ((y : Pair) × (has text y ≡ true)) → filter (has text) ys ≡ filter (has text) xs
  by y =
      let alike : ties below y.0 ≡ has text = (λ i z. tied y.0 z i) ∙ ap has ((bytes_eq-Decides (key y.0) text).0 y.1) in
      ap (λ t. filter t ys) (sym alike) ∙ stable y.0 ∙ ap (λ t. filter t xs) alike

  same : filter (has text) ys ≡ filter (has text) xs
  same = elim (some_has text ys) [
    | inl y ↦ by y
    | inr none ↦ elim (some_has text xs) [ inl y ↦ by y | inr also ↦ none ∙ sym also ]
  ]

-- ---- where the pairs of a text are

le_is : (o : Ordering) → is_le (ordering_reverse o) ≡ not (is_lt o)
le_is o = grind arith

not_lt : (o : Ordering) → is_lt o ≡ true → is_eq o ≡ false
not_lt o h = grind arith

not_le : (o : Ordering) → is_le o ≡ false → is_eq o ≡ false
not_le o h = grind arith

is_between : (o : Ordering) → is_lt o ≡ false → is_le o ≡ true → is_eq o ≡ true
is_between o h k = grind arith

lt_le : (o : Ordering) → is_lt o ≡ true → is_le o ≡ true
lt_le o h = grind arith

module _ (pairs : List Pair) (text : List ℕ) (sorted : AreInOrder pairs) where
  up : (i j : ℕ) (d : Pair) → i ≤ j → j < length pairs → is_lt (order (key (get_or pairs j d)) (key (get_or pairs i d))) ≡ false
  up = sorted_far below (ranks_by nat_list_cmp_total key) pairs sorted

  chain : (a b c : List ℕ) → is_lt (order a b) ≡ false → is_lt (order b c) ≡ false → is_lt (order a c) ≡ false
  chain = (ranks_by nat_list_cmp_total (λ a. a)).chain

  parted_before : IsPartitionedBy (comes_before false text) pairs
  parted_before i j d le lt h = true_from_ne_false (comes_before false text (get_or pairs i d)) (λ f. true≢false (sym h ∙ chain (key (get_or pairs j d)) (key (get_or pairs i d)) text (up i j d le lt) f))

  upto_is : (a : List ℕ) → is_le (order a text) ≡ not (is_lt (order text a))
  upto_is a = ap is_le (nat_list_cmp_total.antisymm a text) ∙ le_is (order text a)

  parted_upto : IsPartitionedBy (comes_before true text) pairs
  parted_upto i j d le lt h =
      let a = key (get_or pairs i d) in
      let b = key (get_or pairs j d) in
      upto_is a ∙ ap not (chain text b a (not-true (is_lt (order text b)) (sym (upto_is b) ∙ h)) (up i j d le lt))

  pub parted : (upto : Bool) → IsPartitionedBy (comes_before upto text) pairs
  parted true = parted_upto
  parted false = parted_before

  -- `comes_before` holds of the last below a place, and not of the one at it
  pub boundary_here : (upto : Bool) (place : ℕ) → place ≤ length pairs → IsEnd upto text pairs place → IsBegin upto text pairs place → IsBoundary upto text pairs place
  boundary_here upto place le low high = (
    le,
    (
      λ k d a b. parted upto k (place - 1) d (omega (arith, b)) (omega (arith, b, le)) (low d (omega (arith, b))),
      λ k d a b. false_from_ne_true (comes_before upto text (get_or pairs k d)) (λ h. true≢false (sym (parted upto place k d a b h) ∙ high d (omega (arith, a, b)))),
    ),
  )

-- the elements that pass are those from i on, c of them
cut : {X : Type 0} (t : X → Bool) (xs : List X) (i c : ℕ) → AllWithin (λ y. t y ≡ false) xs 0 i → AllWithin (λ y. t y ≡ true) xs i (i + c) → AllWithin (λ y. t y ≡ false) xs (i + c) (length xs) → filter t xs ≡ take c (drop i xs)
cut t [] i c low mid high = sym (ap (take c) (drop-nil i) ∙ take-nil c)
cut t (x ∷ xs) (suc i) c low mid high =
    rw (low 0 x (omega arith) (omega arith))
    (cut t xs i c (λ k d a b. low (suc k) d (omega arith) (omega (arith, b))) (λ k d a b. mid (suc k) d (omega (arith, a)) (omega (arith, b))) (λ k d a b. high (suc k) d (omega (arith, a)) (omega (arith, b))))
cut t (x ∷ xs) zero (suc c) low mid high =
    rw (mid 0 x (omega arith) (omega arith))
    (ap (λ l. x ∷ l) (cut t xs 0 c (AllWithin-none (λ y. t y ≡ false) xs 0) (λ k d a b. mid (suc k) d (omega arith) (omega (arith, b))) (λ k d a b. high (suc k) d (omega (arith, a)) (omega (arith, b)))))
cut t (x ∷ xs) zero zero low mid high =
    rw (high 0 x (omega arith) (omega arith))
    (cut t xs 0 0 (AllWithin-none (λ y. t y ≡ false) xs 0) (AllWithin-none (λ y. t y ≡ true) xs 0) (λ k d a b. high (suc k) d (omega arith) (omega (arith, b))))

eq_at : (a b : List ℕ) (o : Bool) → is_eq (order a b) ≡ o → bytes_eq a b ≡ o
eq_at a b o e = sym (is_eq-slice_cmp a b) ∙ e

-- the pairs from one place to another, and their rows
pub rows_are : (pairs : List Pair) (first end : ℕ) → rows_between (pairs_of pairs) first end ≡ map (λ (p : Pair). p.1) (take (end - first) (drop first pairs))
rows_are pairs first end = simp (drop-map, take-map, map-map)

-- the rows of all pairs
pub rows_alone : (pairs : List Pair) → map (λ (x : List ℕ × ℕ). x.1) (pairs_of pairs) ≡ map (λ (y : Pair). y.1) pairs
rows_alone pairs = map-map (λ (x : List ℕ × ℕ). x.1) (λ (p : Pair). (key p, p.1)) pairs

-- the boundary before the pairs of a text is not after the one that follows them
ends_later : (pairs : List Pair) (text : List ℕ) (first end : ℕ) → IsBoundary false text pairs first → IsBoundary true text pairs end → end < first → ⊥
ends_later [] text first end low high lt = omega (arith, low.0, lt)
ends_later (p ∷ ps) text first end low high lt = true≢false (sym (lt_le (order (key (get_or (p ∷ ps) end p)) text) (low.1.0 end p (omega arith) lt)) ∙ high.1.1 end p (omega arith) (omega (arith, lt, low.0)))

-- the pairs of a text are between its two boundaries
pub pairs_between : (pairs : List Pair) (text : List ℕ) (first end : ℕ) → IsBoundary false text pairs first → IsBoundary true text pairs end
    → (first ≤ end) × (filter (has text) pairs ≡ take (end - first) (drop first pairs))
pairs_between pairs text first end low high = (
  up,
  cut (has text) pairs first (end - first)
      (λ k d a b. eq_at (key (get_or pairs k d)) text false (not_lt (order (key (get_or pairs k d)) text) (low.1.0 k d a b)))
      (λ k d a b. eq_at (key (get_or pairs k d)) text true (is_between (order (key (get_or pairs k d)) text) (low.1.1 k d a (omega (arith, b, up, high.0))) (high.1.0 k d (omega arith) (omega (arith, b, up)))))
      (λ k d a b. eq_at (key (get_or pairs k d)) text false (not_le (order (key (get_or pairs k d)) text) (high.1.1 k d (omega (arith, a, up)) b))),
) where
  up : first ≤ end
  up = elim (cases_lt end first) [ inl lt ↦ absurd (ends_later pairs text first end low high lt) | inr ge ↦ omega (arith, ge) ]

pub span_holds : (pairs : List Pair) (lookup : Lookup) (text : List ℕ) (span : Span) → pairs_of pairs ≡ lookup → IsBoundary false text pairs span.first → IsBoundary true text pairs span.end → IsSpanOf lookup text span
span_holds pairs lookup text span is low high = subst (λ l. IsSpanOf l text span) is (
  (between.0, omega (arith, high.0, length-map {B = List ℕ × ℕ} pairs (λ p. (key p, p.1)))),
  rows_are pairs span.first span.end ∙ ap (map (λ (p : Pair). p.1)) (sym between.1) ∙ sym (found_is pairs text),
) where
  between : (span.first ≤ span.end) × (filter (has text) pairs ≡ take (span.end - span.first) (drop span.first pairs))
  between = pairs_between pairs text span.first span.end low high
