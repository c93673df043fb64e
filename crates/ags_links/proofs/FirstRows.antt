-- The first row of each text, read off pairs in the order of their texts.
use Rattle.std.proofs.Common.{◌≡◌, ◌≢◌, ℕ, suc, ◌+◌, ◌-◌, ◌<◌, ◌≤◌, true, false, not, cond, List, [], ◌∷◌, ◌++◌, length, take, drop, get_or, set, refl, sym, ap, subst, ◌∙◌, arith, Contains, inl, inr, ◌⊎◌}
use Rattle.std.specs.Ordering.{is_lt}
use Rattle.std.specs.Str.{bytes_eq}
use Rattle.std.proofs.lemmas.Bool.{true≢false, cases_Bool, cases_lt, and_from, not_from_false}
use Rattle.std.proofs.lemmas.Cmp.{nat_list_cmp_total}
use Rattle.std.proofs.lemmas.List.{take-append-drop, get_or-set_same, get_or-set_other, length-set, get_or-take, get_or_default, length-take-le}
use Rattle.std.proofs.lemmas.List.Elements.{Contains-append_left, Contains-append_right, Contains-append_cases}
use Rattle.std.proofs.lemmas.List.Sorted.{sorted_far, ranks_by}
use Rattle.std.proofs.lemmas.Slice.Eq.{bytes_eq-Decides}
use Rattle.std.proofs.Math.Seq.{take-suc, drop-cons}
use Rattle.ags_links.specs.Lookups.{Lookup, found, pairs_of, AreInOrder, HasOneText}
use Rattle.ags_links.proofs.ByText.{Pair, key, order, below, tied, found_append, pushed}
use Rattle.ags_links.proofs.Members.{contains_head, contains_if, contains_tail}

-- up to pair k each row has its first row; the pair at `first` is the first of the text of the pair before k
pub record Led (lookup : Lookup) (pairs : List Pair) (count k first : ℕ) (firsts : List ℕ) : Type 0 where
  pub size : length firsts ≡ count
  pub not_after : first ≤ k
  pub lead : (d : Pair) → 0 < k → (key (get_or pairs first d) ≡ key (get_or pairs (k - 1) d)) × ((get_or pairs first d).1 ≡ get_or (found lookup (key (get_or pairs (k - 1) d))) 0 0)
  pub done : (text : List ℕ) (n : ℕ) → Contains (found (pairs_of (take k pairs)) text) n → get_or firsts n 0 ≡ get_or (found lookup text) 0 0

-- the first of the pairs is found by its text
found_head : (p : Pair) (ps : List Pair) → found (pairs_of (p ∷ ps)) (key p) ≡ p.1 ∷ found (pairs_of ps) (key p)
found_head p ps = rw ((bytes_eq-Decides (key p) (key p)).1 refl)

-- none of the pairs has the text
none_found : (ps : List Pair) (text : List ℕ) → ((p : Pair) → Contains ps p → key p ≢ text) → found (pairs_of ps) text ≡ []
none_found [] text others = refl
none_found (p ∷ ps) text others = elim (cases_Bool (bytes_eq (key p) text)) [
  | inl is ↦ absurd (others p (contains_head p ps) ((bytes_eq-Decides (key p) text).0 is))
  | inr is ↦ rw is (none_found ps text (λ q h. others q (contains_tail p ps q h)))
]

-- the first pair of a text is first among those found
first_is_found : (pairs : List Pair) (k : ℕ) (d : Pair) → k < length pairs → ((p : Pair) → Contains (take k pairs) p → key p ≢ key (get_or pairs k d)) → get_or (found (pairs_of pairs) (key (get_or pairs k d))) 0 0 ≡ (get_or pairs k d).1
first_is_found pairs k d lt others =
    let p = get_or pairs k d in
    ap (λ ps. get_or (found (pairs_of ps) (key p)) 0 0) (sym (take-append-drop k pairs))
    ∙ ap (λ l. get_or l 0 0) (found_append (take k pairs) (drop k pairs) (key p))
    ∙ ap (λ l. get_or (l ++ found (pairs_of (drop k pairs)) (key p)) 0 0) (none_found (take k pairs) (key p) others)
    ∙ ap (λ ps. get_or (found (pairs_of ps) (key p)) 0 0) (drop-cons pairs k d lt)
    ∙ ap (λ l. get_or l 0 0) (found_head p (drop (suc k) pairs))

-- the row of a pair is found by the pair's text
pub row_found : (pairs : List Pair) (k : ℕ) (d : Pair) → k < length pairs → Contains (found (pairs_of pairs) (key (get_or pairs k d))) (get_or pairs k d).1
row_found pairs k d lt =
    let p = get_or pairs k d in
    subst (λ ps. Contains (found (pairs_of ps) (key p)) p.1) (take-append-drop k pairs)
    (subst (λ l. Contains l p.1) (sym (found_append (take k pairs) (drop k pairs) (key p)))
    (Contains-append_right (found (pairs_of (take k pairs)) (key p)) (found (pairs_of (drop k pairs)) (key p)) p.1
    (subst (λ ps. Contains (found (pairs_of ps) (key p)) p.1) (sym (drop-cons pairs k d lt)) (subst (λ l. Contains l p.1) (sym (found_head p (drop (suc k) pairs))) (contains_head p.1 (found (pairs_of (drop (suc k) pairs)) (key p)))))))

-- what is found among the first pairs is found
early_found : (pairs : List Pair) (k : ℕ) (text : List ℕ) (n : ℕ) → Contains (found (pairs_of (take k pairs)) text) n → Contains (found (pairs_of pairs) text) n
early_found pairs k text n h =
    subst (λ ps. Contains (found (pairs_of ps) text) n) (take-append-drop k pairs)
    (subst (λ l. Contains l n) (sym (found_append (take k pairs) (drop k pairs) text)) (Contains-append_left (found (pairs_of (take k pairs)) text) (found (pairs_of (drop k pairs)) text) n h))

module _ (pairs : List Pair) (sorted : AreInOrder pairs) where
  -- where the pair before k has another text, all before it have others
  no_earlier : (k : ℕ) (d : Pair) → 0 < k → k < length pairs → key (get_or pairs (k - 1) d) ≢ key (get_or pairs k d) → (p : Pair) → Contains (take k pairs) p → key p ≢ key (get_or pairs k d)
  no_earlier k d some lt other p h same =
      let last = get_or pairs (k - 1) d in
      let here = get_or pairs k d in
      let few : h.0 < k = omega (arith, h.1, length-take-le k pairs (omega (arith, lt))) in
      let is : get_or pairs h.0 p ≡ p = sym (get_or-take k pairs h.0 p few) ∙ h.2 in
      let up = sorted_far below (ranks_by nat_list_cmp_total key) pairs sorted in
      let low : below last (get_or pairs h.0 p) ≡ false = ap (λ q. below q (get_or pairs h.0 p)) (get_or_default pairs (k - 1) d p (omega (arith, some, lt))) ∙ up h.0 (k - 1) p (omega (arith, few)) (omega (arith, some, lt)) in
      let not_above : below last here ≡ false = ap (λ t. is_lt (order (key last) t)) (sym (ap key is ∙ same)) ∙ low in
      let not_below : below here last ≡ false = up (k - 1) k d (omega arith) lt in
      let tie = and_from (not (below last here)) (not (below here last)) (not_from_false (below last here) not_above) (not_from_false (below here last) not_below) in
      other (sym ((bytes_eq-Decides (key here) (key last)).0 (sym (tied last here) ∙ tie)))

  module _ (lookup : Lookup) (is : pairs_of pairs ≡ lookup) (once : HasOneText lookup) (count k first : ℕ) (firsts : List ℕ) (d : Pair) (lt : k < length pairs) (led : Led lookup pairs count k first firsts) where
    abbrev here : Pair
    here = get_or pairs k d

    -- the first row of the text of pair k
    abbrev head : ℕ
    head = get_or (found lookup (key here)) 0 0

    head_is : ((p : Pair) → Contains (take k pairs) p → key p ≢ key here) → here.1 ≡ head
    head_is others = sym (first_is_found pairs k d lt others) ∙ ap (λ l. get_or (found l (key here)) 0 0) is

    -- pair k begins a text
    pub begun : key (get_or pairs first d) ≢ key here → here.1 ≡ head
    begun other = head_is (elim (cases_lt 0 k) [
      | inl some ↦ no_earlier k d some lt (λ same. other ((led.lead d some).0 ∙ same))
      | inr none ↦ λ p h. absurd (omega (arith, h.1, length-take-le k pairs (omega (arith, lt)), none))
    ])

    -- pair k has the text of the pair before it, or is the first of all
    pub goes_on : key (get_or pairs first d) ≡ key here → (get_or pairs first d).1 ≡ head
    goes_on same = elim (cases_lt 0 k) [
      | inl some ↦ (led.lead d some).1 ∙ ap (λ t. get_or (found lookup t) 0 0) (sym (led.lead d some).0 ∙ same)
      | inr none ↦ ap (λ i. (get_or pairs i d).1) (here_is none) ∙ head_is (λ p h. absurd (omega (arith, h.1, length-take-le k pairs (omega (arith, lt)), none)))
    ] where
      here_is : k ≤ 0 → first ≡ k
      here_is none = omega (arith, none, led.not_after)

    pub led_next : (next : ℕ) → next ≤ k → key (get_or pairs next d) ≡ key here → (get_or pairs next d).1 ≡ head → here.1 < count → Led lookup pairs count (k + 1) next (set firsts here.1 (get_or pairs next d).1)
    led_next next le same row few = record {
      size = length-set firsts here.1 (get_or pairs next d).1 ∙ led.size;
      not_after = omega (arith, le);
      lead = λ e some. (
        ap key (get_or_default pairs next e d (omega (arith, le, lt))) ∙ same ∙ sym (ap key (last e)),
        ap (λ (p : Pair). p.1) (get_or_default pairs next e d (omega (arith, le, lt))) ∙ row ∙ ap (λ t. get_or (found lookup t) 0 0) (sym (ap key (last e))),
      );
      done = λ text n h. elim (Contains-append_cases (found (pairs_of (take k pairs)) text) (cond (bytes_eq (key here) text) (here.1 ∷ []) []) n (subst (λ l. Contains l n) (grown text) h)) [
        | inl before ↦ elim (cases_lt n here.1) [ inl under ↦ kept text n before (omega (arith, under)) | inr ge ↦ elim (cases_lt here.1 n) [ inl more ↦ kept text n before (omega (arith, more)) | inr also ↦ mine text n (omega (arith, ge, also)) (early text n before) ] ]
        | inr own ↦ added text n own
      ];
    } where
      plus : k + 1 ≡ suc k
      plus = omega arith

      less : k + 1 - 1 ≡ k
      less = omega arith

      last : (e : Pair) → get_or pairs (k + 1 - 1) e ≡ here
      last e = ap (λ i. get_or pairs i e) less ∙ get_or_default pairs k e d lt

      grown : (text : List ℕ) → found (pairs_of (take (k + 1) pairs)) text ≡ found (pairs_of (take k pairs)) text ++ cond (bytes_eq (key here) text) (here.1 ∷ []) []
      grown text = ap (λ ps. found (pairs_of ps) text) (ap (λ i. take i pairs) plus ∙ take-suc pairs k d lt) ∙ pushed (take k pairs) here.0 here.1 text

      early : (text : List ℕ) (n : ℕ) → Contains (found (pairs_of (take k pairs)) text) n → Contains (found lookup text) n
      early text n h = subst (λ l. Contains (found l text) n) is (early_found pairs k text n h)

      kept : (text : List ℕ) (n : ℕ) → Contains (found (pairs_of (take k pairs)) text) n → n ≢ here.1 → get_or (set firsts here.1 (get_or pairs next d).1) n 0 ≡ get_or (found lookup text) 0 0
      kept text n h other = get_or-set_other firsts here.1 n (get_or pairs next d).1 0 other ∙ led.done text n h

      here_found : Contains (found lookup (key here)) here.1
      here_found = subst (λ l. Contains (found l (key here)) here.1) is (row_found pairs k d lt)

      -- the row of pair k, by whichever text it is found
      mine : (text : List ℕ) (n : ℕ) → n ≡ here.1 → Contains (found lookup text) n → get_or (set firsts here.1 (get_or pairs next d).1) n 0 ≡ get_or (found lookup text) 0 0
      mine text n e h =
          let texts : key here ≡ text = once here.1 (key here) text here_found (subst (Contains (found lookup text)) e h) in
          ap (λ i. get_or (set firsts here.1 (get_or pairs next d).1) i 0) e ∙ get_or-set_same firsts here.1 (get_or pairs next d).1 0 (omega (arith, few, led.size)) ∙ row ∙ ap (λ t. get_or (found lookup t) 0 0) texts

      added : (text : List ℕ) (n : ℕ) → Contains (cond (bytes_eq (key here) text) (here.1 ∷ []) []) n → get_or (set firsts here.1 (get_or pairs next d).1) n 0 ≡ get_or (found lookup text) 0 0
      added text n h =
          let is = contains_if (bytes_eq (key here) text) here.1 n h in
          mine text n (sym is.1) (subst (λ t. Contains (found lookup t) n) ((bytes_eq-Decides (key here) text).0 is.0) (subst (Contains (found lookup (key here))) is.1 here_found))

    -- the same, as the loop has it
    pub led_step : (x y : Pair) (next : ℕ) → get_or pairs k d ≡ x → get_or pairs next d ≡ y → x.1 < count → ((next ≡ k) × (bytes_eq (key (get_or pairs first d)) (key x) ≡ false)) ⊎ ((next ≡ first) × (bytes_eq (key (get_or pairs first d)) (key x) ≡ true))
        → Led lookup pairs count (k + 1) next (set firsts x.1 y.1)
    led_step x y next is_x is_y few chosen = subst (λ z. Led lookup pairs count (k + 1) next (set firsts x.1 z.1)) is_y (subst (λ z. Led lookup pairs count (k + 1) next (set firsts z.1 (get_or pairs next d).1)) is_x (elim chosen [
      | inl begins ↦ subst (λ n. Led lookup pairs count (k + 1) n (set firsts here.1 (get_or pairs n d).1)) (sym begins.0)
          (led_next k (omega arith) refl (begun (λ same. true≢false (sym ((bytes_eq-Decides (key (get_or pairs first d)) (key x)).1 (same ∙ ap key is_x)) ∙ begins.1))) here_few)
      | inr stays ↦
          let same : key (get_or pairs first d) ≡ key here = (bytes_eq-Decides (key (get_or pairs first d)) (key x)).0 stays.1 ∙ ap key (sym is_x) in
          subst (λ n. Led lookup pairs count (k + 1) n (set firsts here.1 (get_or pairs n d).1)) (sym stays.0) (led_next first led.not_after same (goes_on same) here_few)
    ])) where
      here_few : here.1 < count
      here_few = subst (λ (z : Pair). z.1 < count) (sym is_x) few
