-- The place of a heading in a group's order.
use Rattle.std.proofs.Common.{◌≡◌, ℕ, ◌+◌, ◌≤◌, Bool, true, false, cond, not, eqb, ltb, List, [], ◌∷◌, ◌++◌, length, map, Option, Some, None, position, slice_get, refl, sym, ap, ◌∙◌, inl, inr, arith, ◌&&◌}
use Rattle.std.specs.List.{filter, list_any, position_or_len}
use Rattle.std.specs.Option.{option_map, option_or, is_some}
use Rattle.std.specs.Str.{bytes_eq}
use Rattle.std.proofs.lemmas.Bool.{cases_Bool, lt-ltb, le-ltb}
use Rattle.std.proofs.lemmas.Bool.Decides.{nat_tests}
use Rattle.std.proofs.lemmas.List.{length-map, length-append, map-append, append-nil}
use Rattle.std.proofs.lemmas.List.Elements.{filter-append}
use Rattle.std.proofs.lemmas.List.Sums.{prefix_len-le-length}
use Rattle.std.proofs.lemmas.List.Folds.{position_or_len_push, prefix_len-append, find_at}
use Rattle.std.proofs.lemmas.Option.{slice_get_cases}
use Rattle.ags_rows.specs.Contents.{place_in}
use Rattle.ags_dict.specs.declared.entries.HeadingEntry.{HeadingEntry}
use Rattle.ags_dict.specs.Index.{of_group, is_named}
use Rattle.ags_dict.proofs.Held.{same_bytes}
use Rattle.ags_dict.proofs.Found.{found_any}

place_map : {X Y : Type 0} (f : X → Y) (p : Y → Bool) (xs : List X) → position_or_len p (map f xs) ≡ position_or_len (λ x. p (f x)) xs
place_map f p [] = refl
place_map f p (x ∷ xs) = rw (place_map f p xs) refl

-- there is a place where one passes
position_any : {X : Type 0} (p : X → Bool) (xs : List X) → is_some (position p xs) ≡ list_any p xs
position_any p xs =
    let n = position_or_len p xs in
    let found : is_some (slice_get xs n) ≡ list_any p xs = ap is_some (sym (find_at p xs)) ∙ found_any p xs in
    elim (slice_get_cases xs n).1 [
      | inl at ↦ ap (λ (b : Bool). is_some (cond b (Some n) None)) (lt-ltb n (length xs) at.1) ∙ sym (ap is_some at.2) ∙ found
      | inr past ↦ ap (λ (b : Bool). is_some (cond b (Some n) None)) (le-ltb n (length xs) past.0) ∙ sym (ap is_some past.1) ∙ found
    ]

pub rank_any : (entries : List HeadingEntry) (heading : List ℕ) → is_some (place_in (map (λ (e : HeadingEntry). e.heading) entries) heading) ≡ list_any (is_named heading) entries
rank_any entries heading =
    rw (place_map (λ (e : HeadingEntry). e.heading) (λ h. bytes_eq h heading) entries, length-map entries (λ (e : HeadingEntry). e.heading)) (position_any (is_named heading) entries)

-- the place n of a list of m items, if it has one
abbrev at : ℕ → ℕ → Option ℕ
at n m = cond (ltb n m) (Some n) None

-- the place of the first of a list that passes, or of the next item
pushed_at : (n m : ℕ) (t : Bool) → n ≤ m → at (cond (eqb n m) (m + cond t 0 1) n) (m + 1) ≡ option_or (at n m) (cond t (Some m) None)
pushed_at n m t le = grind (arith, nat_tests)

position_push : {X : Type 0} (p : X → Bool) (xs : List X) (y : X) → position p (xs ++ y ∷ []) ≡ option_or (position p xs) (cond (p y) (Some (length xs)) None)
position_push p xs y =
    let n = position_or_len p xs in
    let m = length xs in
    ap (λ (k : ℕ). at k (length (xs ++ y ∷ []))) (position_or_len_push p xs y) ∙ ap (at (cond (eqb n m) (m + cond (p y) 0 1) n)) (length-append xs (y ∷ []))
    ∙ pushed_at n m (p y) (prefix_len-le-length (λ x. not (p x)) xs)

position_append : {X : Type 0} (p : X → Bool) (xs ys : List X)
    → position p (xs ++ ys) ≡ at (cond (eqb (position_or_len p xs) (length xs)) (length xs + position_or_len p ys) (position_or_len p xs)) (length xs + length ys)
position_append p xs ys =
    let n = cond (eqb (position_or_len p xs) (length xs)) (length xs + position_or_len p ys) (position_or_len p xs) in
    ap (λ (i : ℕ). at i (length (xs ++ ys))) (prefix_len-append (λ x. not (p x)) xs ys) ∙ ap (at n) (length-append xs ys)

first_at : (n m j l k : ℕ) → n ≤ m → at n m ≡ Some k → at (cond (eqb n m) (m + j) n) (m + l) ≡ Some k
first_at n m j l k le h = grind (arith, nat_tests, h)

-- the first that passes, of a list that has one
position_first : {X : Type 0} (p : X → Bool) (xs ys : List X) (k : ℕ) → position p xs ≡ Some k → position p (xs ++ ys) ≡ Some k
position_first p xs ys k h = position_append p xs ys ∙ first_at _ _ _ _ k (prefix_len-le-length (λ x. not (p x)) xs) h

after_at : (n m j l : ℕ) → n ≤ m → at n m ≡ None → at (cond (eqb n m) (m + j) n) (m + l) ≡ cond (ltb j l) (Some (m + j)) None
after_at n m j l le h = grind (arith, nat_tests, h)

moved : (m j : ℕ) (t : Bool) → cond t (Some (m + j)) None ≡ option_map (λ k. m + k) (cond t (Some j) None)
moved m j true = refl
moved m j false = refl

-- the first that passes, after a list of which none does
position_after : {X : Type 0} (p : X → Bool) (xs ys : List X) → position p xs ≡ None → position p (xs ++ ys) ≡ option_map (λ k. length xs + k) (position p ys)
position_after p xs ys h =
    let j = position_or_len p ys in
    position_append p xs ys ∙ after_at _ _ j (length ys) (prefix_len-le-length (λ x. not (p x)) xs) h ∙ moved (length xs) j (ltb j (length ys))

-- the headings of a group in entries, in their order
abbrev pub order_in : List ℕ → List HeadingEntry → List (List ℕ)
order_in group entries = map (λ (e : HeadingEntry). e.heading) (filter (of_group group) entries)

order_append : (group : List ℕ) (xs ys : List HeadingEntry) → order_in group (xs ++ ys) ≡ order_in group xs ++ order_in group ys
order_append group xs ys = rw (filter-append (of_group group) xs ys) (map-append (λ (e : HeadingEntry). e.heading) (filter (of_group group) xs) (filter (of_group group) ys))

-- the place of a heading that is in the first of two lists of entries
pub place_first : (group heading : List ℕ) (xs ys all : List HeadingEntry) (k : ℕ) → place_in (order_in group xs) heading ≡ Some k → xs ++ ys ≡ all → Some k ≡ place_in (order_in group all) heading
place_first group heading xs ys all k h e =
    let here : place_in (order_in group (xs ++ ys)) heading ≡ Some k =
    ap (λ (l : List (List ℕ)). place_in l heading) (order_append group xs ys) ∙ position_first (λ q. bytes_eq q heading) (order_in group xs) (order_in group ys) k h in
    sym here ∙ ap (λ (l : List HeadingEntry). place_in (order_in group l) heading) e

-- the place of a heading that is not
pub place_after : (group heading : List ℕ) (xs ys all : List HeadingEntry) (earlier : ℕ) (own : Option ℕ) → place_in (order_in group xs) heading ≡ None → earlier ≡ length (filter (of_group group) xs)
    → own ≡ place_in (order_in group ys) heading → xs ++ ys ≡ all → option_map (λ k. earlier + k) own ≡ place_in (order_in group all) heading
place_after group heading xs ys all earlier own none count at e =
    let size : length (order_in group xs) ≡ earlier = length-map (filter (of_group group) xs) (λ (e : HeadingEntry). e.heading) ∙ sym count in
    let here : place_in (order_in group (xs ++ ys)) heading ≡ option_map (λ k. earlier + k) own =
    ap (λ (l : List (List ℕ)). place_in l heading) (order_append group xs ys) ∙ position_after (λ q. bytes_eq q heading) (order_in group xs) (order_in group ys) none
    ∙ ap (λ (n : ℕ). option_map (λ k. n + k) (place_in (order_in group ys) heading)) size ∙ ap (option_map (λ k. earlier + k)) (sym at) in
    sym here ∙ ap (λ (l : List HeadingEntry). place_in (order_in group l) heading) e

-- one more heading
pub rank_push : (headings : List (List ℕ)) (heading q : List ℕ) → place_in (headings ++ heading ∷ []) q ≡ option_or (place_in headings q) (cond (bytes_eq heading q) (Some (length headings)) None)
rank_push headings heading q = position_push (λ h. bytes_eq h q) headings heading

pub or_none : (o : Option ℕ) → option_or o None ≡ o
or_none None = refl
or_none (Some n) = refl

-- the orders of groups after one more entry
pub ordered : (entries : List HeadingEntry) (e : HeadingEntry) (g h : List ℕ) (rank : ℕ) → rank ≡ length (filter (of_group e.group) entries)
    → place_in (map (λ (e : HeadingEntry). e.heading) (filter (of_group g) (entries ++ e ∷ []))) h
    ≡ option_or (place_in (map (λ (e : HeadingEntry). e.heading) (filter (of_group g) entries)) h) (cond (bytes_eq e.group g && bytes_eq e.heading h) (Some rank) None)
ordered entries e g h rank is = elim (cases_Bool (bytes_eq e.group g)) [
  | inl t ↦
      let at_g : rank ≡ length (map (λ (e : HeadingEntry). e.heading) (filter (of_group g) entries)) =
      is ∙ ap (λ (k : List ℕ). length (filter (of_group k) entries)) (same_bytes e.group g t) ∙ sym (length-map (filter (of_group g) entries) (λ (e : HeadingEntry). e.heading)) in
      rw (filter-append (of_group g) entries (e ∷ []), t, map-append (λ (e : HeadingEntry). e.heading) (filter (of_group g) entries) (e ∷ []), at_g) (rank_push (map (λ (e : HeadingEntry). e.heading) (filter (of_group g) entries)) e.heading h)
  | inr f ↦ rw (filter-append (of_group g) entries (e ∷ []), f, append-nil (filter (of_group g) entries)) (sym (or_none _))
]
