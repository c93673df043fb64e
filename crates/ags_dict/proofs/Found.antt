-- What the places of a list's items find.
use Rattle.std.proofs.Common.{◌≡◌, ℕ, zero, suc, ◌+◌, ◌<◌, ◌≤◌, Bool, true, false, cond, ◌&&◌, List, [], ◌∷◌, ◌++◌, length, get_or, map, take, Option, Some, None, slice_get, option_copied, Bor, refl, sym, ap, ◌∙◌, inl, inr}
use Rattle.std.specs.List.{filter, find, list_any, filter_map, cons_option}
use Rattle.std.specs.Str.{bytes_eq}
use Rattle.std.specs.Option.{option_and_then, option_map_or, option_or, is_some, option_to_list}
use Rattle.std.proofs.lemmas.Bool.{cases_Bool}
use Rattle.std.proofs.lemmas.List.{append-nil, length-map, map-append, take_more, take_all}
use Rattle.std.proofs.lemmas.List.Folds.{list_any_more, list_any_at, find-append}
use Rattle.std.proofs.lemmas.List.Elements.{filter-append, filter_map-append}
use Rattle.ags_dict.specs.Index.{ArePlaces}

-- an item keeps its place where more follow
get_append : {X : Type 0} (xs ys : List X) (k : ℕ) (x : X) → slice_get xs k ≡ Some x → slice_get (xs ++ ys) k ≡ Some x
get_append [] ys k x h = absurd (cc)
get_append (y ∷ xs) ys zero x h = h
get_append (y ∷ xs) ys (suc k) x h = get_append xs ys k x h

get_pushed : {X : Type 0} (xs : List X) (y : X) → slice_get (xs ++ y ∷ []) (length xs) ≡ Some y
get_pushed [] y = refl
get_pushed (x ∷ xs) y = get_pushed xs y

kept : {X : Type 0} (xs ys es : List X) (places : List ℕ) → map (slice_get xs) places ≡ map Some es → map (slice_get (xs ++ ys)) places ≡ map Some es
kept xs ys es [] h = h
kept xs ys [] (p ∷ places) h = absurd (cc)
kept xs ys (e ∷ es) (p ∷ places) h =
    rw (get_append xs ys p e cc, kept xs ys es places cc) refl

-- one more item
pub places_push : {X : Type 0} (test : X → Bool) (xs : List X) (y : X) (places : List ℕ) → ArePlaces test xs places
    → ArePlaces test (xs ++ y ∷ []) (cond (test y) (places ++ length xs ∷ []) places)
places_push test xs y places h = elim (cases_Bool (test y)) [
  | inl t ↦ rw (t, filter-append test xs (y ∷ []), t, map-append (slice_get (xs ++ y ∷ [])) places (length xs ∷ []), map-append Some (filter test xs) (y ∷ []), get_pushed xs y, kept xs (y ∷ []) (filter test xs) places h) refl
  | inr f ↦ rw (f, filter-append test xs (y ∷ []), f, append-nil (filter test xs)) (kept xs (y ∷ []) (filter test xs) places h)
]

-- one more item, whose place is noted at its name
pub noted : {X : Type 0} (test : List ℕ → X → Bool) (xs pushed : List X) (x : X) (old new : List ℕ → List ℕ) (name : List ℕ) (place : ℕ)
    → ((text : List ℕ) → test text x ≡ bytes_eq name text) → place ≡ length xs → pushed ≡ xs ++ x ∷ []
    → ((text : List ℕ) → new text ≡ cond (bytes_eq name text) (old text ++ place ∷ []) (old text))
    → ((text : List ℕ) → ArePlaces (test text) xs (old text)) → (text : List ℕ) → ArePlaces (test text) pushed (new text)
noted test xs pushed x old new name place same at more notes h text =
    rw (notes text, more, at, ← same text) (places_push (test text) xs x (old text) (h text))

-- the k-th place leads to the k-th item that passes
get_places : {X : Type 0} (xs es : List X) (places : List ℕ) (k : ℕ) → map (slice_get xs) places ≡ map Some es → option_and_then (slice_get xs) (slice_get places k) ≡ slice_get es k
get_places xs [] [] k h = refl
get_places xs (e ∷ es) (p ∷ places) zero h = cc
get_places xs (e ∷ es) (p ∷ places) (suc k) h = get_places xs es places k cc
get_places xs es places k h = absurd cc

pub place_leads : {X : Type 0} (test : X → Bool) (xs : List X) (places : List ℕ) (k : ℕ) → ArePlaces test xs places
    → option_and_then (slice_get xs) (slice_get places k) ≡ slice_get (filter test xs) k
place_leads test xs places k h = get_places xs (filter test xs) places k h

pub places_length : {X : Type 0} (test : X → Bool) (xs : List X) (places : List ℕ) → ArePlaces test xs places → length places ≡ length (filter test xs)
places_length test xs places h = sym (length-map places (slice_get xs)) ∙ ap length h ∙ length-map (filter test xs) Some

pub any_map : {X Y : Type 0} (seen : X → Y) (test : Y → Bool) (xs : List X) → list_any test (map seen xs) ≡ list_any (λ x. test (seen x)) xs
any_map seen test [] = refl
any_map seen test (x ∷ xs) = rw (any_map seen test xs) refl

pub place_any : {X : Type 0} (wanted test : X → Bool) (xs : List X) (places : List ℕ) → ArePlaces test xs places
    → list_any (λ p. option_map_or wanted (slice_get xs p) false) places ≡ list_any wanted (filter test xs)
place_any {X} wanted test xs places h =
    let passes = λ (o : Option X). option_map_or wanted o false in
    sym (any_map (slice_get xs) passes places) ∙ ap (list_any passes) h ∙ any_map Some passes (filter test xs)

map_places : {X : Type 0} (xs es : List X) (places : List ℕ) → map (slice_get xs) places ≡ map Some es → filter_map (slice_get xs) places ≡ es
map_places xs [] [] h = refl
map_places xs (e ∷ es) (p ∷ places) h = let here : slice_get xs p ≡ Some e = cc in rw (here, map_places xs es places cc) refl
map_places xs es places h = absurd cc

pub place_all : {X : Type 0} (test : X → Bool) (xs : List X) (places : List ℕ) → ArePlaces test xs places → filter_map (slice_get xs) places ≡ filter test xs
place_all test xs places h = map_places xs (filter test xs) places h

-- ---- filters and finds

pub first_passing : {X : Type 0} (test : X → Bool) (xs : List X) → slice_get (filter test xs) 0 ≡ find test xs
first_passing test [] = refl
first_passing test (x ∷ xs) = elim (cases_Bool (test x)) [ inl t ↦ rw t refl | inr f ↦ rw f (first_passing test xs) ]

-- of two lists, one that the first has
pub find_first : {X : Type 0} (p : X → Bool) (xs ys all : List X) (x : X) → find p xs ≡ Some x → xs ++ ys ≡ all → Some x ≡ find p all
find_first {X} p xs ys all x h e = sym (find-append p xs ys ∙ ap (λ (o : Option X). option_or o (find p ys)) h) ∙ ap (find p) e

-- of two lists, one that the first does not have
pub find_after : {X : Type 0} (p : X → Bool) (xs ys all : List X) → find p xs ≡ None → xs ++ ys ≡ all → find p ys ≡ find p all
find_after {X} p xs ys all h e = sym (find-append p xs ys ∙ ap (λ (o : Option X). option_or o (find p ys)) h) ∙ ap (find p) e

pub any_both : {X : Type 0} (p q : X → Bool) (xs : List X) → list_any (λ x. p x && q x) xs ≡ list_any q (filter p xs)
any_both p q [] = refl
any_both p q (x ∷ xs) = elim (cases_Bool (p x)) [ inl t ↦ rw t (rw (any_both p q xs) refl) | inr f ↦ rw f (any_both p q xs) ]

pub filter_both : {X : Type 0} (p q : X → Bool) (xs : List X) → filter (λ x. p x && q x) xs ≡ filter q (filter p xs)
filter_both p q [] = refl
filter_both p q (x ∷ xs) = elim (cases_Bool (p x)) [ inl t ↦ rw t (rw (filter_both p q xs) refl) | inr f ↦ rw f (filter_both p q xs) ]

pub found_any : {X : Type 0} (test : X → Bool) (xs : List X) → is_some (find test xs) ≡ list_any test xs
found_any test [] = refl
found_any test (x ∷ xs) = elim (cases_Bool (test x)) [ inl t ↦ rw t refl | inr f ↦ rw f (found_any test xs) ]

-- a reference is found where its value is
pub copied_some : {X : Type 0} (r : Option (Bor X)) (o : Option X) → option_copied r ≡ o → is_some o ≡ is_some r
copied_some None o h = ap is_some (sym h)
copied_some (Some x) o h = ap is_some (sym h)

only : {X : Type 0} (r : Option (Bor X)) (o : Option X) → option_copied r ≡ o → map (λ e. e.now) (option_to_list r) ≡ cons_option o []
only None o h = rw (← h) refl
only (Some x) o h = rw (← h) refl

-- what a place leads to, after what the places before it lead to
pub leads_more : {X : Type 0} (xs : List X) (places : List ℕ) (i : ℕ) (found : List (Bor X)) (r : Option (Bor X)) → i < length places
    → option_copied r ≡ slice_get xs (get_or places i 0) → map (λ e. e.now) found ≡ filter_map (slice_get xs) (take i places)
    → map (λ e. e.now) (found ++ option_to_list r) ≡ filter_map (slice_get xs) (take (i + 1) places)
leads_more {X} xs places i found r lt at before =
    let one : map (λ e. e.now) (option_to_list r) ≡ filter_map (slice_get xs) (get_or places i 0 ∷ []) = only r (slice_get xs (get_or places i 0)) at in
    map-append (λ (e : Bor X). e.now) found (option_to_list r) ∙ ap (λ (l : List X). l ++ map (λ e. e.now) (option_to_list r)) before
    ∙ ap (λ (l : List X). filter_map (slice_get xs) (take i places) ++ l) one
    ∙ sym (filter_map-append (slice_get xs) (take i places) (get_or places i 0 ∷ [])) ∙ ap (filter_map (slice_get xs)) (sym (take_more places i 0 lt))

-- ---- a loop that tests what is seen of each item

-- one more, which fails
pub seen_more : {X Y : Type 0} (seen : X → Y) (test : Y → Bool) (xs : List X) (i : ℕ) (x : X) → i < length xs → x ≡ get_or xs i x → test (seen x) ≡ false
    → list_any test (map seen (take i xs)) ≡ false → list_any test (map seen (take (i + 1) xs)) ≡ false
seen_more seen test xs i x lt is fails before =
    any_map seen test (take (i + 1) xs) ∙ list_any_more (λ y. test (seen y)) xs i x lt
    ∙ (let here : test (seen (get_or xs i x)) ≡ false = rw (← is) fails in rw (here, ← any_map seen test (take i xs), before) refl)

-- one that passes
pub seen_at : {X Y : Type 0} (seen : X → Y) (test : Y → Bool) (xs : List X) (i : ℕ) (x : X) → i < length xs → x ≡ get_or xs i x → test (seen x) ≡ true
    → list_any test (map seen xs) ≡ true
seen_at seen test xs i x lt is passes =
    any_map seen test xs ∙ list_any_at (λ y. test (seen y)) xs i x lt (rw (← is) passes)

-- all of them
pub seen_all : {X Y : Type 0} (seen : X → Y) (test : Y → Bool) (xs : List X) (i : ℕ) → length xs ≤ i → list_any test (map seen (take i xs)) ≡ false → list_any test (map seen xs) ≡ false
seen_all seen test xs i le before = rw (take_all i xs le) at before
