-- A loop that picks a text of each entry that passes a test.
use Rattle.std.proofs.Common.{◌≡◌, ℕ, ◌+◌, ◌<◌, Bool, true, false, List, [], ◌∷◌, ◌++◌, length, get_or, map, take, Bor, refl, sym, ap, ◌∙◌, arith}
use Rattle.std.specs.List.{filter}
use Rattle.std.proofs.lemmas.List.{append-nil, take_more, get_or-map, length-map, map-append}
use Rattle.std.proofs.lemmas.List.Elements.{filter-append}

-- the values of the references so far, with the next
next_value : {X : Type 0} (refs : List (Bor X)) (i : ℕ) (e : Bor X) → i < length refs → e ≡ get_or refs i e
    → take (i + 1) (map (λ (r : Bor X). r.now) refs) ≡ take i (map (λ (r : Bor X). r.now) refs) ++ e.now ∷ []
next_value {X} refs i e lt is =
    let value : Bor X → X = λ r. r.now in
    let all = map value refs in
    let below : i < length all = omega (arith, lt, length-map refs value) in
    let here : get_or all i e.now ≡ e.now = get_or-map value refs i e e.now lt ∙ ap value (sym is) in
    take_more all i e.now below ∙ ap (λ (x : X). take i all ++ x ∷ []) here

-- one more entry, whose text is picked
pub picked_each : {X : Type 0} (text : X → List ℕ) (refs : List (Bor X)) (i : ℕ) (e : Bor X) (picked : List (Bor (List ℕ))) (t : Bor (List ℕ))
    → i < length refs → e ≡ get_or refs i e → t.now ≡ text e.now
    → map (λ (r : Bor (List ℕ)). r.now) picked ≡ map text (take i (map (λ (r : Bor X). r.now) refs))
    → map (λ (r : Bor (List ℕ)). r.now) (picked ++ t ∷ []) ≡ map text (take (i + 1) (map (λ (r : Bor X). r.now) refs))
picked_each {X} text refs i e picked t lt is at before =
    let value : Bor X → X = λ r. r.now in
    map-append (λ (r : Bor (List ℕ)). r.now) picked (t ∷ []) ∙ ap (λ (l : List (List ℕ)). l ++ t.now ∷ []) before
    ∙ ap (λ (x : List ℕ). map text (take i (map value refs)) ++ x ∷ []) at
    ∙ sym (map-append text (take i (map value refs)) (e.now ∷ [])) ∙ ap (map text) (sym (next_value refs i e lt is))

-- one more entry that passes, whose text is picked
pub picked_yes : {X : Type 0} (test : X → Bool) (text : X → List ℕ) (refs : List (Bor X)) (i : ℕ) (e : Bor X) (picked : List (Bor (List ℕ))) (t : Bor (List ℕ))
    → i < length refs → e ≡ get_or refs i e → test e.now ≡ true → t.now ≡ text e.now
    → map (λ (r : Bor (List ℕ)). r.now) picked ≡ map text (filter test (take i (map (λ (r : Bor X). r.now) refs)))
    → map (λ (r : Bor (List ℕ)). r.now) (picked ++ t ∷ []) ≡ map text (filter test (take (i + 1) (map (λ (r : Bor X). r.now) refs)))
picked_yes {X} test text refs i e picked t lt is passes at before =
    let value : Bor X → X = λ r. r.now in
    let earlier = take i (map value refs) in
    let one : filter test (e.now ∷ []) ≡ e.now ∷ [] = rw passes refl in
    let next : filter test (take (i + 1) (map value refs)) ≡ filter test earlier ++ e.now ∷ [] =
    ap (filter test) (next_value refs i e lt is) ∙ filter-append test earlier (e.now ∷ []) ∙ ap (λ (l : List X). filter test earlier ++ l) one in
    map-append (λ (r : Bor (List ℕ)). r.now) picked (t ∷ []) ∙ ap (λ (l : List (List ℕ)). l ++ t.now ∷ []) before
    ∙ ap (λ (x : List ℕ). map text (filter test earlier) ++ x ∷ []) at
    ∙ sym (map-append text (filter test earlier) (e.now ∷ [])) ∙ ap (map text) (sym next)

-- one more entry that does not pass
pub picked_no : {X : Type 0} (test : X → Bool) (text : X → List ℕ) (refs : List (Bor X)) (i : ℕ) (e : Bor X) (picked : List (Bor (List ℕ)))
    → i < length refs → e ≡ get_or refs i e → test e.now ≡ false
    → map (λ (r : Bor (List ℕ)). r.now) picked ≡ map text (filter test (take i (map (λ (r : Bor X). r.now) refs)))
    → map (λ (r : Bor (List ℕ)). r.now) picked ≡ map text (filter test (take (i + 1) (map (λ (r : Bor X). r.now) refs)))
picked_no {X} test text refs i e picked lt is fails before =
    let value : Bor X → X = λ r. r.now in
    let earlier = take i (map value refs) in
    let one : filter test (e.now ∷ []) ≡ [] = rw fails refl in
    let next : filter test (take (i + 1) (map value refs)) ≡ filter test earlier =
    ap (filter test) (next_value refs i e lt is) ∙ filter-append test earlier (e.now ∷ []) ∙ ap (λ (l : List X). filter test earlier ++ l) one ∙ append-nil (filter test earlier) in
    before ∙ ap (map text) (sym next)
