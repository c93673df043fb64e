-- What is added to a list, element after element of another.
use Rattle.std.proofs.Common.{◌≡◌, ℕ, ◌+◌, ◌<◌, ◌≤◌, List, [], ◌∷◌, ◌++◌, length, take, drop, get_or, map, flat_map, sym, ap, ◌∙◌, append_assoc, arith}
use Rattle.std.proofs.lemmas.List.{take_more, take_all, drop_all, append-nil, flat_map_more, map_push, map_more as list_map_more}
use Rattle.std.proofs.lemmas.List.Concat.{flat_map-append}

pub flat_map_push : {X A : Type 0} (f : X → List A) (xs : List X) (x : X) → flat_map f (xs ++ x ∷ []) ≡ flat_map f xs ++ f x
flat_map_push f xs x = flat_map-append f xs (x ∷ []) ∙ ap (λ l. flat_map f xs ++ l) (append-nil (f x))

-- one more element
pub grow_more : {X A : Type 0} (f : X → List A) (start out new : List A) (xs : List X) (i : ℕ) (d : X) → i < length xs
    → out ≡ start ++ flat_map f (take i xs) → new ≡ out ++ f (get_or xs i d) → new ≡ start ++ flat_map f (take (i + 1) xs)
grow_more f start out new xs i d lt so_far grown =
    grown ∙ ap (λ l. l ++ f (get_or xs i d)) so_far ∙ flat_map_more f start (take i xs) (get_or xs i d) ∙ ap (λ l. start ++ flat_map f l) (sym (take_more xs i d lt))

-- all of them
pub grow_all : {X A : Type 0} (f : X → List A) (start out : List A) (xs : List X) (i : ℕ) → length xs ≤ i → out ≡ start ++ flat_map f (take i xs) → out ≡ start ++ flat_map f xs
grow_all f start out xs i le so_far = so_far ∙ ap (λ l. start ++ flat_map f l) (take_all i xs le)

-- all of them, and an end
pub grow_end : {X A : Type 0} (f : X → List A) (start out new end : List A) (xs : List X) (i : ℕ) → length xs ≤ i → out ≡ start ++ flat_map f (take i xs) → new ≡ out ++ end → new ≡ start ++ (flat_map f xs ++ end)
grow_end f start out new end xs i le so_far grown = grown ∙ ap (λ l. l ++ end) (grow_all f start out xs i le so_far) ∙ append_assoc start (flat_map f xs) end

-- one more of what is made of each element, by two steps
pub mapped_more : {X Y Z : Type 0} (f : Y → Z) (g : X → Y) (start out : List Z) (xs : List X) (i : ℕ) (x : X) → i < length xs → x ≡ get_or xs i x
    → out ≡ start ++ map f (map g (take i xs)) → out ++ f (g x) ∷ [] ≡ start ++ map f (map g (take (i + 1) xs))
mapped_more f g start out xs i x lt is so_far =
    ap (λ l. l ++ f (g x) ∷ []) so_far ∙ append_assoc start (map f (map g (take i xs))) (f (g x) ∷ [])
    ∙ ap (λ y. start ++ (map f (map g (take i xs)) ++ f (g y) ∷ [])) is ∙ ap (λ l. start ++ l) (sym (ap (map f) (list_map_more g xs i x lt) ∙ map_push f (map g (take i xs)) (g (get_or xs i x))))

-- what a slice of the whole list was made to be is the list then
pub written_back : {X : Type 0} (n : ℕ) (xs ys : List X) → n ≡ length ys → length xs ≡ length ys → take n (xs ++ drop (length xs) ys) ≡ xs
written_back n xs ys len same =
    ap (λ l. take n (xs ++ l)) (drop_all (length xs) ys (omega (arith, same))) ∙ ap (take n) (append-nil xs) ∙ take_all n xs (omega (arith, len, same))

-- one more of what is made of each element
pub map_more : {X A : Type 0} (f : X → A) (start out new : List A) (xs : List X) (i : ℕ) (d : X) → i < length xs
    → out ≡ start ++ map f (take i xs) → new ≡ out ++ f (get_or xs i d) ∷ [] → new ≡ start ++ map f (take (i + 1) xs)
map_more f start out new xs i d lt so_far grown =
    grown ∙ ap (λ l. l ++ f (get_or xs i d) ∷ []) so_far ∙ append_assoc start (map f (take i xs)) (f (get_or xs i d) ∷ [])
    ∙ ap (λ l. start ++ l) (sym (list_map_more f xs i d lt))
