-- The first places of names in a list.
use Rattle.std.proofs.Common.{◌≡◌, ℕ, ◌+◌, ◌<◌, ◌≤◌, Bool, true, false, not, cond, eqb, ltb, Option, Some, None, List, [], ◌∷◌, ◌++◌, length, take, get_or, map, refl, ap, subst, ◌∙◌, arith}
use Rattle.std.specs.Prelude.{is_some}
use Rattle.std.specs.Borrow.{Bor}
use Rattle.std.specs.Ordering.{nat_cmp}
use Rattle.std.specs.Str.{bytes_eq}
use Rattle.std.specs.List.{position_or_len}
use Rattle.std.specs.Cmp.Lexicographic.{slice_cmp}
use Rattle.std.specs.BTreeMap.{BTreeMap, UpdatesBy}
use Rattle.std.proofs.lemmas.Bool.{true≢false}
use Rattle.std.proofs.lemmas.List.{take_more, length-take-le, length_push, length-map, map-append}
use Rattle.std.proofs.lemmas.List.Sums.{prefix_len-le-length}
use Rattle.std.proofs.lemmas.Bool.Decides.{nat_tests}
use Rattle.std.proofs.lemmas.List.Folds.{position_or_len_push}
use Rattle.std.proofs.lemmas.Map.Text.{btree_map_updates_str}
use Rattle.std.proofs.lemmas.Slice.Eq.{bytes_eq-Decides}
use Rattle.ags_rows.specs.Contents.{place_in}
use Rattle.ags_rows.specs.Places.{first_of, place_if, place_at}

-- ---- one more name at the end of a list

push_place : (n end : ℕ) (t : Bool) → n ≤ end
    → cond (ltb (cond (eqb n end) (end + cond t 0 1) n) (end + 1)) (Some (cond (eqb n end) (end + cond t 0 1) n)) None ≡ first_of (cond (ltb n end) (Some n) None) (cond t (Some end) None)
push_place n end t le = grind (arith, nat_tests)

pub place_push : (xs : List (List ℕ)) (x name : List ℕ) → place_in (xs ++ x ∷ []) name ≡ first_of (place_in xs name) (place_if x name (length xs))
place_push xs x name =
    let test : List ℕ → Bool = λ h. bytes_eq h name in
    let n = position_or_len test xs in
    let more = cond (eqb n (length xs)) (length xs + cond (test x) 0 1) n in
    ap (λ (m : ℕ). cond {A = Option ℕ} (ltb m (length (xs ++ x ∷ []))) (Some m) None) (position_or_len_push test xs x)
    ∙ ap (λ (k : ℕ). cond {A = Option ℕ} (ltb more k) (Some more) None) (length_push xs x)
    ∙ push_place n (length xs) (test x) (prefix_len-le-length (λ h. not (test h)) xs)

-- the next name of a list
pub place_more : (names : List (Bor (List ℕ))) (i : ℕ) (d : Bor (List ℕ)) (name : List ℕ) → i < length names
    → place_in (map (λ n. n.now) (take (i + 1) names)) name ≡ first_of (place_in (map (λ n. n.now) (take i names)) name) (place_if (get_or names i d).now name i)
place_more names i d name lt =
    let x = get_or names i d in
    let now : Bor (List ℕ) → List ℕ = λ n. n.now in
    let front = take i names in
    let size : length (map now front) ≡ i = omega (arith, length-map front now, length-take-le i names (omega arith)) in
    let next : take (i + 1) names ≡ front ++ x ∷ [] = take_more names i d lt in
    ap (λ (l : List (Bor (List ℕ))). place_in (map now l) name) next
    ∙ ap (λ (l : List (List ℕ)). place_in l name) (map-append now front (x ∷ []))
    ∙ place_push (map now front) x.now name
    ∙ ap (λ (k : ℕ). first_of (place_in (map now front) name) (place_if x.now name k)) size

-- ---- the index of names

none_there : (place : Option ℕ) → is_some place ≡ false → place ≡ None
none_there None e = refl
none_there (Some place) e = absurd (true≢false e)

added_by : (t : Bool) (old : Option ℕ) (place : ℕ) → (t ≡ true → old ≡ None) → cond t (Some place) old ≡ first_of old (cond t (Some place) None)
added_by true old place none = rw (none refl) refl
added_by false None place none = refl
added_by false (Some other) place none = refl

-- a name that the index does not have goes to its place
pub added : (name : List ℕ) (place : ℕ) (old new : BTreeMap (Bor (List ℕ)) ℕ) → is_some (place_at old name) ≡ false
    → UpdatesBy (λ x y. slice_cmp nat_cmp x.now y.now) (λ key. slice_cmp nat_cmp name key.now) old new (Some place)
    → (other : List ℕ) → place_at new other ≡ first_of (place_at old other) (place_if name other place)
added name place old new absent updates other =
    btree_map_updates_str name old new (Some place) updates other
    ∙ added_by (bytes_eq name other) (place_at old other) place
    (λ e. subst (λ n. place_at old n ≡ None) ((bytes_eq-Decides name other).0 e) (none_there (place_at old name) absent))
