-- A set of the tokens that were seen.
use Rattle.std.proofs.Common.{◌≡◌, ℕ, ◌+◌, ◌<◌, List, [], ◌∷◌, length, drop, get_or, zero, suc, inl, inr, Bool, true, false, not, ◌&&◌, ◌||◌, Bor, refl, sym, ap, ◌∙◌}
use Rattle.std.specs.List.{list_any}
use Rattle.std.specs.Ordering.{is_eq, match_ordering}
use Rattle.std.specs.declared.cmp.Ordering.{Ordering}
use Rattle.std.specs.declared.cmp.Ordering.TheVariants.{Less, Equal, Greater}
use Rattle.std.specs.BTreeSet.{insert_key}
use Rattle.std.specs.Str.{bytes_eq}
use Rattle.std.proofs.lemmas.Bool.{and_parts, cases_Bool, false≢true}
use Rattle.std.proofs.lemmas.List.{at_drop_more}
use Rattle.std.proofs.lemmas.Slice.Eq.{bytes_eq-Decides}
use Rattle.reg_policy.specs.Callers.{are_unique, has_token}
use Rattle.reg_policy.specs.declared.callers.Credential.{Credential}

-- one of the keys has these bytes
abbrev pub has_key : List ℕ → List (Bor (List ℕ)) → Bool
has_key token keys = list_any (λ k. bytes_eq token k.now) keys

swap_or : (a b c : Bool) → (a || (b || c)) ≡ (b || (a || c))
swap_or true true c = refl
swap_or a b c = refl

same_or : (a c : Bool) → (a || c) ≡ (a || (a || c))
same_or true c = refl
same_or false c = refl

put : (token : List ℕ) (k x : Bor (List ℕ)) (xs more : List (Bor (List ℕ))) (o : Ordering) → is_eq o ≡ bytes_eq k.now x.now
    → has_key token more ≡ (bytes_eq token k.now || has_key token xs)
    → has_key token (match_ordering o (k ∷ x ∷ xs) (x ∷ xs) (x ∷ more)) ≡ (bytes_eq token k.now || has_key token (x ∷ xs))
put token k x xs more Less is ih = refl
put token k x xs more Equal is ih =
    let same : k.now ≡ x.now = (bytes_eq-Decides k.now x.now).0 (sym is) in
    rw same (same_or (bytes_eq token x.now) (has_key token xs))
put token k x xs more Greater is ih = ap (λ b. bytes_eq token x.now || b) ih ∙ swap_or (bytes_eq token x.now) (bytes_eq token k.now) (has_key token xs)

-- a set with one key more
pub has_key-insert : (cmp : Bor (List ℕ) → Bor (List ℕ) → Ordering) → ((k x : Bor (List ℕ)) → is_eq (cmp k x) ≡ bytes_eq k.now x.now)
    → (token : List ℕ) (k : Bor (List ℕ)) (keys : List (Bor (List ℕ))) → has_key token (insert_key cmp keys k) ≡ (bytes_eq token k.now || has_key token keys)
has_key-insert cmp same token k [] = refl
has_key-insert cmp same token k (x ∷ xs) = put token k x xs (insert_key cmp xs k) (cmp k x) (same k x) (has_key-insert cmp same token k xs)

-- whether a set has a key
pub contains-has_key : (cmp : Bor (List ℕ) → Bor (List ℕ) → Ordering) → ((k x : Bor (List ℕ)) → is_eq (cmp k x) ≡ bytes_eq k.now x.now)
    → (k : Bor (List ℕ)) (keys : List (Bor (List ℕ))) → list_any (λ x. is_eq (cmp k x)) keys ≡ has_key k.now keys
contains-has_key cmp same k [] = refl
contains-has_key cmp same k (x ∷ xs) = rw (same k x, contains-has_key cmp same k xs)

-- the callers from a place on, one by one
unique_at : (xs : List Credential) (j : ℕ) (x : Credential) → j < length xs → x ≡ get_or xs j x
    → are_unique (drop j xs) ≡ (not (has_token x.token (drop (j + 1) xs)) && are_unique (drop (j + 1) xs))
unique_at xs j x low is = at_drop_more are_unique xs j x low ∙ rw (← is) refl

token_at : (token : List ℕ) (xs : List Credential) (j : ℕ) (x : Credential) → j < length xs → x ≡ get_or xs j x
    → has_token token (drop j xs) ≡ (bytes_eq token x.token || has_token token (drop (j + 1) xs))
token_at token xs j x low is = at_drop_more (has_token token) xs j x low ∙ rw (← is) refl

unique_later : (xs : List Credential) (i : ℕ) → are_unique xs ≡ true → are_unique (drop i xs) ≡ true
unique_later xs zero all = all
unique_later [] (suc i) all = refl
unique_later (x ∷ xs) (suc i) all = unique_later xs i (and_parts (not (has_token x.token xs)) (are_unique xs) all).1

-- one caller more, whose token the set had not
pub seen_more : (cmp : Bor (List ℕ) → Bor (List ℕ) → Ordering) → ((k x : Bor (List ℕ)) → is_eq (cmp k x) ≡ bytes_eq k.now x.now)
    → (xs : List Credential) (j i : ℕ) (x : Credential) (k : Bor (List ℕ)) (before after : List (Bor (List ℕ))) → j + 1 ≡ i → j < length xs → x ≡ get_or xs j x
    → k.now ≡ x.token → after ≡ insert_key cmp before k → not (list_any (λ q. is_eq (cmp k q)) before) ≡ true
    → ((token : List ℕ) → has_key token before ≡ has_token token (drop i xs)) → are_unique (drop i xs) ≡ true
    → ((token : List ℕ) → has_key token after ≡ has_token token (drop j xs)) × (are_unique (drop j xs) ≡ true)
seen_more cmp same xs j i x k before after next low is key put new had all = (
  λ token. rw (put, token_at token xs j x low is, next, ← had token, ← key) (has_key-insert cmp same token k before),
  rw (unique_at xs j x low is, next, all, ← key, ← had k.now, ← contains-has_key cmp same k before, new) refl,
)

-- one whose token it had
pub seen_twice : (cmp : Bor (List ℕ) → Bor (List ℕ) → Ordering) → ((k x : Bor (List ℕ)) → is_eq (cmp k x) ≡ bytes_eq k.now x.now)
    → (xs : List Credential) (j i : ℕ) (x : Credential) (k : Bor (List ℕ)) (before : List (Bor (List ℕ))) → j + 1 ≡ i → j < length xs → x ≡ get_or xs j x
    → k.now ≡ x.token → not (list_any (λ q. is_eq (cmp k q)) before) ≡ false
    → ((token : List ℕ) → has_key token before ≡ has_token token (drop i xs)) → are_unique xs ≡ false
seen_twice cmp same xs j i x k before next low is key old had = elim (cases_Bool (are_unique xs)) [
  | inl all ↦
      let later : are_unique (drop j xs) ≡ false = rw (unique_at xs j x low is, next, ← key, ← had k.now, ← contains-has_key cmp same k before, old) refl in
      absurd (false≢true (sym later ∙ unique_later xs j all))
  | inr twice ↦ twice
]
