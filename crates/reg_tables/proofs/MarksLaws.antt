-- Lemmas on the definitions of specs/Marks.antt.
use Rattle.std.proofs.Common.{◌≡◌, ℕ, zero, suc, ◌+◌, ◌-◌, ◌<◌, ◌≤◌, List, [], ◌∷◌, ◌++◌, map, length, Bool, true}
use Rattle.std.proofs.Common.{false, Option, Some, None, slice_get, refl, sym, ap, subst, ◌∙◌, arith}
use Rattle.std.specs.Prelude.{option_map}
use Rattle.std.specs.List.Sorted.{IsPermutation}
use Rattle.std.proofs.lemmas.List.{map-append}
use Rattle.std.proofs.lemmas.List.Sorted.{IsPermutation-cons, IsPermutation-to_front}
use Rattle.std.proofs.lemmas.Option.{slice_get-map}
use Rattle.reg_store.specs.Sent.{Sent}
use Rattle.reg_store.specs.Deposit.{Deposit, with_withdrawn, sents, new_deposit}
use Rattle.reg_tables.specs.Rows.{number_row}
use Rattle.reg_tables.specs.Register.{mark_rows, marks_of}

-- ---- what was sent stays

-- what was sent of a deposit is at its place
pub sent_at : (list : List Deposit) (k : ℕ) (d : Deposit) → slice_get list k ≡ Some d
    → slice_get (sents list) k ≡ Some d.sent
sent_at list k d at = slice_get-map (λ (x : Deposit). x.sent) list k ∙ ap (option_map (λ (x : Deposit). x.sent)) at

some_sent : (o : Option Deposit) (sent : Sent) → option_map (λ (x : Deposit). x.sent) o ≡ Some sent
    → (d : Deposit) × (o ≡ Some d) × (d.sent ≡ sent)
some_sent None sent h = absurd cc
some_sent (Some d) sent h = (d, refl, cc)

-- what was sent at a place is that of the deposit there
pub deposit_there : (list : List Deposit) (k : ℕ) (sent : Sent) → slice_get (sents list) k ≡ Some sent
    → (d : Deposit) × (slice_get list k ≡ Some d) × (d.sent ≡ sent)
deposit_there list k sent at =
    some_sent (slice_get list k) sent (sym (slice_get-map (λ (x : Deposit). x.sent) list k) ∙ at)

-- ---- a list without marks

pub none_withdrawn : (n : ℕ) (list : List Sent) → mark_rows n (marks_of (map new_deposit list)) ≡ []
none_withdrawn n [] = refl
none_withdrawn n (d ∷ list) = none_withdrawn (n + 1) list

pub sents_unmarked : (list : List Sent) → sents (map new_deposit list) ≡ list
sents_unmarked [] = refl
sents_unmarked (d ∷ list) = ap (λ more. d ∷ more) (sents_unmarked list)

-- ---- what was sent, with marks that are found beside it

abbrev pub paired : List Sent → List Bool → List Deposit
paired [] marks = []
paired (d ∷ list) [] = []
paired (d ∷ list) (mark ∷ marks) = record { sent = d; withdrawn = mark } ∷ paired list marks

pub sents_paired : (list : List Sent) (marks : List Bool) → length marks ≡ length list
    → sents (paired list marks) ≡ list
sents_paired [] marks long = refl
sents_paired (d ∷ list) [] long = absurd (omega (arith, long))
sents_paired (d ∷ list) (mark ∷ marks) long = ap (λ more. d ∷ more) (sents_paired list marks (omega (arith, long)))

pub marks_paired : (list : List Sent) (marks : List Bool) → length marks ≡ length list
    → marks_of (paired list marks) ≡ marks
marks_paired [] [] long = refl
marks_paired (d ∷ list) (mark ∷ marks) long = ap (λ more. mark ∷ more) (marks_paired list marks (omega (arith, long)))
marks_paired list marks long = absurd (omega (arith, long))

-- ---- marks leave the length

pub length_marked : (n : ℕ) (list : List Deposit) → length (with_withdrawn n list) ≡ length list
length_marked n [] = refl
length_marked zero (d ∷ list) = refl
length_marked (suc zero) (d ∷ list) = refl
length_marked (suc (suc n)) (d ∷ list) = ap suc (length_marked (suc n) list)

pub marked_none : (n : ℕ) (list : List Deposit) → (0 < n → n ≤ length list → ⊥) → with_withdrawn n list ≡ list
marked_none n [] none = refl
marked_none zero (d ∷ list) none = refl
marked_none (suc zero) (d ∷ list) none = absurd (none (omega arith) (omega arith))
marked_none (suc (suc n)) (d ∷ list) none =
    ap (λ more. d ∷ more) (marked_none (suc n) list (λ low high. none (omega arith) (omega (arith, high))))

-- ---- a deposit more, and a mark more

push_false : (n : ℕ) (marks : List Bool) → mark_rows n (marks ++ false ∷ []) ≡ mark_rows n marks
push_false n [] = refl
push_false n (true ∷ marks) = ap (λ more. number_row n ∷ more) (push_false (n + 1) marks)
push_false n (false ∷ marks) = push_false (n + 1) marks

pub marks_push : (list : List Deposit) (d : Sent)
    → mark_rows 1 (marks_of (list ++ new_deposit d ∷ [])) ≡ mark_rows 1 (marks_of list)
marks_push list d =
    ap (mark_rows 1) (map-append (λ (x : Deposit). x.withdrawn) list (new_deposit d ∷ [])) ∙ push_false 1 (marks_of list)

pub sents_push : (list : List Deposit) (d : Sent) → sents (list ++ new_deposit d ∷ []) ≡ sents list ++ d ∷ []
sents_push list d = map-append (λ (x : Deposit). x.sent) list (new_deposit d ∷ [])

more_marks : (m k : ℕ) (list : List Deposit) (d : Deposit) → slice_get list k ≡ Some d
    → d.withdrawn ≡ false → IsPermutation (mark_rows m (marks_of list) ++ number_row (m + k) ∷ [])
    (mark_rows m (marks_of (with_withdrawn (suc k) list)))
more_marks m k [] d at none = absurd cc
more_marks m zero (x ∷ list) d at none =
    let same : x ≡ d = cc in
    let bare : x.withdrawn ≡ false = ap (λ (y : Deposit). y.withdrawn) same ∙ none in
    let e : m + 0 ≡ m = omega arith in
    let rest = mark_rows (m + 1) (marks_of list) in
    subst (λ b. IsPermutation (mark_rows m (b ∷ marks_of list) ++ number_row (m + 0) ∷ []) (number_row m ∷ rest)) (sym bare)
    (subst (λ j. IsPermutation (rest ++ number_row j ∷ []) (number_row m ∷ rest)) (sym e)
    (IsPermutation-to_front rest (number_row m)))
more_marks m (suc k) (x ∷ list) d at none =
    let e : (m + 1) + k ≡ m + suc k = omega arith in
    let rest = mark_rows (m + 1) (marks_of list) in
    let more = mark_rows (m + 1) (marks_of (with_withdrawn (suc k) list)) in
    go x.withdrawn (subst (λ j. IsPermutation (rest ++ number_row j ∷ []) more) e (more_marks (m + 1) k list d at none))
  where
    go : (b : Bool) → IsPermutation (mark_rows (m + 1) (marks_of list) ++ number_row (m + suc k) ∷ [])
        (mark_rows (m + 1) (marks_of (with_withdrawn (suc k) list)))
        → IsPermutation (mark_rows m (b ∷ marks_of list) ++ number_row (m + suc k) ∷ [])
        (mark_rows m (b ∷ marks_of (with_withdrawn (suc k) list)))
    go true later = IsPermutation-cons (number_row m) _ _ later
    go false later = later

-- the marks of a list with one deposit marked are those of the list, and that one
pub mark_more : (n : ℕ) (list : List Deposit) (d : Deposit) → 0 < n → slice_get list (n - 1) ≡ Some d → d.withdrawn
    ≡ false → IsPermutation (mark_rows 1 (marks_of list) ++ number_row n ∷ []) (mark_rows 1 (marks_of (with_withdrawn n list)))
mark_more n list d low at none =
    let e : suc (n - 1) ≡ n = omega (arith, low) in
    let f : 1 + (n - 1) ≡ n = omega (arith, low) in
    subst
    (λ j. IsPermutation (mark_rows 1 (marks_of list) ++ number_row n ∷ []) (mark_rows 1 (marks_of (with_withdrawn j list)))) e
    (subst (λ j. IsPermutation (mark_rows 1 (marks_of list) ++ number_row j ∷ [])
    (mark_rows 1 (marks_of (with_withdrawn (suc (n - 1)) list)))) f (more_marks 1 (n - 1) list d at none))
