-- The index: from a text to the rows that have it.
use Rattle.std.specs.Prelude.{◌≡◌, ◌<◌, ◌≤◌, ◌↔◌, ◌-◌, ℕ, List, Vec, Bool, true, false, Contains, map, length, take, drop, slice_index_or}
use Rattle.std.specs.List.{filter}
use Rattle.std.specs.List.Sorted.{IsStrictlyIncreasing, IsSortedBy, IsPartitionPoint}
use Rattle.std.specs.Ordering.{is_lt, is_le, nat_cmp}
use Rattle.std.specs.Cmp.Lexicographic.{slice_cmp}
use Rattle.std.specs.Str.{bytes_eq}
use Rattle.std.specs.declared.alloc.Global.{Global}
use Rattle.ags_links.specs.declared.lookup.Span.{Span}

-- texts, each with a row that has it
abbrev pub Lookup : Type 0
Lookup = List (List ℕ × ℕ)

-- the rows that have the text
abbrev pub found : Lookup → List ℕ → List ℕ
found lookup text = map (λ p. p.1) (filter (λ p. bytes_eq p.0 text) lookup)

-- what the pairs that the index keeps say
abbrev pub pairs_of : List (Vec ℕ Global × ℕ) → Lookup
pairs_of pairs = map (λ p. (p.0.items, p.1)) pairs

-- no text is below the one before it
abbrev pub AreInOrder : List (Vec ℕ Global × ℕ) → Type 0
AreInOrder pairs = IsSortedBy (λ p q. is_lt (slice_cmp nat_cmp p.0.items q.0.items)) pairs

-- they are in order, and the rows are those of the pairs
pub record AreByText (pairs : List (Vec ℕ Global × ℕ)) (rows : List ℕ) : Type 0 where
  pub sorted : AreInOrder pairs
  pub alone : rows ≡ map (λ p. p.1) pairs

-- the pair is before those of the text; where these count, not after them
abbrev pub comes_before : Bool → List ℕ → Vec ℕ Global × ℕ → Bool
comes_before false text p = is_lt (slice_cmp nat_cmp p.0.items text)
comes_before true text p = is_le (slice_cmp nat_cmp p.0.items text)

-- `comes_before` holds of the last below the place, if there is one
abbrev pub IsEnd : Bool → List ℕ → List (Vec ℕ Global × ℕ) → ℕ → Type 0
IsEnd upto text pairs place =
    (d : Vec ℕ Global × ℕ) → 0 < place → comes_before upto text (slice_index_or pairs (place - 1) d) ≡ true

-- it does not hold of the one at the place, if there is one
abbrev pub IsBegin : Bool → List ℕ → List (Vec ℕ Global × ℕ) → ℕ → Type 0
IsBegin upto text pairs place =
    (d : Vec ℕ Global × ℕ) → place < length pairs → comes_before upto text (slice_index_or pairs place d) ≡ false

-- `comes_before` holds of those below the place, and of no others
abbrev pub IsBoundary : Bool → List ℕ → List (Vec ℕ Global × ℕ) → ℕ → Type 0
IsBoundary upto text pairs place =
    (place ≤ length pairs)
    × IsPartitionPoint (λ p. comes_before upto text p ≡ true) (λ p. comes_before upto text p ≡ false) pairs place

-- the rows of the pairs from one place to another
abbrev pub rows_between : Lookup → ℕ → ℕ → List ℕ
rows_between lookup first end = map (λ p. p.1) (take (end - first) (drop first lookup))

-- the span is within the pairs
abbrev pub IsWithin : Lookup → Span → Type 0
IsWithin lookup span = (span.first ≤ span.end) × (span.end ≤ length lookup)

-- the rows that have the text are those of the span
abbrev pub IsSpanOf : Lookup → List ℕ → Span → Type 0
IsSpanOf lookup text span = IsWithin lookup span × (rows_between lookup span.first span.end ≡ found lookup text)

-- for each text the rows that have it, rising
pub record Finds (lookup : Lookup) (Has : ℕ → List ℕ → Type 0) : Type 0 where
  pub rising : (text : List ℕ) → IsStrictlyIncreasing (found lookup text)
  pub exact : (text : List ℕ) (n : ℕ) → Contains (found lookup text) n ↔ Has n text

-- for each text that is asked for, the rows that have it, rising
pub record FindsAsked (lookup : Lookup) (IsAsked : List ℕ → Type 0) (Has : ℕ → List ℕ → Type 0) : Type 0 where
  pub rising : (text : List ℕ) → IsStrictlyIncreasing (found lookup text)
  pub exact : (text : List ℕ) → IsAsked text → (n : ℕ) → Contains (found lookup text) n ↔ Has n text

-- no row has two texts
abbrev pub HasOneText : Lookup → Type 0
HasOneText lookup =
    (n : ℕ) (text other : List ℕ) → Contains (found lookup text) n → Contains (found lookup other) n → text ≡ other

-- at the place of each row is the first row that has its text
abbrev pub AreFirstWith : Lookup → List ℕ → Type 0
AreFirstWith lookup firsts =
    (text : List ℕ) (n : ℕ) → Contains (found lookup text) n
    → slice_index_or firsts n 0 ≡ slice_index_or (found lookup text) 0 0
