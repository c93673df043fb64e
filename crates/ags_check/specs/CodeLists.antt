-- What a file lists, as it is looked up.
use Rattle.std.specs.Prelude.{◌≡◌, ◌≢◌, ◌++◌, ℕ, List, [], Bool, true, false, ◌&&◌, not, map, flat_map, codes, if◌then◌else◌}
use Rattle.std.specs.Borrow.{Bor}
use Rattle.std.specs.List.{list_any}
use Rattle.std.specs.Ordering.{nat_cmp, ordering_then}
use Rattle.std.specs.Cmp.Lexicographic.{slice_cmp}
use Rattle.std.specs.BTreeSet.{BTreeSet, contains_by}
use Rattle.std.specs.Str.{bytes_eq}
use Rattle.ags_rows.specs.Contents.{Contents, under}
use Rattle.ags_rows.specs.Parts.{parts_at}
use Rattle.ags_links.specs.RecordLinks.{separators_of}

-- ---- the lists

-- what is read from each row of the groups of this name
abbrev pub read_rows : {X : Type 0} → List ℕ → (List (List ℕ) → List (List ℕ) → X) → List Contents → List X
read_rows name read file =
    flat_map (λ group. if bytes_eq group.name name then map (read group.headings) group.rows else []) file

-- the texts under a heading in the groups of this name
abbrev pub listed_texts : List Contents → List ℕ → List ℕ → List (List ℕ)
listed_texts file name heading = read_rows name (λ headings fields. under headings fields heading) file

-- the texts under a heading in the rows of one group
abbrev pub texts_under : Contents → List ℕ → List (List ℕ)
texts_under group heading = map (λ fields. under group.headings fields heading) group.rows

-- the same if the group has this name, else none
abbrev pub texts_if_named : Contents → List ℕ → List ℕ → List (List ℕ)
texts_if_named group name heading = if bytes_eq group.name name then texts_under group heading else []

-- the new texts are the old ones, and then these
abbrev pub AddsTexts : List (List ℕ) → List (Bor (List ℕ)) → List (Bor (List ℕ)) → Type 0
AddsTexts more old new = map (λ text. text.now) new ≡ map (λ text. text.now) old ++ more

-- the heading and the code of a row of ABBR
abbrev pub abbreviation_in : List (List ℕ) → List (List ℕ) → List ℕ × List ℕ
abbreviation_in headings fields = (under headings fields (codes "ABBR_HDNG"), under headings fields (codes "ABBR_CODE"))

-- the same of each row of a group
abbrev pub abbreviations_in : Contents → List (List ℕ × List ℕ)
abbreviations_in group = map (abbreviation_in group.headings) group.rows

abbrev pub abbreviations : List Contents → List (List ℕ × List ℕ)
abbreviations file = read_rows (codes "ABBR") abbreviation_in file

-- ---- pairs of a heading and a text, in a set

abbrev pub PairSet : Type 0
PairSet = BTreeSet (Bor (List ℕ) × Bor (List ℕ))

-- the texts of a pair
abbrev pub pair_texts : Bor (List ℕ) × Bor (List ℕ) → List ℕ × List ℕ
pair_texts pair = (pair.0.now, pair.1.now)

-- the new pairs are the old ones, and then these
abbrev pub AddsPairs : List (List ℕ × List ℕ) → List (Bor (List ℕ) × Bor (List ℕ)) → List (Bor (List ℕ) × Bor (List ℕ))
    → Type 0
AddsPairs more old new = map pair_texts new ≡ map pair_texts old ++ more

-- whether the set has the pair of the heading and the text
abbrev pub has_pair : PairSet → List ℕ → List ℕ → Bool
has_pair held heading text =
    contains_by (λ pair. ordering_then (slice_cmp nat_cmp heading pair.0.now) (slice_cmp nat_cmp text pair.1.now)) held

-- whether it is this pair
abbrev pub is_pair : List ℕ → List ℕ → List ℕ × List ℕ → Bool
is_pair heading text pair = bytes_eq pair.0 heading && bytes_eq pair.1 text

-- the set has exactly these pairs
abbrev pub HasPairs : PairSet → List (List ℕ × List ℕ) → Type 0
HasPairs held pairs = (heading text : List ℕ) → has_pair held heading text ≡ list_any (is_pair heading text) pairs

-- whether some part of the text, cut at the separator, is not in the set under the heading
abbrev pub lacks_part : PairSet → ℕ → List ℕ → List ℕ → Bool
lacks_part held separator heading text = list_any (λ part. not (has_pair held heading part)) (parts_at separator text)

-- the text is not null and not in the set under the heading, and some part of it is not either
abbrev pub IsUnlistedPair : PairSet → ℕ → List ℕ → List ℕ → Type 0
IsUnlistedPair held separator heading text =
    (text ≢ []) × (has_pair held heading text ≡ false) × (lacks_part held separator heading text ≡ true)

-- ---- all that is looked up

pub record AreCodeLists (file : List Contents) (unit_texts type_texts : List (List ℕ)) (pair_set : PairSet)
    (separator : ℕ) : Type 0 where
  pub units : unit_texts ≡ listed_texts file (codes "UNIT") (codes "UNIT_UNIT")
  pub types : type_texts ≡ listed_texts file (codes "TYPE") (codes "TYPE_TYPE")
  pub pairs : HasPairs pair_set (abbreviations file)
  pub concatenator : separator ≡ (separators_of file).concatenator
