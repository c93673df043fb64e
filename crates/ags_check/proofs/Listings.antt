-- What the rows of the groups of a name have, and what is looked up of it.
use Rattle.std.proofs.Common.{◌≡◌, ◌≢◌, ℕ, Bool, true, false, not, cond, List, [], ◌∷◌, ◌++◌, map, take, length, get_or, flat_map, ◌+◌, ◌<◌, None, refl, sym, ap, subst, ◌∙◌, inl, inr, append_assoc}
use Rattle.std.specs.Prelude.{◌↔◌, IsTrue, Contains, codes}
use Rattle.std.specs.Cmp.Derive.{both_true}
use Rattle.std.specs.Str.{bytes_eq}
use Rattle.std.proofs.lemmas.Bool.{true≢false, and_parts, cond-true, false_from_ne_true, not-true}
use Rattle.std.proofs.lemmas.List.{append-nil, map-append, take_more}
use Rattle.std.proofs.lemmas.List.Concat.{flat_map-append}
use Rattle.std.proofs.lemmas.List.Elements.{Contains-append_left, Contains-append_right, Contains-append_cases}
use Rattle.std.proofs.lemmas.List.Folds.{Any-from_list_any, list_any-from_Any}
use Rattle.std.proofs.lemmas.Slice.Eq.{bytes_eq-Decides}
use Rattle.ags_rows.specs.Contents.{Contents, under, group_contents, contents_of, place_in}
use Rattle.ags_rows.specs.declared.rows.Group.{Group}
use Rattle.ags_rows.proofs.Lemmas.{none_is}
use Rattle.ags_links.specs.RecordLinks.{separators_of}
use Rattle.ags_links.proofs.Lemmas.{contains_head, contains_tail, contains_cons, contains_map, map_contains, placed, row_of, row_among}
use Rattle.ags_links.specs.DataRows.{DataRow, row_in, data_rows}
use Rattle.ags_rows.specs.Parts.{parts_at}
use Rattle.ags_check.specs.CodeLists.{read_rows, listed_texts, abbreviation_in, abbreviations, PairSet, has_pair, is_pair, HasPairs, lacks_part}
use Rattle.ags_check.specs.RowRules.{IsListed, IsUnlisted, IsAbbreviation, IsUnlistedAbbreviation}
use Rattle.ags_check.proofs.HeaderRules.{unplaced}

-- a row of a group of the name, and what is read from it
abbrev pub Read : {X : Type 0} → List ℕ → (List (List ℕ) → List (List ℕ) → X) → List Contents → X → Type 0
Read name read file x =
    (group : Contents) × (fields : List (List ℕ)) × Contains file group × (group.name ≡ name) × Contains group.rows fields × (read group.headings fields ≡ x)

abbrev pub read_group : {X : Type 0} → List ℕ → (List (List ℕ) → List (List ℕ) → X) → Contents → List X
read_group name read group = cond (bytes_eq group.name name) (map (read group.headings) group.rows) []

group_read : {X : Type 0} (name : List ℕ) (read : List (List ℕ) → List (List ℕ) → X) (group : Contents) (x : X) (t : Bool) → bytes_eq group.name name ≡ t
    → Contains (cond t (map (read group.headings) group.rows) []) x
    → (group.name ≡ name) × ((fields : List (List ℕ)) × Contains group.rows fields × (read group.headings fields ≡ x))
group_read name read group x true e h = ((bytes_eq-Decides group.name name).0 e, map_contains (read group.headings) group.rows x h)
group_read name read group x false e h = absurd (none_is x h)

pub rows_read : {X : Type 0} (name : List ℕ) (read : List (List ℕ) → List (List ℕ) → X) (file : List Contents) (x : X) → Contains (read_rows name read file) x → Read name read file x
rows_read name read [] x h = absurd (none_is x h)
rows_read name read (g ∷ file) x h = elim (Contains-append_cases (read_group name read g) (read_rows name read file) x h) [
  | inl here ↦ (let k = group_read name read g x (bytes_eq g.name name) refl here in (g, k.1.0, contains_head g file, k.0, k.1.1, k.1.2))
  | inr more ↦ (let k = rows_read name read file x more in (k.0, k.1, contains_tail g file k.0 k.2, k.3, k.4, k.5))
]

row_of_group : {X : Type 0} (name : List ℕ) (read : List (List ℕ) → List (List ℕ) → X) (group : Contents) (fields : List (List ℕ)) (x : X)
    → group.name ≡ name → Contains group.rows fields → read group.headings fields ≡ x → Contains (read_group name read group) x
row_of_group name read group fields x same row is =
    let named : bytes_eq group.name name ≡ true = (bytes_eq-Decides group.name name).1 same in
    subst (λ xs. Contains xs x) (sym (cond-true (bytes_eq group.name name) (map (read group.headings) group.rows) [] named))
    (subst (Contains (map (read group.headings) group.rows)) is (contains_map (read group.headings) group.rows fields row))

pub row_read : {X : Type 0} (name : List ℕ) (read : List (List ℕ) → List (List ℕ) → X) (file : List Contents) (x : X) → Read name read file x → Contains (read_rows name read file) x
row_read name read [] x k = absurd (none_is k.0 k.2)
row_read name read (g ∷ file) x k = elim (contains_cons g file k.0 k.2) [
  | inl e ↦
      Contains-append_left (read_group name read g) (read_rows name read file) x
      (subst (λ (c : Contents). Contains (read_group name read c) x) (sym e) (row_of_group name read k.0 k.1 x k.3 k.4 k.5))
  | inr more ↦ Contains-append_right (read_group name read g) (read_rows name read file) x (row_read name read file x (k.0, k.1, more, k.3, k.4, k.5))
]

-- what is read from a row of the file, of a group of the name
pub read_of : {X : Type 0} (name : List ℕ) (read : List (List ℕ) → List (List ℕ) → X) (file : List Contents) (row : DataRow) (x : X)
    → Contains (data_rows file) row → row.group ≡ name → read row.headings row.fields ≡ x → Read name read file x
read_of name read file row x there named is =
    let p = (row_of file row there).1 in
    let name_is : p.group.name ≡ name = ap (λ (r : DataRow). r.group) p.same ∙ named in
    (p.group, p.fields, (p.group_place, p.of_file.0, p.of_file.1), name_is, (p.place, p.of_group.0, p.of_group.1), ap (λ (r : DataRow). read r.headings r.fields) p.same ∙ is)

-- one group more
pub read_more : {X : Type 0} (name : List ℕ) (read : List (List ℕ) → List (List ℕ) → X) (groups : List Group) (i : ℕ) (group : Group) → i < length groups → group ≡ get_or groups i group
    → read_rows name read (contents_of (take (i + 1) groups)) ≡ read_rows name read (contents_of (take i groups)) ++ read_group name read (group_contents group)
read_more {X} name read groups i group lt is =
    let part : Contents → List X = read_group name read in
    let next : take (i + 1) groups ≡ take i groups ++ group ∷ [] = take_more groups i group lt ∙ ap (λ (g : Group). take i groups ++ g ∷ []) (sym is) in
    ap (λ (gs : List Group). read_rows name read (contents_of gs)) next
    ∙ ap (flat_map part) (map-append group_contents (take i groups) (group ∷ []))
    ∙ flat_map-append part (contents_of (take i groups)) (group_contents group ∷ [])
    ∙ ap (λ (xs : List X). flat_map part (contents_of (take i groups)) ++ xs) (append-nil (part (group_contents group)))

-- ---- units, types and file sets

pub listed_is : (file : List Contents) (name heading text : List ℕ) → Contains (listed_texts file name heading) text → IsListed file name heading text
listed_is file name heading text h =
    let k = rows_read name (λ headings fields. under headings fields heading) file text h in
    (row_in k.0 k.1, row_among file k.0 k.1 k.2 k.4, k.3, k.5)

pub is_listed : (file : List Contents) (name heading text : List ℕ) → IsListed file name heading text → Contains (listed_texts file name heading) text
is_listed file name heading text h =
    row_read name (λ headings fields. under headings fields heading) file text (read_of name (λ headings fields. under headings fields heading) file h.0 text h.1 h.2 h.3)

-- what is not found is not listed
pub unlisted_by : (file : List Contents) (name heading text : List ℕ) (texts : List (List ℕ)) (b : Bool) → texts ≡ listed_texts file name heading
    → IsTrue b ↔ (text ≢ []) × (place_in texts text ≡ None) → IsTrue b ↔ IsUnlisted file name heading text
unlisted_by file name heading text texts b same means = (
  λ e. ((means.0 e).0, λ h. placed (listed_texts file name heading) text (is_listed file name heading text h) (ap (λ (l : List (List ℕ)). place_in l text) (sym same) ∙ (means.0 e).1)),
  λ h. means.1 (h.0, ap (λ (l : List (List ℕ)). place_in l text) same ∙ unplaced (listed_texts file name heading) text (λ k. h.1 (listed_is file name heading text k))),
)

-- ---- abbreviations

same_pair : (heading text : List ℕ) (pair : List ℕ × List ℕ) → is_pair heading text pair ≡ true → pair ≡ (heading, text)
same_pair heading text pair e =
    let k = and_parts (bytes_eq pair.0 heading) (bytes_eq pair.1 text) e in
    ap (λ (x : List ℕ). (x, pair.1)) ((bytes_eq-Decides pair.0 heading).0 k.0) ∙ ap (λ (y : List ℕ). (heading, y)) ((bytes_eq-Decides pair.1 text).0 k.1)

pair_itself : (heading text : List ℕ) → is_pair heading text (heading, text) ≡ true
pair_itself heading text = both_true ((bytes_eq-Decides heading heading).1 refl) ((bytes_eq-Decides text text).1 refl)

-- a pair of the set is an abbreviation
pub pair_is : (file : List Contents) (held : PairSet) (heading text : List ℕ) → HasPairs held (abbreviations file) → has_pair held heading text ≡ true → IsAbbreviation file heading text
pair_is file held heading text has e =
    let found = Any-from_list_any (is_pair heading text) (abbreviations file) (sym (has heading text) ∙ e) in
    let there : Contains (abbreviations file) (heading, text) =
    subst (Contains (abbreviations file)) (same_pair heading text found.1 found.4) (found.0, found.2, found.3) in
    let k = rows_read (codes "ABBR") abbreviation_in file (heading, text) there in
    (row_in k.0 k.1, row_among file k.0 k.1 k.2 k.4, k.3, ap (λ (p : List ℕ × List ℕ). p.0) k.5, ap (λ (p : List ℕ × List ℕ). p.1) k.5)

pub is_pair_of : (file : List Contents) (held : PairSet) (heading text : List ℕ) → HasPairs held (abbreviations file) → IsAbbreviation file heading text → has_pair held heading text ≡ true
is_pair_of file held heading text has h =
    let both : abbreviation_in h.0.headings h.0.fields ≡ (heading, text) =
    ap (λ (x : List ℕ). (x, (abbreviation_in h.0.headings h.0.fields).1)) h.3 ∙ ap (λ (y : List ℕ). (heading, y)) h.4 in
    let there = row_read (codes "ABBR") abbreviation_in file (heading, text) (read_of (codes "ABBR") abbreviation_in file h.0 (heading, text) h.1 h.2 both) in
    has heading text ∙ list_any-from_Any (is_pair heading text) (abbreviations file) (there.0, (heading, text), there.1, there.2, pair_itself heading text)

-- what is not in the set, nor in all of its parts, is unlisted
pub unlisted_pair : (file : List Contents) (held : PairSet) (separator : ℕ) (heading text : List ℕ) (b : Bool) → HasPairs held (abbreviations file) → separator ≡ (separators_of file).concatenator
    → IsTrue b ↔ (text ≢ []) × (has_pair held heading text ≡ false) × (lacks_part held separator heading text ≡ true) → IsTrue b ↔ IsUnlistedAbbreviation file heading text
unlisted_pair file held separator heading text b has same means = (
  λ e.
      let h = means.0 e in
      let found = Any-from_list_any (λ part. not (has_pair held heading part)) (parts_at separator text) h.2 in
      let is_part = subst (λ (s : ℕ). Contains (parts_at s text) found.1) same (found.0, found.2, found.3) in
      (h.0, λ k. true≢false (sym (is_pair_of file held heading text has k) ∙ h.1), (found.1, is_part, λ k. true≢false (sym (is_pair_of file held heading found.1 has k) ∙ not-true (has_pair held heading found.1) found.4))),
  λ r.
      let part = subst (λ (s : ℕ). Contains (parts_at s text) r.2.0) (sym same) r.2.1 in
      means.1 (
        r.0,
        false_from_ne_true (has_pair held heading text) (λ e. r.1 (pair_is file held heading text has e)),
        list_any-from_Any (λ p. not (has_pair held heading p)) (parts_at separator text)
            (part.0, r.2.0, part.1, part.2, ap not (false_from_ne_true (has_pair held heading r.2.0) (λ e. r.2.2 (pair_is file held heading r.2.0 has e)))),
      ),
)

-- ---- what is made of the rows of a group, row after row

pub mapped_more : {X Y Z : Type 0} (f : Y → Z) (g : X → Y) (start out : List Z) (xs : List X) (i : ℕ) (x : X) → i < length xs → x ≡ get_or xs i x
    → out ≡ start ++ map f (map g (take i xs)) → out ++ f (g x) ∷ [] ≡ start ++ map f (map g (take (i + 1) xs))
mapped_more f g start out xs i x lt is so_far =
    ap (λ l. l ++ f (g x) ∷ []) so_far ∙ append_assoc start (map f (map g (take i xs))) (f (g x) ∷ [])
    ∙ ap (λ l. start ++ l)
    (ap (λ y. map f (map g (take i xs)) ++ f (g y) ∷ []) is ∙ sym (map-append f (map g (take i xs)) (g (get_or xs i x) ∷ [])) ∙ ap (map f) (sym (map-append g (take i xs) (get_or xs i x ∷ [])))
    ∙ ap (λ l. map f (map g l)) (sym (take_more xs i x lt)))
