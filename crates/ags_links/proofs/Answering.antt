-- What is found is what was asked for.
use Rattle.std.proofs.Common.{◌≡◌, ℕ, ◌<◌, List, [], ◌∷◌, length, get_or, map, refl, sym, ap, subst, ◌∙◌, arith, inl, inr, Contains, Some, codes}
use Rattle.std.specs.List.Sorted.{IsStrictlyIncreasing}
use Rattle.std.proofs.lemmas.List.Elements.{Contains-get_or}
use Rattle.ags_dict.specs.Entries.{Entries, parent_of}
use Rattle.ags_rows.specs.Parts.{parts_at}
use Rattle.ags_links.specs.Lookups.{Lookup, FindsAsked, found, Finds, HasOneText, AreFirstWith}
use Rattle.ags_rows.specs.Collecting.{At}
use Rattle.ags_links.specs.DataRows.{DataRow, RowsRelate, ListsRows, entry_of}
use Rattle.ags_links.specs.Families.{HasText, HasEntries, HasKeyText, HasFileSet}
use Rattle.ags_links.specs.Keys.{key_of, HasKeyOf, IsFirstOfKey, AreFirstsOfKeys}
use Rattle.ags_links.specs.KeyTexts.{key_text}
use Rattle.ags_links.specs.ParentRows.{AreLinkHeadings}
use Rattle.ags_links.specs.Parents.{IsParentRow}
use Rattle.ags_links.specs.RecordLinks.{Names}
use Rattle.ags_links.specs.Steps.{IsFileRow}
use Rattle.ags_links.proofs.Members.{contains_head, contains_tail, contains_cons}
use Rattle.ags_links.proofs.Rising.{first_is_least}
use Rattle.ags_links.proofs.RowLemmas.{one_at, some_at}
use Rattle.ags_links.proofs.Spelled.{key_text_same}

-- it is a row of the group's parent group, and the text its entries under the headings
abbrev pub HasParentEntries : Entries → List ℕ → List (List ℕ) → DataRow → List ℕ → Type 0
HasParentEntries entries group headings r text = (parent_of entries group ≡ Some r.group) × HasEntries headings r text

-- ---- lists under headings

-- what is made is the same under each
pub made_same : {X Y : Type 0} (f g : X → Y) (xs : List X) → map f xs ≡ map g xs → (x : X) → Contains xs x → f x ≡ g x
made_same f g [] e x h = absurd (omega (arith, h.1))
made_same f g (y ∷ xs) e x h = elim (contains_cons y xs x h) [
  | inl is ↦ subst (λ z. f z ≡ g z) is (cc)
  | inr more ↦ made_same f g xs (cc) x more
]

pub same_made : {X Y : Type 0} (f g : X → Y) (xs : List X) → ((x : X) → Contains xs x → f x ≡ g x) → map f xs ≡ map g xs
same_made f g [] h = refl
same_made f g (y ∷ xs) h =
    let here : f y ≡ g y = h y (contains_head y xs) in
    let rest : map f xs ≡ map g xs = same_made f g xs (λ x k. h x (contains_tail y xs x k)) in
    cc

-- ---- what is found is listed

-- what is found at a text that is asked for is listed
lists_asked : (lookup : Lookup) (IsAsked : List ℕ → Type 0) (Has : ℕ → List ℕ → Type 0) (text numbers : List ℕ) (IsOne : ℕ → Type 0) → FindsAsked lookup IsAsked Has → IsAsked text → numbers ≡ found lookup text
    → ((n : ℕ) → Has n text → IsOne n) → ((n : ℕ) → IsOne n → Has n text) → ListsRows numbers IsOne
lists_asked lookup IsAsked Has text numbers IsOne finds asked e to from = record {
  rising = subst IsStrictlyIncreasing (sym e) (finds.rising text);
  exact = λ n. (
    λ h. to n ((finds.exact text asked n).0 (subst (λ l. Contains l n) e h)),
    λ h. subst (λ l. Contains l n) (sym e) ((finds.exact text asked n).1 (from n h)),
  );
}

-- what is found at a text is listed
pub lists_found : (lookup : Lookup) (Has : ℕ → List ℕ → Type 0) (text numbers : List ℕ) (IsOne : ℕ → Type 0) → Finds lookup Has → numbers ≡ found lookup text
    → ((n : ℕ) → Has n text → IsOne n) → ((n : ℕ) → IsOne n → Has n text) → ListsRows numbers IsOne
lists_found lookup Has text numbers IsOne finds = lists_asked lookup (λ q. Unit {0}) Has text numbers IsOne (record { rising = finds.rising; exact = λ q asked. finds.exact q }) tt

-- ---- parents

-- a row that has the entries in the row's parent group is a parent row, and the other way round
pub parents_listed : (entries : Entries) (rows : List DataRow) (n : ℕ) (r : DataRow) (names : List (List ℕ)) (lookup : Lookup) (IsAsked : List ℕ → Type 0) (text numbers : List ℕ) → At rows n r
    → ((m : ℕ) (s : DataRow) → At rows m s → parent_of entries r.group ≡ Some s.group → AreLinkHeadings entries s.group r.headings names)
    → FindsAsked lookup IsAsked (HasText rows (HasParentEntries entries r.group names)) → IsAsked text → numbers ≡ found lookup text → text ≡ key_text (map (entry_of r) names) → ListsRows numbers (RowsRelate rows (IsParentRow entries) n)
parents_listed entries rows n r names lookup IsAsked text numbers row headings finds asked e spelled =
    lists_asked lookup IsAsked (HasText rows (HasParentEntries entries r.group names)) text numbers (RowsRelate rows (IsParentRow entries) n) finds asked e
    (λ m h.
    let s = h.0 in
    let same : map (entry_of s) names ≡ map (entry_of r) names = key_text_same (map (entry_of s) names) (map (entry_of r) names) (h.2.1 ∙ spelled) in
    (r, s, row, h.1, (h.2.0, λ heading link. sym (made_same (entry_of s) (entry_of r) names same heading ((headings m s h.1 h.2.0 heading).1 link)))))
    (λ m h.
    let s = h.1 in
    let is : h.0 ≡ r = one_at rows n h.0 r h.2 row in
    let parent_row : IsParentRow entries r s = subst (λ q. IsParentRow entries q s) is h.4 in
    let same : map (entry_of r) names ≡ map (entry_of s) names = same_made (entry_of r) (entry_of s) names (λ heading in_list. parent_row.1 heading ((headings m s h.3 parent_row.0 heading).0 in_list)) in
    (s, h.3, (parent_row.0, ap key_text (sym same) ∙ sym spelled)))

-- ---- keys

pub first_found : (entries : Entries) (rows : List DataRow) (n : ℕ) (r : DataRow) (lookup : Lookup) (text numbers : List ℕ) → At rows n r → Finds lookup (HasText rows (HasKeyText entries)) → text ≡ key_text (r.group ∷ key_of entries r)
    → numbers ≡ found lookup text → 0 < length numbers → IsFirstOfKey rows entries n (get_or numbers 0 0)
first_found entries rows n r lookup text numbers row finds spelled e some =
    let first = get_or numbers 0 0 in
    let at_text = (finds.exact text first).0 (subst (λ l. Contains l first) e (Contains-get_or numbers 0 0 some)) in
    let s = at_text.0 in
    let same : s.group ∷ key_of entries s ≡ r.group ∷ key_of entries r = key_text_same (s.group ∷ key_of entries s) (r.group ∷ key_of entries r) (at_text.2 ∙ spelled) in (
      (r, s, row, at_text.1, (cc, cc)),
      λ k h.
          let is : h.0 ≡ r = one_at rows n h.0 r h.2 row in
          let key : HasKeyOf entries r h.1 = subst (λ q. HasKeyOf entries q h.1) is h.4 in
          let keys : h.1.group ∷ key_of entries h.1 ≡ r.group ∷ key_of entries r = cc (key.0, key.1) in
          first_is_least numbers k (subst IsStrictlyIncreasing (sym e) (finds.rising text)) (subst (λ l. Contains l k) (sym e) ((finds.exact text k).1 (h.1, h.3, ap key_text keys ∙ sym spelled))),
    )

-- ---- parts of record links

pub named_listed : (entries : Entries) (rows : List DataRow) (delimiter : ℕ) (part : List ℕ) (lookup : Lookup) (text numbers : List ℕ) → Finds lookup (HasText rows (HasKeyText entries)) → text ≡ key_text (parts_at delimiter part)
    → numbers ≡ found lookup text → ListsRows numbers (λ m. (s : DataRow) × At rows m s × Names entries delimiter part s)
named_listed entries rows delimiter part lookup text numbers finds spelled e =
    lists_found lookup (HasText rows (HasKeyText entries)) text numbers (λ m. (s : DataRow) × At rows m s × Names entries delimiter part s) finds e
    (λ m h. (h.0, h.1, key_text_same (parts_at delimiter part) (h.0.group ∷ key_of entries h.0) (sym (h.2 ∙ spelled))))
    (λ m h. (h.0, h.1, ap key_text (sym h.2) ∙ sym spelled))

-- ---- rows of FILE

pub files_listed : (rows : List DataRow) (n : ℕ) (r : DataRow) (lookup : Lookup) (text numbers : List ℕ) → At rows n r → Finds lookup (HasText rows HasFileSet) → text ≡ entry_of r (codes "FILE_FSET") → (text ≡ [] → ⊥)
    → numbers ≡ found lookup text → ListsRows numbers (RowsRelate rows IsFileRow n)
files_listed rows n r lookup text numbers row finds spelled some e =
    lists_found lookup (HasText rows HasFileSet) text numbers (RowsRelate rows IsFileRow n) finds e
    (λ m h. (r, h.0, row, h.1, (h.2.0, λ null. some (spelled ∙ null), h.2.1 ∙ spelled)))
    (λ m h.
    let is : h.0 ≡ r = one_at rows n h.0 r h.2 row in
    let file : IsFileRow r h.1 = subst (λ q. IsFileRow q h.1) is h.4 in
    (h.1, h.3, (file.0, file.2 ∙ sym spelled)))

-- ---- first rows

abbrev rows_keyed : List DataRow → Entries → ℕ → List ℕ → Type 0
rows_keyed rows entries = HasText rows (HasKeyText entries)

pub key_row : (rows : List DataRow) (entries : Entries) (lookup : Lookup) → Finds lookup (rows_keyed rows entries) → (text : List ℕ) (n : ℕ) → Contains (found lookup text) n → n < length rows
key_row rows entries lookup finds text n h = ((finds.exact text n).0 h).1.0

pub one_key_text : (rows : List DataRow) (entries : Entries) (lookup : Lookup) → Finds lookup (rows_keyed rows entries) → HasOneText lookup
one_key_text rows entries lookup finds n text other h k =
    let r = (finds.exact text n).0 h in
    let s = (finds.exact other n).0 k in
    let is : r.0 ≡ s.0 = one_at rows n r.0 s.0 r.1 s.1 in
    sym r.2 ∙ ap (λ (q : DataRow). key_text (q.group ∷ key_of entries q)) is ∙ s.2

pub firsts_hold : (rows : List DataRow) (entries : Entries) (lookup : Lookup) (firsts : List ℕ) → Finds lookup (rows_keyed rows entries) → length firsts ≡ length rows → AreFirstWith lookup firsts → AreFirstsOfKeys rows entries firsts
firsts_hold rows entries lookup firsts finds size first = (size, λ n lt. at n lt) where
  at : (n : ℕ) → n < length rows → IsFirstOfKey rows entries n (get_or firsts n 0)
  at n lt =
      let row = some_at rows n lt in
      let r = row.0 in
      let text = key_text (r.group ∷ key_of entries r) in
      let has : Contains (found lookup text) n = (finds.exact text n).1 (r, row.1, refl) in
      subst (IsFirstOfKey rows entries n) (sym (first text n has)) (first_found entries rows n r lookup text (found lookup text) row.1 finds refl refl (omega (arith, has.1)))
