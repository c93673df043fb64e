-- Groups with one parent group and the same link headings share a look-up.
use Rattle.std.proofs.Common.{◌≡◌, ℕ, ◌<◌, Option, Some, None, List, [], ◌∷◌, length, get_or, map, sym, ap, subst, ◌∙◌, arith, Contains, All}
use Rattle.std.specs.List.Sorted.{IsStrictlyIncreasing}
use Rattle.std.proofs.lemmas.List.{length-map}
use Rattle.std.proofs.lemmas.Option.{none-some, same_Some}
use Rattle.std.proofs.lemmas.List.Elements.{All-nil}
use Rattle.ags_rows.specs.Contents.{place_in}
use Rattle.ags_rows.specs.declared.rows.Group.{Group}
use Rattle.ags_dict.specs.Entries.{Entries, parent_of}
use Rattle.ags_links.specs.declared.families.Family.{Family}
use Rattle.ags_links.specs.Lookups.{Lookup, Finds, FindsAsked, found}
use Rattle.ags_links.specs.declared.parents.ParentLinks.{ParentLinks}
use Rattle.ags_links.specs.declared.parents.LinkPlaces.{LinkPlaces}
use Rattle.ags_rows.specs.Collecting.{At}
use Rattle.ags_links.specs.DataRows.{DataRow}
use Rattle.ags_links.specs.Families.{AreKept, AreFamilies, HasText, HasGroupName, HasEntries, HasAmong}
use Rattle.ags_links.specs.ParentRows.{AreLinkHeadings, AreParentLinks, AreLookups, AreNumbers, IsParentLinks, IsAskedOf, IsPlacedAt, ParentLinksTo, link_names, texts_in}
use Rattle.ags_links.specs.Placing.{row_of}
use Rattle.ags_links.specs.declared.placed.PlacedRow.{PlacedRow}
use Rattle.ags_links.proofs.Answering.{HasParentEntries}
use Rattle.ags_links.proofs.Finding.{asked_same}
use Rattle.ags_links.proofs.Heading.{at_place}
use Rattle.ags_links.proofs.Kept.{found_below, found_rising}
use Rattle.ags_links.proofs.Rising.{rising_nil}
use Rattle.ags_links.proofs.RowLemmas.{map_at, one_at, read_at, some_at}
use Rattle.ags_links.proofs.Spelled.{key_text_same}

-- the rows of the group's parent group are found by their entries under its link headings, where some row asks for them
pub record IsParentIndex (entries : Entries) (rows : List PlacedRow) (of_groups : List LinkPlaces)
    (lookups : List Lookup) (group : Group) (links : LinkPlaces) : Type 0 where
  pub names : List (List ℕ)
  pub lookup : Lookup
  pub stands : At lookups links.lookup lookup
  pub places : links.places.items ≡ map (place_in group.headings) names
  pub headings : (n : ℕ) (s : DataRow) → At (map row_of rows) n s → parent_of entries group.name ≡ Some s.group
      → AreLinkHeadings entries s.group group.headings names
  pub finds : FindsAsked lookup (IsAskedOf rows of_groups links.lookup)
      (HasText (map row_of rows) (HasParentEntries entries group.name names))

abbrev pub AreParents : Entries → List PlacedRow → List Group → List LinkPlaces → List Lookup → Type 0
AreParents entries rows groups of_groups lookups =
    AreKept groups of_groups (λ place. IsParentIndex entries rows of_groups lookups)

-- ---- links with one text are the same links

alike : (entries : Entries) (by_group : Lookup) (g h : Group) (l k : ParentLinks) (p q : Option (List ℕ)) → ParentLinksTo entries by_group g l p → ParentLinksTo entries by_group h k q → l.text.items ≡ k.text.items → (l.rows.now ≡ k.rows.now) × (link_names l ≡ link_names k)
alike entries by_group g h l k None None is also e = (is.0 ∙ sym also.0, ap (map (λ h. h.now)) (is.1 ∙ sym also.1))
alike entries by_group g h l k None (Some q) is also e = let same : [] ≡ q ∷ link_names k = key_text_same [] (q ∷ link_names k) (sym is.2 ∙ e ∙ also.2) in absurd cc
alike entries by_group g h l k (Some p) None is also e = let same : [] ≡ p ∷ link_names l = key_text_same [] (p ∷ link_names l) (sym also.2 ∙ sym e ∙ is.2) in absurd cc
alike entries by_group g h l k (Some p) (Some q) is also e =
    let same : p ∷ link_names l ≡ q ∷ link_names k = key_text_same (p ∷ link_names l) (q ∷ link_names k) (sym is.2 ∙ e ∙ also.2) in
    let parent : p ≡ q = cc in
    (is.0 ∙ ap (found by_group) parent ∙ sym also.0, cc)

-- ---- the rows of a parent group

numbers_of : (entries : Entries) (by_group : Lookup) (rows : List DataRow) (g : Group) (l : ParentLinks) (p : Option (List ℕ)) → Finds by_group (HasText rows HasGroupName) → ParentLinksTo entries by_group g l p → AreNumbers (length rows) l
numbers_of entries by_group rows g l None finds is = (subst (All (λ n. n < length rows)) (sym is.0) (All-nil (λ n. n < length rows)), subst IsStrictlyIncreasing (sym is.0) rising_nil)
numbers_of entries by_group rows g l (Some p) finds is = (found_below by_group rows p l.rows.now finds is.0, found_rising by_group rows p l.rows.now finds is.0)

-- the numbers of all links are rows, rising
pub all_numbers : (entries : Entries) (by_group : Lookup) (rows : List DataRow) (count : ℕ) (groups : List Group) (links : List ParentLinks) → length rows ≡ count → Finds by_group (HasText rows HasGroupName) → AreParentLinks entries by_group groups links → All (AreNumbers count) links
all_numbers entries by_group rows count groups links counted finds are i d lt =
    let g = some_at groups i (omega (arith, lt, are.each_has)) in
    let l = get_or links i d in
    subst (λ n. AreNumbers n l) counted (numbers_of entries by_group rows g.0 l (parent_of entries g.0.name) finds (are.each i g.0 l g.1 (read_at links i d lt)))

listed_to : (by_group : Lookup) (entries : Entries) (rows : List DataRow) (g : Group) (l : ParentLinks) (p : Option (List ℕ)) (n : ℕ) (r : DataRow) → Finds by_group (HasText rows HasGroupName) → ParentLinksTo entries by_group g l p → Contains l.rows.now n → At rows n r → p ≡ Some r.group
listed_to by_group entries rows g l None n r finds is h row = absurd (omega (arith, (subst (λ ns. Contains ns n) is.0 h).1))
listed_to by_group entries rows g l (Some p) n r finds is h row =
    let has = (finds.exact p n).0 (subst (λ ns. Contains ns n) is.0 h) in
    ap (λ q. Some q) (sym has.2 ∙ ap (λ (s : DataRow). s.group) (one_at rows n has.0 r has.1 row))

to_listed : (by_group : Lookup) (entries : Entries) (rows : List DataRow) (g : Group) (l : ParentLinks) (p : Option (List ℕ)) (n : ℕ) (r : DataRow) → Finds by_group (HasText rows HasGroupName) → ParentLinksTo entries by_group g l p → p ≡ Some r.group → At rows n r → Contains l.rows.now n
to_listed by_group entries rows g l None n r finds is e row = absurd (none-some r.group e)
to_listed by_group entries rows g l (Some p) n r finds is e row = subst (λ ns. Contains ns n) (sym is.0) ((finds.exact p n).1 (r, row, same_Some r.group p (sym e)))

-- what is found among the rows of the parent group is found among all rows
found_in_parent : (by_group lookup : Lookup) (IsAsked : List ℕ → Type 0) (entries : Entries) (rows : List DataRow) (g : Group) (l : ParentLinks) → Finds by_group (HasText rows HasGroupName) → IsParentLinks entries by_group g l
    → FindsAsked lookup IsAsked (HasAmong l.rows.now rows (HasEntries (link_names l))) → FindsAsked lookup IsAsked (HasText rows (HasParentEntries entries g.name (link_names l)))
found_in_parent by_group lookup IsAsked entries rows g l finds is so_far =
    asked_same lookup IsAsked IsAsked (HasAmong l.rows.now rows (HasEntries (link_names l))) (HasText rows (HasParentEntries entries g.name (link_names l))) so_far (λ q asked. asked)
    (λ n text h. (h.1.0, h.1.1, (listed_to by_group entries rows g l (parent_of entries g.name) n h.1.0 finds is h.0 h.1.1, h.1.2)))
    (λ n text h. (to_listed by_group entries rows g l (parent_of entries g.name) n h.0 finds is h.2.0 h.1, (h.0, h.1, h.2.1)))

headings_to : (by_group : Lookup) (entries : Entries) (rows : List DataRow) (g : Group) (l : ParentLinks) (p : Option (List ℕ)) (n : ℕ) (s : DataRow) → Finds by_group (HasText rows HasGroupName) → ParentLinksTo entries by_group g l p → At rows n s → p ≡ Some s.group
    → AreLinkHeadings entries s.group g.headings (link_names l)
headings_to by_group entries rows g l None n s finds is row e = absurd (none-some s.group e)
headings_to by_group entries rows g l (Some p) n s finds is row e =
    let same : p ≡ s.group = same_Some p s.group e in
    let listed : Contains l.rows.now n = to_listed by_group entries rows g l (Some p) n s finds is e row in
    subst (λ q. AreLinkHeadings entries q g.headings (link_names l)) same (is.1 (λ empty. omega (arith, (subst (λ ns. Contains ns n) empty listed).1)))

-- ---- all groups

pub parents_made : (entries : Entries) (kept : List PlacedRow) (groups : List Group) (by_group : Lookup) (families : List Family) (links : List ParentLinks) (texts : List (List ℕ)) (of_groups : List LinkPlaces) (lookups : List Lookup) → AreFamilies entries groups families
    → Finds by_group (HasText (map row_of kept) HasGroupName) → AreParentLinks entries by_group groups links → texts ≡ texts_in links → AreLookups kept of_groups links lookups → AreKept links of_groups (IsPlacedAt families texts)
    → AreParents entries kept groups of_groups lookups
parents_made entries kept groups by_group families links texts of_groups lookups of_families finds linked are looked placed = record {
  each_has = placed.each_has ∙ linked.each_has;
  each = λ place g x at_group at_x. made place g x at_group at_x;
} where
  made : (place : ℕ) (g : Group) (x : LinkPlaces) → At groups place g → At of_groups place x → IsParentIndex entries kept of_groups lookups g x
  made place g x at_group at_x =
      let l = some_at links place (omega (arith, at_group.0, linked.each_has)) in
      let family = some_at families place (omega (arith, at_group.0, of_families.each_has)) in
      let is : IsParentLinks entries by_group g l.0 = linked.each place g l.0 at_group l.1 in
      let at : IsPlacedAt families texts place l.0 x = placed.each place l.0 x l.1 at_x in
      let first = at_place texts l.0.text.items x.lookup at.1 in
      let below : x.lookup < length links = omega (arith, first.0, ap length are, length-map links (λ (k : ParentLinks). k.text.items)) in
      let k = some_at links x.lookup below in
      let h = some_at groups x.lookup (omega (arith, below, linked.each_has)) in
      let lookup = some_at lookups x.lookup (omega (arith, below, looked.each_has)) in
      let text : ◌≡◌ {A = List ℕ} k.0.text.items l.0.text.items = map_at (λ (k : ParentLinks). k.text.items) links x.lookup k.0 l.0.text.items k.1 (subst (λ ts. At ts x.lookup l.0.text.items) are (first.0, first.1)) in
      let same = alike entries by_group h.0 g k.0 l.0 (parent_of entries h.0.name) (parent_of entries g.name) (linked.each x.lookup h.0 k.0 h.1 k.1) is text in
      let IsAsked : List ℕ → Type 0 = IsAskedOf kept of_groups x.lookup in
      let among : FindsAsked lookup.0 IsAsked (HasAmong k.0.rows.now (map row_of kept) (HasEntries (link_names k.0))) = looked.each x.lookup k.0 lookup.0 k.1 lookup.1 in
      let mine : FindsAsked lookup.0 IsAsked (HasAmong l.0.rows.now (map row_of kept) (HasEntries (link_names l.0))) = subst (λ ns. FindsAsked lookup.0 IsAsked (HasAmong ns (map row_of kept) (HasEntries (link_names l.0)))) same.0 (subst (λ names. FindsAsked lookup.0 IsAsked (HasAmong k.0.rows.now (map row_of kept) (HasEntries names))) same.1 among) in
      record {
        names = link_names l.0;
        lookup = lookup.0;
        stands = lookup.1;
        places = at.0 family.0 family.1 ∙ ap (λ hs. map (place_in hs) (link_names l.0)) (of_families.each place g family.0 at_group family.1).headings;
        headings = λ n s row e. headings_to by_group entries (map row_of kept) g l.0 (parent_of entries g.name) n s finds is row e;
        finds = found_in_parent by_group lookup.0 IsAsked entries (map row_of kept) g l.0 finds is mine;
      }
