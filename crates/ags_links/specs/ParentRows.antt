-- What the index keeps of the parent groups: their rows by their entries under link headings, in look-ups that the
-- groups with one parent group and the same link headings share.
use Rattle.std.specs.Prelude.{◌≡◌, ◌≢◌, ◌<◌, ◌≤◌, ◌-◌, ◌↔◌, ◌⊎◌, ◌++◌, ℕ, List, Vec, [], ◌∷◌, Option, Some, None, All, Contains, map, length, take, drop, slice_index_or}
use Rattle.std.specs.List.Sorted.{IsStrictlyIncreasing}
use Rattle.std.specs.Borrow.{Bor}
use Rattle.std.specs.declared.alloc.Global.{Global}
use Rattle.ags_rows.specs.Contents.{place_in}
use Rattle.ags_rows.specs.declared.rows.Group.{Group}
use Rattle.ags_dict.specs.Entries.{Entries, keys_of, parent_of}
use Rattle.ags_links.specs.declared.families.Family.{Family}
use Rattle.ags_links.specs.Lookups.{Lookup, FindsAsked, found, IsSpanOf}
use Rattle.ags_links.specs.declared.parents.HeadingPlaces.{HeadingPlaces}
use Rattle.ags_links.specs.declared.parents.ParentLinks.{ParentLinks}
use Rattle.ags_links.specs.declared.parents.LinkPlaces.{LinkPlaces}
use Rattle.ags_links.specs.declared.lookup.Span.{Span}
use Rattle.ags_links.specs.declared.parents.ParentLists.{ParentLists}
use Rattle.ags_links.specs.declared.placed.PlacedRow.{PlacedRow}
use Rattle.ags_rows.specs.Collecting.{At}
use Rattle.ags_links.specs.DataRows.{DataRow, RowsRelate, ListsRows}
use Rattle.ags_links.specs.Families.{AreKept, HasEntries, HasAmong}
use Rattle.ags_links.specs.KeyTexts.{key_text}
use Rattle.ags_links.specs.Parents.{IsParentRow}
use Rattle.ags_links.specs.Placing.{row_of, fields_at}

-- these are the link headings of a group: those of its headings that are KEY headings of its parent group
abbrev pub AreLinkHeadings : Entries → List ℕ → List (List ℕ) → List (List ℕ) → Type 0
AreLinkHeadings entries parent headings names =
    (h : List ℕ) → Contains names h ↔ (Contains (keys_of entries parent) h × Contains headings h)

-- where the parent group has rows, these are the link headings to it
abbrev pub AreLinkHeadingsIfRows : Entries → Lookup → List ℕ → List (List ℕ) → List (Bor (List ℕ)) → Type 0
AreLinkHeadingsIfRows entries by_group parent headings names =
    found by_group parent ≢ [] → AreLinkHeadings entries parent headings (map (λ n. n.now) names)

-- the link headings that are kept
abbrev pub link_names : ParentLinks → List (List ℕ)
link_names links = map (λ h. h.now) links.headings.items

-- the rows of this parent group, and the link headings to it where it has rows; nothing where there is no parent group
abbrev pub ParentLinksTo : Entries → Lookup → Group → ParentLinks → Option (List ℕ) → Type 0
ParentLinksTo entries by_group group links None =
    (links.rows.now ≡ []) × (links.headings.items ≡ []) × (links.text.items ≡ [])
ParentLinksTo entries by_group group links (Some parent) = (links.rows.now ≡ found by_group parent)
    × (links.rows.now ≢ [] → AreLinkHeadings entries parent group.headings (link_names links))
    × (links.text.items ≡ key_text (parent ∷ link_names links))

-- the same of the group's parent group
abbrev pub IsParentLinks : Entries → Lookup → Group → ParentLinks → Type 0
IsParentLinks entries by_group group links = ParentLinksTo entries by_group group links (parent_of entries group.name)

abbrev pub AreParentLinks : Entries → Lookup → List Group → List ParentLinks → Type 0
AreParentLinks entries by_group groups links = AreKept groups links (λ place. IsParentLinks entries by_group)

-- the texts of the links
abbrev pub texts_in : List ParentLinks → List (List ℕ)
texts_in links = map (λ l. l.text.items) links

-- the rows of the parent group are among so many, and rise
abbrev pub AreNumbers : ℕ → ParentLinks → Type 0
AreNumbers count links = All (λ n. n < count) links.rows.now × IsStrictlyIncreasing links.rows.now

-- the row's entries at the places, as one text
abbrev pub text_at : List (Option ℕ) → PlacedRow → List ℕ
text_at places row = key_text (fields_at places row)

-- the text is row n's entries under its link headings
abbrev pub IsLinkText : List PlacedRow → List LinkPlaces → ℕ → List ℕ → Type 0
IsLinkText rows of_groups n text =
    (row : PlacedRow) (links : LinkPlaces) → At rows n row → At of_groups row.place links
    → text ≡ text_at links.places.items row

-- row n has its parent rows in this look-up
pub record IsUserOf (rows : List PlacedRow) (of_groups : List LinkPlaces) (lookup n : ℕ) (row : PlacedRow)
    (links : LinkPlaces) : Type 0 where
  pub stands : At rows n row
  pub grouped : At of_groups row.place links
  pub uses : links.lookup ≡ lookup

-- some row that has its parent rows in this look-up has them at this text
abbrev pub IsAskedOf : List PlacedRow → List LinkPlaces → ℕ → List ℕ → Type 0
IsAskedOf rows of_groups lookup text =
    (n : ℕ) × (row : PlacedRow) × (links : LinkPlaces) × IsUserOf rows of_groups lookup n row links
    × (text_at links.places.items row ≡ text)

-- the row's group has link places, and a look-up at one of the places
abbrev pub HasPlaces : List LinkPlaces → PlacedRow → Type 0
HasPlaces of_groups row =
    (row.place < length of_groups) × ((links : LinkPlaces) → At of_groups row.place links
    → links.lookup < length of_groups)

-- some link places say so of row n
abbrev pub IsUser : List PlacedRow → List LinkPlaces → ℕ → ℕ → Type 0
IsUser rows of_groups lookup n =
    (row : PlacedRow) × (links : LinkPlaces) × IsUserOf rows of_groups lookup n row links

-- the list has exactly the rows that have their parent rows in the look-up
abbrev pub HasUsers : List PlacedRow → List LinkPlaces → ℕ → List ℕ → Type 0
HasUsers rows of_groups lookup users = (n : ℕ) → Contains users n ↔ IsUser rows of_groups lookup n

abbrev pub HaveUsers : List PlacedRow → List LinkPlaces → List (Vec ℕ Global) → Type 0
HaveUsers rows of_groups users =
    (lookup : ℕ) (d : Vec ℕ Global) → lookup < length users
    → HasUsers rows of_groups lookup (slice_index_or users lookup d).items

-- of these numbers some are chosen, which rise; those of rows with this text of entries under the headings are among
-- them
pub record AreCandidates (rows : List DataRow) (numbers : List ℕ) (headings : List (List ℕ)) (text : List ℕ)
    (chosen : List ℕ) : Type 0 where
  pub rising : IsStrictlyIncreasing chosen
  pub among : (n : ℕ) → Contains chosen n → Contains numbers n
  pub all : (n : ℕ) (s : DataRow) → Contains numbers n → At rows n s → HasEntries headings s text → Contains chosen n

-- the same of the rows of the parent group, under the link headings to it
abbrev pub AreCandidatesFor : List PlacedRow → ParentLinks → List ℕ → List ℕ → Type 0
AreCandidatesFor rows links = AreCandidates (map row_of rows) links.rows.now (link_names links)

-- row n is one of these rows, and the text its entries under the headings
abbrev pub HasEntriesAmong : List ℕ → List PlacedRow → List (List ℕ) → ℕ → List ℕ → Type 0
HasEntriesAmong numbers rows headings = HasAmong numbers (map row_of rows) (HasEntries headings)

-- where some texts alone are asked for, the text is one of them
abbrev pub IsAskedIn : Option (Bor Lookup) → List ℕ → Type 0
IsAskedIn None text = Unit {0}
IsAskedIn (Some asked) text = found asked.now text ≢ []

-- row n is one of these rows, and the text, which is asked for, its entries under the headings
abbrev pub HasAskedAmong : Option (Bor Lookup) → List ℕ → List PlacedRow → List (List ℕ) → ℕ → List ℕ → Type 0
HasAskedAmong asked numbers rows headings =
    HasAmong numbers (map row_of rows) (λ r text. HasEntries headings r text × IsAskedIn asked text)

-- row n is added at the text, if this is asked for
abbrev pub AddsAsked : Option (Bor Lookup) → List ℕ → ℕ → Lookup → Lookup → Type 0
AddsAsked asked text n old new =
    (IsAskedIn asked text × (new ≡ old ++ (text, n) ∷ [])) ⊎ (¬ (IsAskedIn asked text) × (new ≡ old))

-- the texts at which these rows have their parent rows are among those that are asked for
abbrev pub AreTextsOf : List PlacedRow → List LinkPlaces → List ℕ → Lookup → Type 0
AreTextsOf rows of_groups users asked =
    (n : ℕ) (row : PlacedRow) (links : LinkPlaces) → Contains users n → At rows n row → At of_groups row.place links
    → found asked (text_at links.places.items row) ≢ []

-- the places are those of the names in the headings of the group
abbrev pub ArePlacesIn : List Family → List (List ℕ) → HeadingPlaces → Type 0
ArePlacesIn families names stood =
    (family : Family) → At families stood.place family → stood.places.items ≡ map (place_in family.headings) names

-- row n is a row of the parent group, and the text its entries under the link headings
abbrev pub HasLinkText : List PlacedRow → ParentLinks → ℕ → List ℕ → Type 0
HasLinkText rows links = HasEntriesAmong links.rows.now rows (link_names links)

-- the rows are found by their entries under the link headings, where some row has its parent rows
abbrev pub IsLookupAt : List PlacedRow → List LinkPlaces → ℕ → ParentLinks → Lookup → Type 0
IsLookupAt rows of_groups place links lookup =
    FindsAsked lookup (IsAskedOf rows of_groups place) (HasLinkText rows links)

abbrev pub AreLookups : List PlacedRow → List LinkPlaces → List ParentLinks → List Lookup → Type 0
AreLookups rows of_groups links lookups = AreKept links lookups (IsLookupAt rows of_groups)

-- the places of the link headings, and the first place of a group with the same links
abbrev pub IsPlacedAt : List Family → List (List ℕ) → ℕ → ParentLinks → LinkPlaces → Type 0
IsPlacedAt families texts place links kept =
    ((family : Family) → At families place family
    → kept.places.items ≡ map (place_in family.headings) (link_names links))
    × (place_in texts links.text.items ≡ Some kept.lookup)

-- the span is where the look-up of the row's group has the row's entries under its link headings
abbrev pub IsParentSpan : List LinkPlaces → List Lookup → PlacedRow → Span → Type 0
IsParentSpan of_groups lookups row span =
    (links : LinkPlaces) (lookup : Lookup) → At of_groups row.place links → At lookups links.lookup lookup
    → IsSpanOf lookup (text_at links.places.items row) span

abbrev pub AreParentSpans : List PlacedRow → List LinkPlaces → List Lookup → List Span → Type 0
AreParentSpans rows of_groups lookups spans = AreKept rows spans (λ n. IsParentSpan of_groups lookups)

-- the spans of these rows are where the look-up has their entries under their link headings; those of other rows are
-- as before
pub record AreSpansOf (rows : List PlacedRow) (of_groups : List LinkPlaces) (lookup : Lookup) (users : List ℕ)
    (old new : List Span) : Type 0 where
  pub size : length new ≡ length old
  pub noted : (n : ℕ) (row : PlacedRow) (links : LinkPlaces) (span : Span) → Contains users n → At rows n row
      → At of_groups row.place links → At new n span → IsSpanOf lookup (text_at links.places.items row) span
  pub kept : (n : ℕ) (d : Span) → ¬ (Contains users n) → slice_index_or new n d ≡ slice_index_or old n d

-- of each look-up its rows
abbrev pub AreRowsOf : List Lookup → List (Vec ℕ Global) → Type 0
AreRowsOf lookups lists = AreKept lookups lists (λ place lookup list. list.items ≡ map (λ p. p.1) lookup)

-- there is a look-up for each of the links; the lists are their rows, and the spans are in them
pub record AreListed (rows : List PlacedRow) (of_groups : List LinkPlaces) (links : List ParentLinks)
    (lists : List (Vec ℕ Global)) (spans : List Span) : Type 0 where
  pub lookups : List Lookup
  pub looked : AreLookups rows of_groups links lookups
  pub alone : AreRowsOf lookups lists
  pub spanned : AreParentSpans rows of_groups lookups spans

-- the span is within the numbers
abbrev pub IsInside : List ℕ → Span → Type 0
IsInside numbers span = (span.first ≤ span.end) × (span.end ≤ length numbers)

-- the numbers of the span
abbrev pub part_of : List ℕ → Span → List ℕ
part_of numbers span = take (span.end - span.first) (drop span.first numbers)

-- row n has its parent rows in the span, among those of the look-up of its group
pub record IsParentList (entries : Entries) (rows : List DataRow) (parents : ParentLists) (n : ℕ) (row : PlacedRow)
    (span : Span) : Type 0 where
  pub links : LinkPlaces
  pub list : Vec ℕ Global
  pub grouped : At parents.of_groups.items row.place links
  pub stands : At parents.lists.items links.lookup list
  pub inside : IsInside list.items span
  pub lists : ListsRows (part_of list.items span) (RowsRelate rows (IsParentRow entries) n)

abbrev pub AreParentLists : Entries → List PlacedRow → ParentLists → List Span → Type 0
AreParentLists entries rows parents spans = AreKept rows spans (IsParentList entries (map row_of rows) parents)
