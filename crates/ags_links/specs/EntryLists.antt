-- The entries of the rows of a parent group under its first link heading, for the look-ups that one row uses.
use Rattle.std.specs.Prelude.{◌≡◌, ℕ, List}
use Rattle.std.specs.Borrow.{Bor}
use Rattle.ags_links.specs.declared.entry_lists.EntryList.{EntryList}
use Rattle.ags_links.specs.declared.parents.ParentLinks.{ParentLinks}
use Rattle.ags_links.specs.declared.placed.PlacedRow.{PlacedRow}
use Rattle.ags_rows.specs.Collecting.{At}
use Rattle.ags_links.specs.DataRows.{entry_of}
use Rattle.ags_links.specs.Families.{AreKept}
use Rattle.ags_links.specs.ParentRows.{link_names}
use Rattle.ags_links.specs.Placing.{row_of}

-- it is what is in row n under the heading
abbrev pub IsEntryUnder : List PlacedRow → List ℕ → ℕ → Bor (List ℕ) → Type 0
IsEntryUnder rows heading n entry = (row : PlacedRow) → At rows n row → entry.now ≡ entry_of (row_of row) heading

-- these are the entries of the rows under the heading, each at its row's place
abbrev pub AreEntries : List PlacedRow → List ℕ → List ℕ → List (Bor (List ℕ)) → Type 0
AreEntries rows numbers heading entries = AreKept numbers entries (λ place. IsEntryUnder rows heading)

-- the entry at this place of the list, if there is one, is the text
abbrev pub AgreesAt : List (Bor (List ℕ)) → ℕ → List ℕ → Type 0
AgreesAt list place text = (entry : Bor (List ℕ)) → At list place entry → entry.now ≡ text

abbrev pub IsEntryList : List PlacedRow → EntryList → Type 0
IsEntryList rows list = AreEntries rows list.rows.now list.heading.now list.entries.items

-- what is in the list at the place of a row of the parent group is what is in that row under the first link heading
abbrev pub AreLeadingEntries : List PlacedRow → ParentLinks → List (Bor (List ℕ)) → Type 0
AreLeadingEntries rows links entries =
    (place n : ℕ) (entry : Bor (List ℕ)) (row : PlacedRow) (name : List ℕ) → At entries place entry
    → At links.rows.now place n → At rows n row → At (link_names links) 0 name
    → entry.now ≡ entry_of (row_of row) name
