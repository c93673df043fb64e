-- What a TOML document says whose only key is that of an array of tables.
use Rattle.std.specs.Prelude.{◌≡◌, List, [], ◌∷◌, ℕ, Bool, true, false, ◌&&◌, Option, Some, None}
use Rattle.std.specs.List.{list_any}
use Rattle.std.specs.Str.{bytes_eq}
use Rattle.toml.specs.Data.{Data, array, table, Items, no_items, item, Members, no_members, member, get_member}
use Rattle.toml.specs.Parse.{parse_document}
use Rattle.reg_policy.specs.declared.error.ReadError.{ReadError}
use Rattle.reg_policy.specs.declared.error.ReadError.TheVariants.{Syntax, UnknownKey, BadValue, NoMemory}

-- one of these keys
abbrev pub is_known_key : List (List ℕ) → List ℕ → Bool
is_known_key keys key = list_any (bytes_eq key) keys

-- each key of a table passes
abbrev pub all_keys : (List ℕ → Bool) → Members → Bool
all_keys passes no_members = true
all_keys passes (member key d members) = passes key && all_keys passes members

-- an item of the array has no other keys than these, where it is a table
abbrev pub has_known_keys : List (List ℕ) → Data → Bool
has_known_keys keys (table members) = all_keys (is_known_key keys) members
has_known_keys keys d = true

abbrev pub all_items : (Data → Bool) → Items → Bool
all_items passes no_items = true
all_items passes (item d items) = passes d && all_items passes items

-- the tables have no other keys than these, where there is an array
abbrev pub have_known_keys : List (List ℕ) → Option Data → Bool
have_known_keys keys (Some (array items)) = all_items (has_known_keys keys) items
have_known_keys keys value = true

-- The document has no other key than that of the array, and the array's tables none than these.
abbrev pub is_known : List ℕ → List (List ℕ) → Members → Bool
is_known array_key table_keys document =
    all_keys (λ k. bytes_eq k array_key) document && have_known_keys table_keys (get_member array_key document)

-- the item is a table, and says this, where Says tells what a table says
abbrev pub InTable : {A : Type 0} → (Members → A → Type 0) → Data → A → Type 0
InTable Says (table members) a = Says members a
InTable Says d a = ⊥

-- the items say these things, one by one
abbrev pub Each : {A : Type 0} → (Members → A → Type 0) → Items → List A → Type 0
Each Says no_items [] = Unit {0}
Each Says (item d items) (a ∷ all) = InTable Says d a × Each Says items all
Each Says items all = ⊥

-- what the array lists: nothing where there is none
abbrev pub TablesSay : {A : Type 0} → (Members → A → Type 0) → Option Data → List A → Type 0
TablesSay Says None all = all ≡ []
TablesSay Says (Some (array items)) all = Each Says items all
TablesSay Says (Some d) all = ⊥

-- the text is a TOML document of known keys
abbrev pub IsDocument : List ℕ → List (List ℕ) → List ℕ → Members → Type 0
IsDocument array_key table_keys text document =
    (parse_document text ≡ Some document) × (is_known array_key table_keys document ≡ true)

-- The text is a document that lists all these.
abbrev pub IsListOf : {A : Type 0} → List ℕ → List (List ℕ) → (Members → A → Type 0) → List ℕ → List A → Type 0
IsListOf array_key table_keys Says text all =
    (document : Members) × IsDocument array_key table_keys text document
    × TablesSay Says (get_member array_key document) all

-- The text is refused: it is no TOML; or a key is unknown; or what the array has is nothing that it may say.
abbrev pub IsRefused : {A : Type 0} → List ℕ → List (List ℕ) → (Members → A → Type 0) → List ℕ → ReadError → Type 0
IsRefused array_key table_keys Says text Syntax = parse_document text ≡ None
IsRefused array_key table_keys Says text UnknownKey =
    (document : Members) × (parse_document text ≡ Some document) × (is_known array_key table_keys document ≡ false)
IsRefused {A} array_key table_keys Says text BadValue =
    (document : Members) × IsDocument array_key table_keys text document
    × ((all : List A) → ¬ (TablesSay Says (get_member array_key document) all))
IsRefused array_key table_keys Says text NoMemory = Unit {0}
