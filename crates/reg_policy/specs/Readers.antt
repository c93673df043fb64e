-- What the readers of the parts of a document give.
use Rattle.std.specs.Prelude.{◌≡◌, List, ℕ, false, codes, if◌then◌else◌, Option, Some, None, Result, Ok, Err, Vec, IfOk, IsOk, option_map}
use Rattle.std.specs.Borrow.{Bor}
use Rattle.std.specs.BTreeMap.{BTreeMap}
use Rattle.std.specs.Str.{bytes_eq}
use Rattle.std.specs.Prelude.{String}
use Rattle.std.specs.declared.alloc.Global.{Global}
use Rattle.toml.specs.Data.{Data, string, Members}
use Rattle.toml.specs.Parse.{parse_document}
use Rattle.toml.specs.View.{table_view}
use Rattle.toml.specs.declared.value.Value.{Value}
use Rattle.reg_policy.specs.Documents.{IsDocument, IsListOf, IsRefused, is_known}
use Rattle.reg_policy.specs.declared.error.ReadError.{ReadError}
use Rattle.reg_policy.specs.declared.error.ReadError.TheVariants.{Syntax, UnknownKey, BadValue, NoMemory}

-- a reader of one part, where P tells which value the part has: it is bad exactly where it has none
abbrev pub Gives : {A : Type 0} → (A → Type 0) → Result A ReadError → Type 0
Gives P (Ok a) = P a
Gives {A} P (Err BadValue) = (a : A) → ¬ (P a)
Gives P (Err NoMemory) = Unit {0}
Gives P (Err e) = ⊥

-- the same, where the part is a list
abbrev pub GivesList : {A : Type 0} → (List A → Type 0) → Result (Vec A Global) ReadError → Type 0
GivesList P (Ok v) = P v.items
GivesList P (Err e) = Gives P (Err e)

-- a reader of a text as a document of known keys
abbrev pub Opens : List ℕ → List (List ℕ) → List ℕ → Result (BTreeMap (String Global) Value) ReadError → Type 0
Opens array_key table_keys text (Ok t) = IsDocument array_key table_keys text (table_view t)
Opens array_key table_keys text (Err Syntax) = parse_document text ≡ None
Opens array_key table_keys text (Err UnknownKey) =
    (document : Members) × (parse_document text ≡ Some document) × (is_known array_key table_keys document ≡ false)
Opens array_key table_keys text (Err NoMemory) = Unit {0}
Opens array_key table_keys text (Err e) = ⊥

-- a reader of a whole list
abbrev pub ReadsList :
    {A : Type 0} → List ℕ → List (List ℕ) → (Members → A → Type 0) → List ℕ → Result (Vec A Global) ReadError → Type 0
ReadsList array_key table_keys Says text (Ok v) = IsListOf array_key table_keys Says text v.items
ReadsList array_key table_keys Says text (Err e) = IsRefused array_key table_keys Says text e

-- the text at a key, lent; a value of another kind is bad
abbrev pub GivesText : Option Data → Result (Option (Bor (List ℕ))) ReadError → Type 0
GivesText None r = r ≡ Ok None
GivesText (Some (string s)) r = IfOk r (λ o. option_map (λ x. x.now) o ≡ Some s) × IsOk r
GivesText (Some d) r = r ≡ Err BadValue

-- the same, where `*` is none
abbrev pub GivesWord : Option Data → Result (Option (Bor (List ℕ))) ReadError → Type 0
GivesWord None r = r ≡ Ok None
GivesWord (Some (string s)) r =
    IfOk r (λ o. option_map (λ x. x.now) o ≡ (if bytes_eq s (codes "*") then None else Some s)) × IsOk r
GivesWord (Some d) r = r ≡ Err BadValue

-- a copy of a text, or NoMemory
abbrev pub GivesCopy : List ℕ → Result (List ℕ) ReadError → Type 0
GivesCopy text (Ok copy) = copy ≡ text
GivesCopy text (Err e) = e ≡ NoMemory
