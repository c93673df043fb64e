-- The bodies of the answers, as JSON (RFC 8259), compact and with keys in byte order.
use Rattle.std.specs.Prelude.{◌≡◌, ℕ, ℤ, List, ◌||◌, nat_lt, if◌then◌else◌, map, codes, true}
use Rattle.std.specs.List.{AllZip}
use Rattle.serde_json.specs.Data.{Data, number, unsigned, string, boolean, array, object, member, no_members}
use Rattle.serde_json.specs.View.{items_of}
use Rattle.ags_rows.specs.Codes.{code_text}
use Rattle.ags_rows.specs.declared.finding.Finding.{Finding}
use Rattle.reg_policy.specs.Days.{Writes}
use Rattle.reg_desk.specs.declared.answer.Listed.{Listed}

-- the characters that show are those from the space to the tilde
abbrev pub first_shown : ℕ
first_shown = 32

abbrev pub last_shown : ℕ
last_shown = 126

abbrev pub question_mark : ℕ
question_mark = 63

-- a byte as it is printed: `?` where it does not show
abbrev pub printed_byte : ℕ → ℕ
printed_byte b = if nat_lt b first_shown || nat_lt last_shown b then question_mark else b

-- a subject as it is printed
abbrev pub printed : List ℕ → List ℕ
printed subject = map printed_byte subject

abbrev pub finding_data : Finding → Data
finding_data f = object
    (member (codes "code") (string (code_text f.code))
    (member (codes "line") (number (unsigned f.line))
    (member (codes "subject") (string (printed f.subject)) no_members)))

abbrev pub findings_data : List Finding → Data
findings_data fs = object (member (codes "findings") (array (items_of (map finding_data fs))) no_members)

abbrev pub denied_data : ℕ → Data
denied_data n = object (member (codes "denied") (number (unsigned n)) no_members)

abbrev pub withdrawn_data : ℕ → Data
withdrawn_data n = object (member (codes "withdrawn") (number (unsigned n)) no_members)

abbrev pub clean_data : Data
clean_data = object (member (codes "clean") (boolean true) no_members)

-- a receipt, with the text of its embargo day
abbrev pub receipt_data : List ℕ → ℕ → Data
receipt_data embargo n = object
    (member (codes "embargo") (string embargo)
    (member (codes "number") (number (unsigned n)) no_members))

abbrev pub IsReceiptData : ℕ → ℤ → Data → Type 0
IsReceiptData n embargo data_of = (text : List ℕ) × Writes text embargo × (data_of ≡ receipt_data text n)

-- a deposit of a listing, with the text of its embargo day
abbrev pub listed_data : List ℕ → Listed → Data
listed_data embargo l = object
    (member (codes "embargo") (string embargo)
    (member (codes "firm") (string l.firm)
    (member (codes "number") (number (unsigned l.number)) no_members)))

abbrev pub IsListedData : Listed → Data → Type 0
IsListedData l data_of = (text : List ℕ) × Writes text l.embargo × (data_of ≡ listed_data text l)

abbrev pub listing_data : List Data → Data
listing_data items = object (member (codes "deposits") (array (items_of items)) no_members)

-- the deposits of a listing, in its order
abbrev pub IsListingData : List Listed → Data → Type 0
IsListingData ls data_of = (items : List Data) × AllZip IsListedData ls items × (data_of ≡ listing_data items)
