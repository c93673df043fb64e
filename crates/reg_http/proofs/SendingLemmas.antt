-- The text of a line, and that of a list of lines.
use Rattle.std.proofs.Common.{◌≡◌, ℕ, ◌+◌, suc, ◌<◌, ◌≤◌, List, [], ◌∷◌, ◌++◌, Bool, true, false, refl, ap, sym, subst, ◌∙◌, append_assoc, append-nil, length, get_or, map, take, codes, arith, decimal}
use Rattle.std.specs.Prelude.{nat_lt, Result, Ok, Err, OnOk, is_ok, if◌then◌else◌}
use Rattle.std.specs.List.{AllZip}
use Rattle.std.proofs.lemmas.Bool.Decides.{nat_tests}
use Rattle.std.proofs.lemmas.List.{take_more, take_all, map-append, length-map, length-take-le}
use Rattle.json.specs.Print.{escape_byte, escape, quoted}
use Rattle.serde_json.specs.Data.{Data, array, object, member, no_members}
use Rattle.serde_json.specs.View.{items_of}
use Rattle.serde_json.specs.Written.{comma_if, compact_text, items_text}
use Rattle.ags_rows.specs.Codes.{code_text}
use Rattle.ags_rows.specs.Collecting.{At}
use Rattle.ags_rows.specs.declared.finding.Finding.{Finding}
use Rattle.ags_rows.proofs.Lemmas.{take_at}
use Rattle.reg_policy.specs.Names.{is_name}
use Rattle.reg_policy.specs.Days.{Writes}
use Rattle.reg_desk.specs.declared.answer.Listed.{Listed}
use Rattle.reg_http.specs.Bodies.{finding_data, findings_data, IsListedData, IsListingData, listed_data, listing_data, printed}
use Rattle.reg_http.proofs.PlainLemmas.{code_plain, day_plain, name_plain}

-- the texts of items, after others or not, with a comma between two
abbrev items_front : Bool → List Data → List ℕ
items_front later [] = []
items_front later (d ∷ ds) = comma_if later ++ (compact_text d ++ items_front true ds)

-- the text of an object whose one member is a list, up to the last of its items
abbrev pub list_front : List ℕ → List Data → List ℕ
list_front name ds = codes "{" ++ (quoted name ++ (codes ":[" ++ items_front false ds))

-- after other items comes a comma
later_more : (ds : List Data) (d : Data) → items_front true (ds ++ d ∷ []) ≡ items_front true ds ++ 44 ∷ compact_text d
later_more [] d = ap (λ t. 44 ∷ t) (append-nil (compact_text d))
later_more (e ∷ ds) d =
    ap (λ t. 44 ∷ (compact_text e ++ t)) (later_more ds d) ∙ ap (λ t. 44 ∷ t) (sym (append_assoc (compact_text e) (items_front true ds) (44 ∷ compact_text d)))

-- one item more, after so many
items_more : (ds : List Data) (d : Data) (n : ℕ) → length ds ≡ n → items_front false (ds ++ d ∷ []) ≡ items_front false ds ++ (comma_if (nat_lt 0 n) ++ compact_text d)
items_more [] d n none = subst (λ k. compact_text d ++ [] ≡ comma_if (nat_lt 0 k) ++ compact_text d) none (append-nil (compact_text d))
items_more (e ∷ ds) d n some =
    let later : nat_lt 0 n ≡ true = grind (arith, nat_tests) in
    ap (λ t. compact_text e ++ t) (later_more ds d) ∙ sym (append_assoc (compact_text e) (items_front true ds) (44 ∷ compact_text d))
    ∙ ap (λ b. (compact_text e ++ items_front true ds) ++ (comma_if b ++ compact_text d)) (sym later)

-- a list that has one item more
pub front_more : (name : List ℕ) (ds : List Data) (d : Data) (n : ℕ) (old mid new : List ℕ) → length ds ≡ n → old ≡ list_front name ds → mid ≡ old ++ comma_if (nat_lt 0 n) → new ≡ mid ++ compact_text d
    → new ≡ list_front name (ds ++ d ∷ [])
front_more name ds d n old mid new so was comma item =
    let comma_item = comma_if (nat_lt 0 n) ++ compact_text d in
    item ∙ ap (λ t. t ++ compact_text d) comma ∙ append_assoc old (comma_if (nat_lt 0 n)) (compact_text d) ∙ ap (λ t. t ++ comma_item) was
    ∙ append_assoc (codes "{" ++ quoted name) (codes ":[" ++ items_front false ds) comma_item ∙ ap (λ t. codes "{" ++ (quoted name ++ (codes ":[" ++ t))) (sym (items_more ds d n so))

regroup : (a b c d : List ℕ) → (a ++ (b ++ c)) ++ d ≡ a ++ (b ++ (c ++ d))
regroup a b c d = simp append_assoc

-- closed, they are the text of a list
closed : (later : Bool) (ds : List Data) (rest : List ℕ) → items_front later ds ++ 93 ∷ rest ≡ items_text later (items_of ds) ++ rest
closed later [] rest = refl
closed later (d ∷ ds) rest =
    regroup (comma_if later) (compact_text d) (items_front true ds) (93 ∷ rest) ∙ ap (λ t. comma_if later ++ (compact_text d ++ t)) (closed true ds rest)
    ∙ sym (regroup (comma_if later) (compact_text d) (items_text true (items_of ds)) rest)

-- the text of the whole
list_closed : (name : List ℕ) (ds : List Data) → list_front name ds ++ codes "]}" ≡ compact_text (object (member name (array (items_of ds)) no_members))
list_closed name ds = append_assoc (codes "{" ++ quoted name) (codes ":[" ++ items_front false ds) (codes "]}") ∙ ap (λ t. codes "{" ++ (quoted name ++ (codes ":[" ++ t))) (closed false ds (codes "}"))

-- a string that is written as it is
quoted_plain : (s rest : List ℕ) → escape s ≡ s → quoted s ++ rest ≡ 34 ∷ (s ++ 34 ∷ rest)
quoted_plain s rest plain = ap (λ t. 34 ∷ t) (append_assoc (escape s) (34 ∷ []) rest ∙ ap (λ t. t ++ 34 ∷ rest) plain)

-- where the last piece was written, it comes after the others
pub last_piece : {T E P : Type 0} (r : Result T E) (new grown same : List ℕ) → new ≡ (if is_ok r then grown else same) → (new ≡ grown → P) → OnOk r P
last_piece (Ok t) new grown same is next = next is
last_piece (Err e) new grown same is next = tt

-- five pieces, one after the other
pub five_pieces : (o a b c d e o1 o2 o3 o4 o5 : List ℕ) → o1 ≡ o ++ a → o2 ≡ o1 ++ b → o3 ≡ o2 ++ c → o4 ≡ o3 ++ d → o5 ≡ o4 ++ e → o5 ≡ ((((o ++ a) ++ b) ++ c) ++ d) ++ e
five_pieces o a b c d e o1 o2 o3 o4 o5 e1 e2 e3 e4 e5 = rw (e5, e4, e3, e2, e1) refl

-- the pieces of a finding, one after the other
pub finding_pieces : (o a b c d e f g o1 o2 o3 o4 o5 o6 : List ℕ) → o1 ≡ (o ++ a) ++ b → o2 ≡ o1 ++ c → o3 ≡ o2 ++ d → o4 ≡ o3 ++ e → o5 ≡ o4 ++ f → o6 ≡ o5 ++ g
    → o6 ≡ o ++ (a ++ (b ++ (c ++ (d ++ (e ++ (f ++ g))))))
finding_pieces o a b c d e f g o1 o2 o3 o4 o5 o6 e1 e2 e3 e4 e5 e6 = rw (e6, e5, e4, e3, e2, e1) (simp append_assoc)

-- those of a deposit
pub listed_pieces : (o a b c d e f g o1 o2 o3 o4 o5 : List ℕ) → o1 ≡ (o ++ a) ++ b → o2 ≡ (o1 ++ c) ++ d → o3 ≡ o2 ++ e → o4 ≡ o3 ++ f → o5 ≡ o4 ++ g
    → o5 ≡ o ++ (a ++ (b ++ (c ++ (d ++ (e ++ (f ++ g))))))
listed_pieces o a b c d e f g o1 o2 o3 o4 o5 e1 e2 e3 e4 e5 = rw (e5, e4, e3, e2, e1) (simp append_assoc)

-- the text of a deposit
pub listed_text : (day : List ℕ) (l : Listed) → escape day ≡ day → escape l.firm ≡ l.firm
    → codes "{\"embargo\":\"" ++ (day ++ (codes "\",\"firm\":\"" ++ (l.firm ++ (codes "\",\"number\":" ++ (decimal l.number ++ codes "}"))))) ≡ compact_text (listed_data day l)
unfolding escape_byte
listed_text day l plain_day plain_firm =
    let number = codes ",\"number\":" ++ (decimal l.number ++ codes "}") in
    sym (ap (λ t. codes "{\"embargo\":" ++ t) (quoted_plain day (codes ",\"firm\":" ++ (quoted l.firm ++ number)) plain_day
    ∙ ap (λ t. codes "\"" ++ (day ++ (codes "\",\"firm\":" ++ t))) (quoted_plain l.firm number plain_firm)))

-- the text of a finding
pub finding_text : (f : Finding) → escape (code_text f.code) ≡ code_text f.code
    → codes "{\"code\":\"" ++ (code_text f.code ++ (codes "\",\"line\":" ++ (decimal f.line ++ (codes ",\"subject\":\"" ++ (escape (printed f.subject) ++ codes "\"}"))))) ≡ compact_text (finding_data f)
unfolding escape_byte
finding_text f plain_code =
    let subject = decimal f.line ++ (codes ",\"subject\":" ++ (quoted (printed f.subject) ++ codes "}")) in
    sym (ap (λ t. codes "{\"code\":" ++ t) (quoted_plain (code_text f.code) (codes ",\"line\":" ++ subject) plain_code)
    ∙ ap (λ t. codes "{\"code\":\"" ++ (code_text f.code ++ (codes "\",\"line\":" ++ (decimal f.line ++ (codes ",\"subject\":\"" ++ t))))) (append_assoc (escape (printed f.subject)) (34 ∷ []) (codes "}")))

-- ---- what is written before the first line

pub begun : (name old new literal : List ℕ) → old ≡ [] → new ≡ old ++ literal → literal ≡ list_front name [] → new ≡ list_front name []
begun name old new literal none is front = is ∙ ap (λ t. t ++ literal) none ∙ front

pub findings_begin : codes "{\"findings\":[" ≡ list_front (codes "findings") []
unfolding escape_byte
findings_begin = refl

pub deposits_begin : codes "{\"deposits\":[" ≡ list_front (codes "deposits") []
unfolding escape_byte
deposits_begin = refl

-- ---- what is written after the last line

-- one finding more is written
pub findings_more : (fs : List Finding) (place : ℕ) (f : Finding) (old mid new : List ℕ) → At fs place f → old ≡ list_front (codes "findings") (map finding_data (take place fs))
    → mid ≡ old ++ comma_if (nat_lt 0 place) → new ≡ mid ++ compact_text (finding_data f) → new ≡ list_front (codes "findings") (map finding_data (take (place + 1) fs))
findings_more fs place f old mid new at was comma item =
    let within : place < length fs = at.0 in
    let so : length (map finding_data (take place fs)) ≡ place = length-map (take place fs) finding_data ∙ length-take-le place fs (omega arith) in
    front_more (codes "findings") (map finding_data (take place fs)) (finding_data f) place old mid new so was comma item
    ∙ sym (ap (λ xs. list_front (codes "findings") (map finding_data xs)) (take_at fs place f at) ∙ ap (list_front (codes "findings")) (map-append finding_data (take place fs) (f ∷ [])))

-- the text of all findings
pub findings_text_is : (fs : List Finding) (place : ℕ) (old new : List ℕ) → length fs ≤ place → old ≡ list_front (codes "findings") (map finding_data (take place fs)) → new ≡ old ++ codes "]}"
    → new ≡ compact_text (findings_data fs)
findings_text_is fs place old new end was is =
    is ∙ ap (λ t. t ++ codes "]}") (was ∙ ap (λ xs. list_front (codes "findings") (map finding_data xs)) (take_all place fs end)) ∙ list_closed (codes "findings") (map finding_data fs)

-- the deposits are listed so far
abbrev pub IsListingFront : List Listed → List ℕ → Type 0
IsListingFront ls out = (ds : List Data) × AllZip IsListedData ls ds × (out ≡ list_front (codes "deposits") ds)

-- as many have data as there are
all_more : (ls : List Listed) (ds : List Data) (l : Listed) (d : Data) → AllZip IsListedData ls ds → IsListedData l d → AllZip IsListedData (ls ++ l ∷ []) (ds ++ d ∷ [])
all_more [] [] l d all is = (is, tt)
all_more (k ∷ ls) (e ∷ ds) l d all is = (all.0, all_more ls ds l d all.1 is)
all_more ls ds l d all is = absurd all

all_long : (ls : List Listed) (ds : List Data) → AllZip IsListedData ls ds → length ds ≡ length ls
all_long [] [] all = refl
all_long (k ∷ ls) (e ∷ ds) all = ap suc (all_long ls ds all.1)
all_long ls ds all = absurd all

-- one deposit more is written
pub deposits_more : (ls : List Listed) (place : ℕ) (l : Listed) (old mid new : List ℕ) → place < length ls → l ≡ get_or ls place l → IsListingFront (take place ls) old → mid ≡ old ++ comma_if (nat_lt 0 place)
    → (d : Data) × IsListedData l d × (new ≡ mid ++ compact_text d) → IsListingFront (take (place + 1) ls) new
deposits_more ls place l old mid new lt at (ds, all, was) comma (d, data_is, item) =
    let so : length ds ≡ place = all_long (take place ls) ds all ∙ length-take-le place ls (omega arith) in
    let taken : take place ls ++ l ∷ [] ≡ take (place + 1) ls = ap (λ x. take place ls ++ x ∷ []) at ∙ sym (take_more ls place l lt) in (
      ds ++ d ∷ [],
      subst (λ xs. AllZip IsListedData xs (ds ++ d ∷ [])) taken (all_more (take place ls) ds l d all data_is),
      front_more (codes "deposits") ds d place old mid new so was comma item,
    )

-- the text of a listing
pub listing_text_is : (ls : List Listed) (place : ℕ) (old new : List ℕ) → length ls ≤ place → IsListingFront (take place ls) old → new ≡ old ++ codes "]}"
    → (d : Data) × IsListingData ls d × (new ≡ compact_text d)
listing_text_is ls place old new end (ds, all, was) is =
    (listing_data ds, (ds, subst (λ xs. AllZip IsListedData xs ds) (take_all place ls end) all, refl), is ∙ ap (λ t. t ++ codes "]}") was ∙ list_closed (codes "deposits") ds)

-- the line of a deposit
pub deposit_line : (day : List ℕ) (l : Listed) (old new : List ℕ) → Writes day l.embargo → is_name l.firm ≡ true
    → new ≡ old ++ (codes "{\"embargo\":\"" ++ (day ++ (codes "\",\"firm\":\"" ++ (l.firm ++ (codes "\",\"number\":" ++ (decimal l.number ++ codes "}"))))))
    → (d : Data) × IsListedData l d × (new ≡ old ++ compact_text d)
deposit_line day l old new writes name is =
    (listed_data day l, (day, writes, refl), is ∙ ap (λ t. old ++ t) (listed_text day l (day_plain day l.embargo writes) (name_plain l.firm name)))

-- that of a finding
pub finding_line : (f : Finding) (old new : List ℕ)
    → new ≡ old ++ (codes "{\"code\":\"" ++ (code_text f.code ++ (codes "\",\"line\":" ++ (decimal f.line ++ (codes ",\"subject\":\"" ++ (escape (printed f.subject) ++ codes "\"}"))))))
    → new ≡ old ++ compact_text (finding_data f)
finding_line f old new is = is ∙ ap (λ t. old ++ t) (finding_text f (code_plain f.code))
