-- What stands for itself within the quotes of a string: names, days, codes and most bytes that show.
use Rattle.std.proofs.Common.{◌≡◌, ℕ, ℤ, ◌+◌, ◌/◌, ◌%◌, ◌<◌, ◌≤◌, List, [], ◌∷◌, ◌++◌, true, refl, ap, ap₂, sym, subst, ◌∙◌, arith}
use Rattle.std.specs.List.{list_all}
use Rattle.std.proofs.lemmas.Bool.{and_parts}
use Rattle.std.proofs.lemmas.Bool.Decides.{nat_tests}
use Rattle.std.proofs.lemmas.Int.{ints}
use Rattle.json.specs.Print.{escape_byte, escape}
use Rattle.json.proofs.Printed.Strings.{escape_byte_plain}
use Rattle.ags_text.specs.Bytes.{zero_digit}
use Rattle.ags_text.specs.Names.{is_within}
use Rattle.ags_rows.specs.Codes.{code_text}
use Rattle.ags_rows.specs.declared.code.Code.{Code}
use Rattle.ags_rows.specs.declared.code.Code.TheVariants.{Rule1}
use Rattle.reg_policy.specs.Names.{hyphen, is_name, is_name_byte}
use Rattle.reg_policy.specs.Days.{Writes, day_text, two_digit_text}
use Rattle.reg_http.specs.Bodies.{printed_byte}

-- a byte that stands for itself within quotes
abbrev IsPlain : ℕ → Type 0
IsPlain b = escape_byte b ≡ b ∷ []

-- those of names do
name_byte_plain : (b : ℕ) → is_name_byte b ≡ true → IsPlain b
name_byte_plain b name = escape_byte_plain b (λ e. grind (arith, nat_tests)) (λ e. grind (arith, nat_tests)) (grind (arith, nat_tests))

-- so do bytes of names
bytes_plain : (s : List ℕ) → list_all is_name_byte s ≡ true → escape s ≡ s
bytes_plain [] name = refl
bytes_plain (b ∷ s) name =
    let p = and_parts (is_name_byte b) (list_all is_name_byte s) name in
    ap₂ (λ (a t : List ℕ). a ++ t) (name_byte_plain b p.0) (bytes_plain s p.1)

-- a name
pub name_plain : (s : List ℕ) → is_name s ≡ true → escape s ≡ s
name_plain s name = bytes_plain s (and_parts (is_within 32 s) (list_all is_name_byte s) name).1

digit_plain : (k : ℕ) → k < 10 → IsPlain (zero_digit + k)
digit_plain k small = escape_byte_plain (zero_digit + k) (λ e. omega (arith, e)) (λ e. omega (arith, e)) (omega arith)

-- two digits, before what stands for itself
digits_plain : (n : ℕ) (rest : List ℕ) → n < 100 → escape rest ≡ rest → escape (two_digit_text n ++ rest) ≡ two_digit_text n ++ rest
digits_plain n rest small plain =
    ap₂ (λ (a t : List ℕ). a ++ t) (digit_plain (n / 10) (omega arith)) (ap₂ (λ (a t : List ℕ). a ++ t) (digit_plain (n % 10) (omega arith)) plain)

-- a hyphen
dash_plain : (rest : List ℕ) → escape rest ≡ rest → escape (hyphen ∷ rest) ≡ hyphen ∷ rest
unfolding escape_byte
dash_plain rest plain = ap (λ t. hyphen ∷ t) plain

text_plain : (year month day : ℕ) → year < 10000 → month < 100 → day < 100 → escape (day_text year month day) ≡ day_text year month day
text_plain year month day small_year small_month small_day =
    let last = dash_plain (two_digit_text day) (digits_plain day [] small_day refl) in
    let later = dash_plain (two_digit_text month ++ hyphen ∷ two_digit_text day) (digits_plain month (hyphen ∷ two_digit_text day) small_month last) in
    digits_plain (year / 100) (two_digit_text (year % 100) ++ hyphen ∷ two_digit_text month ++ hyphen ∷ two_digit_text day) (omega arith)
    (digits_plain (year % 100) (hyphen ∷ two_digit_text month ++ hyphen ∷ two_digit_text day) (omega arith) later)

-- the text of a day
pub day_plain : (day : List ℕ) (n : ℤ) → Writes day n → escape day ≡ day
day_plain text n (year, month, day, (small_year, (date, number)), is) =
    let small_month : month < 100 = omega (arith, ints, date.1) in
    let small_day : day < 100 = grind (arith, ints, date.2) in
    subst (λ t. escape t ≡ t) (sym is) (text_plain year month day small_year small_month small_day)

-- the text of a code
pub code_plain : (code : Code) → escape (code_text code) ≡ code_text code
unfolding escape_byte
code_plain Rule1 = refl
code_plain code = refl

-- a byte that shows, and is not escaped
pub shown_plain : (b s : ℕ) → s ≡ printed_byte b → (s ≡ 34 → ⊥) → (s ≡ 92 → ⊥) → s ∷ [] ≡ escape_byte (printed_byte b)
shown_plain b s is no_quote no_slash = sym (ap escape_byte (sym is) ∙ escape_byte_plain s no_quote no_slash (subst (λ k. 32 ≤ k) (sym is) (grind (arith, nat_tests))))

-- a quote, and a backslash
pub shown_quote : (b s : ℕ) → s ≡ printed_byte b → s ≡ 34 → 92 ∷ 34 ∷ [] ≡ escape_byte (printed_byte b)
unfolding escape_byte
shown_quote b s is quote = ap escape_byte (sym quote ∙ is)

pub shown_slash : (b s : ℕ) → s ≡ printed_byte b → s ≡ 92 → 92 ∷ 92 ∷ [] ≡ escape_byte (printed_byte b)
unfolding escape_byte
shown_slash b s is slash = ap escape_byte (sym slash ∙ is)
