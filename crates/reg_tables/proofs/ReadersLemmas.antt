-- The rows of an answer, read one by one.
use Rattle.std.proofs.Common.{Bool, true, false, ◌&&◌, ◌≡◌, ℕ, zero, suc, ◌+◌, ◌<◌, List, [], ◌∷◌, ◌++◌, length, refl, sym, ap, ◌∙◌, arith}
use Rattle.std.specs.List.{list_all}
use Rattle.std.specs.Str.{IsAscii, IsUtf8}
use Rattle.std.proofs.lemmas.Str.{IsUtf8-from_ascii}
use Rattle.std.proofs.lemmas.Bool.Decides.{nat_tests}
use Rattle.sqlite.specs.declared.types.Value.{Value}
use Rattle.sqlite.specs.Order.{Row, column}
use Rattle.reg_policy.specs.Names.{is_name, is_name_byte}
use Rattle.reg_store.specs.declared.keep.KeptRow.{KeptRow}
use Rattle.reg_tables.specs.Rows.{placed_row, placed_rows}

pub width_1 : (r : Row) → length r ≡ 1 → r ≡ column r 0 ∷ []
width_1 [] h = absurd (omega (arith, h))
width_1 (a ∷ []) h = refl
width_1 (a ∷ b ∷ r) h = absurd (omega (arith, h))

pub width_2 : (r : Row) → length r ≡ 2 → r ≡ column r 0 ∷ column r 1 ∷ []
width_2 [] h = absurd (omega (arith, h))
width_2 (a ∷ r) h = ap (λ more. a ∷ more) (width_1 r (omega (arith, h)))

pub width_3 : (r : Row) → length r ≡ 3 → r ≡ column r 0 ∷ column r 1 ∷ column r 2 ∷ []
width_3 [] h = absurd (omega (arith, h))
width_3 (a ∷ r) h = ap (λ more. a ∷ more) (width_2 r (omega (arith, h)))

pub width_4 : (r : Row) → length r ≡ 4 → r ≡ column r 0 ∷ column r 1 ∷ column r 2 ∷ column r 3 ∷ []
width_4 [] h = absurd (omega (arith, h))
width_4 (a ∷ r) h = ap (λ more. a ∷ more) (width_3 r (omega (arith, h)))

pub width_5 : (r : Row) → length r ≡ 5 → r ≡ column r 0 ∷ column r 1 ∷ column r 2 ∷ column r 3 ∷ column r 4 ∷ []
width_5 [] h = absurd (omega (arith, h))
width_5 (a ∷ r) h = ap (λ more. a ∷ more) (width_4 r (omega (arith, h)))

pub places-push : (at : ℕ) (rows : List KeptRow) (row : KeptRow) → placed_rows at (rows ++ row ∷ []) ≡ placed_rows at rows ++ placed_row (at + length rows) row ∷ []
places-push at [] row = let e : at + 0 ≡ at = omega arith in rw e refl
places-push at (x ∷ rows) row =
    let e : (at + 1) + length rows ≡ at + suc (length rows) = omega arith in
    ap (λ more. placed_row at x ∷ more) (places-push (at + 1) rows row ∙ ap (λ k. placed_rows (at + 1) rows ++ placed_row k row ∷ []) e)

pub line_more : (rows : List Row) (row : Row) (at : ℕ) (lines all : List KeptRow) (line : KeptRow) → at ≡ length lines → rows ≡ placed_rows 0 lines → row ≡ placed_row at line → all ≡ lines ++ line ∷ []
    → rows ++ row ∷ [] ≡ placed_rows 0 all
line_more rows row at lines all line long before now pushed =
    ap (λ more. more ++ row ∷ []) before ∙ ap (λ r. placed_rows 0 lines ++ r ∷ []) now ∙ ap (λ k. placed_rows 0 lines ++ placed_row k line ∷ []) (long ∙ omega arith) ∙ sym (places-push 0 lines line) ∙ ap (placed_rows 0) (sym pushed)

pub five_are : (row : Row) (a b c d e : Value) → length row ≡ 5 → column row 0 ≡ a → column row 1 ≡ b → column row 2 ≡ c → column row 3 ≡ d → column row 4 ≡ e → row ≡ a ∷ b ∷ c ∷ d ∷ e ∷ []
five_are row a b c d e long p q r s t = width_5 row long ∙ (λ i. p i ∷ q i ∷ r i ∷ s i ∷ t i ∷ [])

-- ---- a name is a text

both : (a b : Bool) → (a && b) ≡ true → (a ≡ true) × (b ≡ true)
both true b h = (refl, h)
both false b h = absurd cc

name_byte : (b : ℕ) → is_name_byte b ≡ true → b < 128
name_byte b h = grind (arith, nat_tests)

name_ascii : (text : List ℕ) → list_all is_name_byte text ≡ true → IsAscii text
name_ascii [] h i = omega arith
name_ascii (b ∷ text) h zero = name_byte b (both _ _ h).0
name_ascii (b ∷ text) h (suc i) = name_ascii text (both _ _ h).1 i

pub name_utf8 : (name : List ℕ) → is_name name ≡ true → IsUtf8 name
name_utf8 name h = IsUtf8-from_ascii name (name_ascii name (both _ _ h).1)
