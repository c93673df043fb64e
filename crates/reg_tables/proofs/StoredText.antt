-- What the rows of meta say of the dictionary's bytes.
use Rattle.std.proofs.Common.{◌≡◌, ℕ, zero, suc, Bool, true, false, List, [], ◌∷◌, All, refl, sym, subst, arith}
use Rattle.std.specs.Prelude.{Contains, if◌then◌else◌}
use Rattle.std.specs.List.{AllByRecursion}
use Rattle.std.specs.List.Sorted.{IsPermutation}
use Rattle.std.proofs.lemmas.List.Elements.{recursion_from_All}
use Rattle.std.proofs.lemmas.List.Sorted.{All-permutation, Contains-permutation}
use Rattle.sqlite.specs.Order.{Row, bytes, column}
use Rattle.reg_tables.specs.Rows.{dictionary_row}
use Rattle.reg_tables.specs.Register.{has_dictionary, meta_columns, dictionary_body}

-- where the row has the dictionary, its body is these bytes
abbrev HasText : List ℕ → Row → Type 0
HasText text c = has_dictionary c ≡ true → bytes (column c 2) ≡ text

both_have : (number : ℕ) (text : List ℕ) → All (HasText text) (meta_columns number text)
both_have number text zero d low = λ _. refl
both_have number text (suc zero) d low = λ e. absurd (let no : false ≡ true = e in cc)
both_have number text (suc (suc i)) d low = absurd (omega arith)

pub first_row : (number : ℕ) (text : List ℕ) → Contains (meta_columns number text) (dictionary_row text)
first_row number text = (0, omega arith, refl)

first_text : (text : List ℕ) (rows : List Row) → AllByRecursion (HasText text) rows → Contains rows (dictionary_row text) → dictionary_body rows ≡ text
first_text text [] each (k, low, is) = absurd (omega (arith, low))
first_text text (c ∷ more) each (zero, low, is) = subst (λ (row : Row). dictionary_body (row ∷ more) ≡ text) (sym is) refl
first_text text (c ∷ more) each (suc k, low, is) = go (has_dictionary c) refl (first_text text more each.1 (k, omega (arith, low), is))
  where
    go : (b : Bool) → has_dictionary c ≡ b → dictionary_body more ≡ text → (if b then bytes (column c 2) else dictionary_body more) ≡ text
    go true e rest = each.0 e
    go false e rest = rest

-- the bytes that are read from the rows are those that the rows were made of
pub text_of_meta : (number : ℕ) (text : List ℕ) (rows : List Row) → IsPermutation (meta_columns number text) rows → dictionary_body rows ≡ text
text_of_meta number text rows all =
    first_text text rows
    (recursion_from_All (HasText text) rows (All-permutation (HasText text) (meta_columns number text) rows all (both_have number text)))
    (Contains-permutation (meta_columns number text) rows (dictionary_row text) all (first_row number text))
