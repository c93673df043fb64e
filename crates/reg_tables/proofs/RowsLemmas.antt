-- Lists of rows, compared place by place.
use Rattle.std.proofs.Common.{◌≡◌, false, IsTrue, ℕ, zero, suc, ◌+◌, ◌<◌, pos, List, [], ◌∷◌, map, length, get_or, refl, sym, ap, ◌∙◌, arith}
use Rattle.std.proofs.lemmas.List.{get_or_default}
use Rattle.sqlite.specs.declared.types.Value.TheVariants.{Int}
use Rattle.reg_store.specs.declared.keep.KeptRow.{KeptRow}
use Rattle.reg_tables.specs.Rows.{placed_row, placed_rows}
use Rattle.reg_tables.specs.Private.NumberRows.{number_rows}

-- lists of one length with the same elements are one
pub same_list : {X : Type 0} (d : X) (xs ys : List X) → length xs ≡ length ys → ((k : ℕ) → k < length xs → get_or xs k d ≡ get_or ys k d) → xs ≡ ys
same_list d [] [] e h = refl
same_list d (x ∷ xs) (y ∷ ys) e h =
    let first : x ≡ y = h 0 (omega arith) in
    ap (λ z. z ∷ xs) first ∙ ap (λ all. y ∷ all) (same_list d xs ys (omega (arith, e)) (λ k low. h (suc k) (omega (arith, low))))
same_list d xs ys e h = absurd (omega (arith, e))

pub not_true : IsTrue false → ⊥
not_true h = absurd cc

pub same_at : {X : Type 0} (xs : List X) (k : ℕ) (d x y : X) → k < length xs → get_or xs k x ≡ x → get_or xs k d ≡ y → x ≡ y
same_at xs k d x y low is here = sym is ∙ get_or_default xs k x d low ∙ here

pub map_at : {X Y : Type 0} (f : X → Y) (xs : List X) (k : ℕ) (x : X) (d : Y) → k < length xs → get_or xs k x ≡ x → get_or (map f xs) k d ≡ f x
map_at f [] k x d low is = absurd (omega (arith, low))
map_at f (y ∷ xs) zero x d low is = ap f is
map_at f (y ∷ xs) (suc k) x d low is = map_at f xs k x d (omega (arith, low)) is

pub places_long : (at : ℕ) (lines : List KeptRow) → length (placed_rows at lines) ≡ length lines
places_long at [] = refl
places_long at (line ∷ lines) = ap suc (places_long (at + 1) lines)

pub place_at : (at : ℕ) (lines : List KeptRow) (k : ℕ) (line : KeptRow) → k < length lines → get_or lines k line ≡ line → get_or (placed_rows at lines) k [] ≡ placed_row (at + k) line
place_at at [] k line low is = absurd (omega (arith, low))
place_at at (x ∷ lines) zero line low is = let e : at ≡ at + 0 = omega arith in ap (placed_row at) is ∙ ap (λ (n : ℕ). placed_row n line) e
place_at at (x ∷ lines) (suc k) line low is = let e : (at + 1) + k ≡ at + suc k = omega arith in place_at (at + 1) lines k line (omega (arith, low)) is ∙ ap (λ (n : ℕ). placed_row n line) e

pub place_first : (lines : List KeptRow) (k : ℕ) (line : KeptRow) → k < length lines → get_or lines k line ≡ line → get_or (placed_rows 0 lines) k [] ≡ placed_row k line
place_first lines k line low is = let e : 0 + k ≡ k = omega arith in place_at 0 lines k line low is ∙ ap (λ (n : ℕ). placed_row n line) e

pub numbers_long : (m count : ℕ) → length (number_rows m count) ≡ count
numbers_long m zero = refl
numbers_long m (suc count) = ap suc (numbers_long (m + 1) count)

pub number_at : (m count k : ℕ) → k < count → get_or (number_rows m count) k [] ≡ Int (pos (m + k)) ∷ []
number_at m zero k low = absurd (omega (arith, low))
number_at m (suc count) zero low = let e : m ≡ m + 0 = omega arith in ap (λ (n : ℕ). Int (pos n) ∷ []) e
number_at m (suc count) (suc k) low = let e : (m + 1) + k ≡ m + suc k = omega arith in number_at (m + 1) count k (omega (arith, low)) ∙ ap (λ (n : ℕ). Int (pos n) ∷ []) e
