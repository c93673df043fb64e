-- Texts in which no byte is a mark: they are in a key as they are.
use Rattle.std.proofs.Common.{◌≡◌, ℕ, ◌<◌, suc, false, List, [], ◌∷◌, ◌++◌, All, cond, flat_map, refl, ap, ◌∙◌, arith, tests}
use Rattle.std.specs.Prelude.{nat_le}
use Rattle.ags_links.specs.KeyTexts.{byte_text}

no_mark : (b : ℕ) → 1 < b → nat_le b 1 ≡ false
no_mark b lt = grind (arith, tests)

pub plain_text : (text : List ℕ) → All (λ b. 1 < b) text → flat_map byte_text text ≡ text
plain_text [] h = refl
plain_text (b ∷ bs) h =
    ap (λ t. cond t (1 ∷ b ∷ []) (b ∷ []) ++ flat_map byte_text bs) (no_mark b (h 0 0 (omega arith)))
    ∙ ap (λ l. b ∷ l) (plain_text bs (λ i d lt. h (suc i) d (omega (arith, lt))))
