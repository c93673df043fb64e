-- Names in a list of names.
use Rattle.std.proofs.Common.{◌≡◌, ℕ, Bool, List, [], ◌∷◌, refl, sym, ap, ◌∙◌}
use Rattle.std.specs.Prelude.{◌||◌}
use Rattle.std.specs.List.{list_any}
use Rattle.std.specs.Str.{bytes_eq}
use Rattle.std.proofs.lemmas.Bool.Decides.{same_from_decides}
use Rattle.std.proofs.lemmas.Slice.Eq.{bytes_eq-Decides}

-- equality may be asked either way
bytes_other_way : (xs ys : List ℕ) → bytes_eq xs ys ≡ bytes_eq ys xs
bytes_other_way xs ys =
    let d = bytes_eq-Decides ys xs in
    same_from_decides (bytes_eq xs ys) (bytes_eq ys xs) (bytes_eq-Decides xs ys) (λ t. sym (d.0 t), λ e. d.1 (sym e))

pub any_other_way : (name : List ℕ) (names : List (List ℕ)) → list_any (λ n. bytes_eq n name) names ≡ list_any (bytes_eq name) names
any_other_way name [] = refl
any_other_way name (n ∷ names) =
    ap (λ (b : Bool). b || list_any (λ m. bytes_eq m name) names) (bytes_other_way n name)
    ∙ ap (λ (b : Bool). bytes_eq name n || b) (any_other_way name names)
