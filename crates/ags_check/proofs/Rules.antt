-- Several rules, one after the other.
use Rattle.std.proofs.Common.{List, [], ◌∷◌}
use Rattle.ags_rows.specs.declared.finding.Finding.{Finding}
use Rattle.ags_rows.specs.Collecting.{Adds, OneOf}
use Rattle.ags_rows.proofs.Lemmas.{one_more, three_rules}

pub four_rules : {P Q R S : Finding → Type 0} (a b c d e : List Finding) → Adds P a b → Adds Q b c → Adds R c d → Adds S d e → Adds (OneOf (P ∷ Q ∷ R ∷ S ∷ [])) a e
four_rules {P} {Q} {R} {S} a b c d e x y z v = one_more P (Q ∷ R ∷ S ∷ []) a b e x (three_rules b c d e y z v)

pub five_rules : {P Q R S T : Finding → Type 0} (a b c d e f : List Finding) → Adds P a b → Adds Q b c → Adds R c d → Adds S d e → Adds T e f
    → Adds (OneOf (P ∷ Q ∷ R ∷ S ∷ T ∷ [])) a f
five_rules {P} {Q} {R} {S} {T} a b c d e f x y z v w = one_more P (Q ∷ R ∷ S ∷ T ∷ []) a b f x (four_rules b c d e f y z v w)

pub six_rules : {P Q R S T U : Finding → Type 0} (a b c d e f g : List Finding) → Adds P a b → Adds Q b c → Adds R c d → Adds S d e → Adds T e f → Adds U f g
    → Adds (OneOf (P ∷ Q ∷ R ∷ S ∷ T ∷ U ∷ [])) a g
six_rules {P} {Q} {R} {S} {T} {U} a b c d e f g x y z v w u = one_more P (Q ∷ R ∷ S ∷ T ∷ U ∷ []) a b g x (five_rules b c d e f g y z v w u)
