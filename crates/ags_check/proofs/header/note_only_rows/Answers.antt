use Rattle.std.proofs.Common.{List, [], ◌∷◌, codes, inl, inr}
use Rattle.ags_rows.specs.declared.code.Code.TheVariants.{Rule11a, Rule11b, Rule13, Rule14}
use Rattle.ags_rows.specs.declared.finding.Finding.{Finding}
use Rattle.ags_rows.specs.declared.rows.Group.{Group}
use Rattle.ags_rows.specs.Collecting.{OneOf}
use Rattle.ags_rows.proofs.Lemmas.{adds_same, one_more, one_rule}
use Rattle.ags_check.specs.HeaderSteps.{AtLongSign, AtFurtherRows, InOnlyRows}
use Rattle.std.proofs.lemmas.Result.{on_ok_weaker}
use Rattle.ags_check.proofs.header.note_only_rows.Goals as goal

-- rule by rule, each over all rows
abbrev by_rule : Group → List (Finding → Type 0)
by_rule group =
    AtLongSign Rule11a (codes "TRAN_DLIM") group
    ∷ AtLongSign Rule11b (codes "TRAN_RCON") group
    ∷ AtFurtherRows Rule13 (codes "PROJ") group
    ∷ AtFurtherRows Rule14 (codes "TRAN") group
    ∷ []

to_rows : (group : Group) (f : Finding) → OneOf (by_rule group) f → InOnlyRows group f
to_rows group f (inl h) = (h.0, h.1, h.2, inl h.3)
to_rows group f (inr (inl h)) = (h.0, h.1, h.2, inr (inl h.3))
to_rows group f (inr (inr (inl h))) = (h.0, h.1, h.2, inr (inr (inl h.3)))
to_rows group f (inr (inr (inr (inl h)))) = (h.0, h.1, h.2, inr (inr (inr (inl h.3))))
to_rows group f (inr (inr (inr (inr h)))) = absurd h

from_rows : (group : Group) (f : Finding) → InOnlyRows group f → OneOf (by_rule group) f
from_rows group f h = elim h.3 [
  | inl k ↦ inl (h.0, h.1, h.2, k)
  | inr (inl k) ↦ inr (inl (h.0, h.1, h.2, k))
  | inr (inr (inl k)) ↦ inr (inr (inl (h.0, h.1, h.2, k)))
  | inr (inr (inr (inl k))) ↦ inr (inr (inr (inl (h.0, h.1, h.2, k))))
  | inr (inr (inr (inr k))) ↦ absurd k
]

pub returns : goal.returns
returns c =
    let group = c.args.group.now in
    let a = c.args.findings.now in
    let b = c.note_long_sign.new.findings in
    let d = c.note_long_sign-2.new.findings in
    let e = c.note_further_rows.new.findings in
    let f = c.note_further_rows-2.new.findings in
    let concatenator = AtLongSign Rule11b (codes "TRAN_RCON") group in
    let project = AtFurtherRows Rule13 (codes "PROJ") group in
    let transmission = AtFurtherRows Rule14 (codes "TRAN") group in
    on_ok_weaker c.note_further_rows-2.result (λ last.
    adds_same a f (to_rows group) (from_rows group)
    (one_more _ (concatenator ∷ project ∷ transmission ∷ []) a b f c.in_ok-note_long_sign.ensures
    (one_more concatenator (project ∷ transmission ∷ []) b d f c.in_ok-note_long_sign-2.ensures
    (one_more project (transmission ∷ []) d e f c.in_ok-note_further_rows.ensures (one_rule e f last))))) c.note_further_rows-2.ensures
