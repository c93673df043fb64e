use Rattle.std.proofs.Common.{◌≡◌, ◌∙◌, ◌∷◌, [], Bool, Err, List, ℕ, ap, arith, get_or, length, subst, sym}
use Rattle.std.specs.Prelude.{codes}
use Rattle.ags_rows.specs.Spelling.{Spells}
use Rattle.ags_rows.proofs.Lemmas.{same_fields}
use Rattle.reg_desk.proofs.Views.{seen_headed, with_ok, passed_on}
use Rattle.reg_desk.proofs.view.permits_headed.Goals as goal

pub returns-in_err-above-clause-broken : goal.returns-in_err-above-clause-broken
returns-in_err-above-clause-broken c = λ e found is.
    let store = passed_on c.from_residual.result c.in_err-above.field-0.0 c.from_residual.ensures.1 e in
    let all = codes "GROUP" ∷ found.group ∷ [] in
    c.in_err-above.ensures.broken (ap (λ e. Err e) store) all (subst (λ (t : List ℕ). Spells t all) (sym c.as_slice.ensures) is.above)

pub returns-in_err-headings-clause-broken : goal.returns-in_err-headings-clause-broken
returns-in_err-headings-clause-broken c = λ e found is.
    let store = passed_on c.from_residual-in_err-headings.result c.in_err-headings.field-0.0 c.from_residual-in_err-headings.ensures.1 e in
    let all = codes "HEADING" ∷ found.headings in
    c.in_err-headings.ensures.broken (ap (λ e. Err e) store) all (subst (λ (t : List ℕ). Spells t all) (sym c.as_slice-2.ensures) is.headings)

pub returns-in_err-fields-clause-broken : goal.returns-in_err-fields-clause-broken
returns-in_err-fields-clause-broken c = λ e found is.
    let store = passed_on c.from_residual-in_err-fields.result c.in_err-fields.field-0.0 c.from_residual-in_err-fields.ensures.1 e in
    let all = codes "DATA" ∷ found.fields in
    c.in_err-fields.ensures.broken (ap (λ e. Err e) store) all (subst (λ (t : List ℕ). Spells t all) (sym c.as_slice-3.ensures) is.fields)

pub returns-then-len-lt2-clause-broken : goal.returns-then-len-lt2-clause-broken
returns-then-len-lt2-clause-broken c = λ e found is.
    let read = subst (λ (t : List ℕ). Spells t c.in_ok-above.above.items) c.as_slice.ensures c.in_ok-above.ensures.read in
    let same = same_fields c.args.row.now.group c.in_ok-above.above.items (codes "GROUP" ∷ found.group ∷ []) read is.above in
    omega (arith, c.len.ensures, c.if-len-lt2.true, ap length same)

pub returns-clause-may : goal.returns-clause-may
returns-clause-may c =
    let row = c.args.row.now in
    let above = subst (λ (t : List ℕ). Spells t c.in_ok-above.above.items) c.as_slice.ensures c.in_ok-above.ensures.read in
    let headings = subst (λ (t : List ℕ). Spells t c.deref-2.result.now) c.as_slice-2.ensures (subst (Spells c.as_slice-2.result.now) (sym c.deref-2.ensures.value) c.in_ok-headings.ensures.read) in
    let fields = subst (λ (t : List ℕ). Spells t c.deref-3.result.now) c.as_slice-3.ensures (subst (Spells c.as_slice-3.result.now) (sym c.deref-3.ensures.value) c.in_ok-fields.ensures.read) in
    with_ok c.permits.result (λ (may : Bool) seen named.
    seen_headed c.args.look.now row c.as_slice-4.result.now c.deref-2.result.now c.deref-3.result.now may (subst (Spells row.group) (sym c.deref.ensures.value ∙ named) above) headings fields seen) c.permits.ensures.may c.permits.ensures.above

pub returns-clause-broken : goal.returns-clause-broken
returns-clause-broken c = λ e found is.
    let row = c.args.row.now in
    let above = subst (λ (t : List ℕ). Spells t c.in_ok-above.above.items) c.as_slice.ensures c.in_ok-above.ensures.read in
    let headings = subst (λ (t : List ℕ). Spells t c.in_ok-headings.headings.items) c.as_slice-2.ensures c.in_ok-headings.ensures.read in
    let fields = subst (λ (t : List ℕ). Spells t c.in_ok-fields.fields.items) c.as_slice-3.ensures c.in_ok-fields.ensures.read in
    let same = same_fields row.group c.in_ok-above.above.items (codes "GROUP" ∷ found.group ∷ []) above is.above in
    let name : c.as_slice-4.result.now ≡ found.group = c.as_slice-4.ensures ∙ c.index.ensures ∙ ap (λ (l : List (List ℕ)). get_or l 1 c.index.result.now) same in
    c.permits.ensures.broken e (c.deref.ensures.value ∙ same ∙ ap (λ (g : List ℕ). codes "GROUP" ∷ g ∷ []) (sym name)) found (record {
      group = sym name;
      headings = c.deref-2.ensures.value ∙ same_fields row.headings c.in_ok-headings.headings.items (codes "HEADING" ∷ found.headings) headings is.headings;
      fields = c.deref-3.ensures.value ∙ same_fields row.line c.in_ok-fields.fields.items (codes "DATA" ∷ found.fields) fields is.fields;
      width = is.width;
    })
