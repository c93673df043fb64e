use Rattle.std.proofs.Common.{◌≡◌, ◌+◌, ◌-◌, ◌<◌, length, false, true, sym, ap, ◌∙◌, arith, rules}
use Rattle.std.proofs.lemmas.Map.Text.{is_eq-slice_cmp}
use Rattle.std.specs.BTreeSet.{keys}
use Rattle.reg_policy.proofs.Tokens.{seen_more, seen_twice}
use Rattle.reg_policy.proofs.callers.are_unique.Goals as goal

pub loop-i-preserved : goal.loop-i-preserved
loop-i-preserved c =
    let i = c.loop-i.i in
    let xs = c.args.credentials.now in
    let within = c.loop-i.invariant.0 in
    let key : c.as_slice.result.now ≡ c.index-credentials-i.result.token = c.as_slice.ensures ∙ ap (λ l. l.token) (sym c.index-credentials-i.is) in
    let next : i - 1 + 1 ≡ i = omega (arith, c.loop-i-test.true) in
    let low : i - 1 < length xs = omega (arith, c.loop-i-test.true, within) in
    let new : c.in-Ok-true.field-0 ≡ true = search rules in
    let more = seen_more _ (λ k x. is_eq-slice_cmp k.now x.now) xs (i - 1) i c.index-credentials-i.result c.as_slice.result (keys c.loop-i.later) (keys c.insert.new.self)
    next low c.index-credentials-i.is key c.in-Ok-true.ensures.keys (sym c.in-Ok-true.ensures.added ∙ new) c.loop-i.invariant.1 c.loop-i.invariant.2 in
    (omega (arith, within), more.0, more.1)

pub returns-in-Ok-false-clause-unique : goal.returns-in-Ok-false-clause-unique
returns-in-Ok-false-clause-unique c =
    let i = c.loop-i.i in
    let xs = c.args.credentials.now in
    let within = c.loop-i.invariant.0 in
    let key : c.as_slice.result.now ≡ c.index-credentials-i.result.token = c.as_slice.ensures ∙ ap (λ l. l.token) (sym c.index-credentials-i.is) in
    let next : i - 1 + 1 ≡ i = omega (arith, c.loop-i-test.true) in
    let low : i - 1 < length xs = omega (arith, c.loop-i-test.true, within) in
    let old : c.in-Ok-false.field-0 ≡ false = search rules in
    sym (seen_twice _ (λ k x. is_eq-slice_cmp k.now x.now) xs (i - 1) i c.index-credentials-i.result c.as_slice.result (keys c.loop-i.later)
    next low c.index-credentials-i.is key (sym c.in-Ok-false.ensures.added ∙ old) c.loop-i.invariant.1)
