use Rattle.std.proofs.Common.{◌≡◌, ◌<◌, ◌∙◌, ℕ, List, Err, true, false, nat_le, refl, sym, arith}
use Rattle.std.proofs.lemmas.Bool.Decides.{nat_tests}
use Rattle.ags_rows.specs.declared.TheConstants.{LIMIT}
use Rattle.reg_policy.specs.Days.{number_in}
use Rattle.reg_request.specs.Numbers.{is_number}
use Rattle.reg_http.specs.Numbers.{length_by}
use Rattle.reg_http.specs.declared.error.Refusal.TheVariants.{TooLarge}
use Rattle.reg_http.proofs.request.body.length_of.Goals as goal

-- a length above the limit is refused
too_large : (value : List ℕ) (number : ℕ) → is_number 10 value ≡ true → number ≡ number_in value → LIMIT < number → Err TooLarge ≡ length_by value
too_large value number digits is more =
    let above : nat_le (number_in value) LIMIT ≡ false = grind (arith, nat_tests) in
    rw (digits, above) refl

pub returns-then-number-clause-value : goal.returns-then-number-clause-value
returns-then-number-clause-value c =
    too_large c.args.value.now _ (sym c.is_number.ensures ∙ c.if-not-is_number.false) c.number_from_digits-number.ensures.value c.if-number.true
