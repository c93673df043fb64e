use Rattle.std.proofs.Common.{◌≡◌, ◌∙◌, ℕ, List, Err, sym, true}
use Rattle.std.proofs.lemmas.Bool.{false≢true}
use Rattle.std.proofs.lemmas.Result.{err_from_is_err_and}
use Rattle.reg_policy.specs.Documents.{IsRefused}
use Rattle.reg_policy.specs.Rules.{IsRisingFrom, IsRule, ReadsPolicy, policy_error, rule_key, rule_keys}
use Rattle.reg_policy.specs.declared.error.ReadError.{ReadError}
use Rattle.reg_policy.specs.declared.error.ReadError.TheVariants.{Syntax, UnknownKey, BadValue, NoMemory}
use Rattle.reg_policy.proofs.policy.Policy.read.Goals as goal

-- a refusal of a document of rules is one of a policy
refused : (text : List ℕ) (e : ReadError) → IsRefused rule_key rule_keys IsRule text e → ReadsPolicy text (Err (policy_error e))
refused text Syntax h = h
refused text UnknownKey h = h
refused text BadValue h = h
refused text NoMemory h = h

pub returns-in_err-rules : goal.returns-in_err-rules
returns-in_err-rules c =
    let (error, same, is) = err_from_is_err_and c.from_residual.result c.from_residual.ensures.1 in
    record { reads = rw (same, is) (refused c.args.text.now c.in_err-rules.field-0.0 c.in_err-rules.ensures) }

pub returns-then-not-is_rising : goal.returns-then-not-is_rising
returns-then-not-is_rising c =
    let rising : IsRisingFrom 0 c.in_ok-rules.rules.items → c.is_rising.result ≡ true = rw c.deref.ensures.value at c.is_rising.ensures.1 in
    record { reads = (c.in_ok-rules.rules.items, c.in_ok-rules.ensures, λ h. false≢true (sym c.if-not-is_rising.true ∙ rising h)) }

pub returns : goal.returns
returns c =
    let rising : c.is_rising.result ≡ true → IsRisingFrom 0 c.in_ok-rules.rules.items = rw c.deref.ensures.value at c.is_rising.ensures.0 in
    record { reads = (c.in_ok-rules.ensures, rising c.if-not-is_rising.false) }
