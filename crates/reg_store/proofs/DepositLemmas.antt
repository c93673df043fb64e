-- Deposits, what was sent of them and whether they are withdrawn, place by place.
use Rattle.std.proofs.Common.{◌≡◌, ℕ, zero, suc, ◌-◌, ◌<◌, List, [], ◌∷◌, Bool, true, length, Option, Some, None, slice_get, refl, sym, ap, ◌∙◌, arith}
use Rattle.std.specs.Prelude.{option_map}
use Rattle.std.proofs.lemmas.List.{length-map}
use Rattle.std.proofs.lemmas.Option.{slice_get-map}
use Rattle.reg_store.specs.Sent.{Sent}
use Rattle.reg_store.specs.Deposit.{Deposit, sents, with_withdrawn}

-- ---- what was sent

pub length_sents : (list : List Deposit) → length (sents list) ≡ length list
length_sents list = length-map list (λ d. d.sent)

-- a withdrawal leaves what was sent
pub sents_with_withdrawn : (n : ℕ) (list : List Deposit) → sents (with_withdrawn n list) ≡ sents list
sents_with_withdrawn n [] = refl
sents_with_withdrawn zero (d ∷ more) = refl
sents_with_withdrawn (suc zero) (d ∷ more) = refl
sents_with_withdrawn (suc (suc n)) (d ∷ more) = ap (λ (rest : List Sent). d.sent ∷ rest) (sents_with_withdrawn (suc n) more)

-- what was sent of a deposit is at its place
pub sent_at : (list : List Deposit) (k : ℕ) (d : Deposit) → slice_get list k ≡ Some d → slice_get (sents list) k ≡ Some d.sent
sent_at list k d at = slice_get-map (λ (x : Deposit). x.sent) list k ∙ ap (option_map (λ (x : Deposit). x.sent)) at

some_sent : (o : Option Deposit) (sent : Sent) → option_map (λ (x : Deposit). x.sent) o ≡ Some sent → (d : Deposit) × (o ≡ Some d) × (d.sent ≡ sent)
some_sent None sent h = absurd cc
some_sent (Some d) sent h = (d, refl, cc)

-- what was sent at a place is that of the deposit there
pub deposit_at : (list : List Deposit) (k : ℕ) (sent : Sent) → slice_get (sents list) k ≡ Some sent → (d : Deposit) × (slice_get list k ≡ Some d) × (d.sent ≡ sent)
deposit_at list k sent at = some_sent (slice_get list k) sent (sym (slice_get-map (λ (x : Deposit). x.sent) list k) ∙ at)

-- ---- withdrawals

again_place : (list : List Deposit) (k : ℕ) (d : Deposit) → slice_get list k ≡ Some d → d.withdrawn ≡ true → with_withdrawn (suc k) list ≡ list
again_place [] k d at h = refl
again_place (x ∷ more) zero d at h =
    let same : x ≡ d = cc in
    let make : Bool → List Deposit = λ b. record { sent = x.sent; withdrawn = b } ∷ more in
    ap make (sym (ap (λ (y : Deposit). y.withdrawn) same ∙ h))
again_place (x ∷ more) (suc k) d at h = ap (λ (rest : List Deposit). x ∷ rest) (again_place more k d at h)

-- a list whose deposit is withdrawn already is left as it is
pub withdrawn_again : (list : List Deposit) (n : ℕ) (d : Deposit) → 0 < n → slice_get list (n - 1) ≡ Some d → d.withdrawn ≡ true → with_withdrawn n list ≡ list
withdrawn_again list n d low at h =
    let number : suc (n - 1) ≡ n = omega (arith, low) in
    ap (λ (m : ℕ). with_withdrawn m list) (sym number) ∙ again_place list (n - 1) d at h
