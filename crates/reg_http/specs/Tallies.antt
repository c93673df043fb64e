-- What a clause reads of a `Tally`.
use Rattle.std.specs.Prelude.{◌≡◌, ℕ, ◌+◌, ◌-◌, ◌^◌, min, Bool, true, false, ◌&&◌, ◌==◌, not, List, length, Result, Ok}
use Rattle.std.specs.Prelude.{Err}
use Rattle.reg_http.specs.declared.tally.Tally.{Tally}

-- what the tally wraps
abbrev pub tally_inner : {T : Type 0} → Tally T → T
tally_inner t = t.inner

-- the calls that it has made of what it wraps
abbrev pub calls_of : {T : Type 0} → Tally T → ℕ
calls_of t = t.calls

-- whether one of them has failed
abbrev pub tally_has_failed : {T : Type 0} → Tally T → Bool
tally_has_failed t = t.failed

-- no call was made, and none has failed
pub record IsFresh {T : Type 0} (t : Tally T) : Type 0 where
  pub no_call : calls_of t ≡ 0
  pub no_fault : tally_has_failed t ≡ false

-- one call more; the count stays at the greatest value of 64 bits
abbrev pub one_call_more : ℕ → ℕ
one_call_more n = min (n + 1) (2 ^ 64 - 1)

-- a write failed: it answered a fault, or took no byte of some
abbrev pub is_refused : {E : Type 0} → Result ℕ E → List ℕ → Bool
is_refused (Ok n) bytes = (n == 0) && not (length bytes == 0)
is_refused (Err e) bytes = true
