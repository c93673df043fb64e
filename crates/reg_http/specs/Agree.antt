-- A step of reading a request beside its definition.
use Rattle.std.specs.Prelude.{◌≡◌, Bool, true, false, Result, Ok, Err}
use Rattle.reg_http.specs.declared.error.Refusal.{Refusal}
use Rattle.reg_http.specs.declared.error.Refusal.TheVariants.{OutOfMemory}

-- the request is refused because an allocation failed
abbrev pub is_out_of_memory : Refusal → Bool
is_out_of_memory OutOfMemory = true
is_out_of_memory _ = false

-- one step and then another, unless the first refuses
abbrev pub and_then : {A B : Type 0} → Result A Refusal → (A → Result B Refusal) → Result B Refusal
and_then (Ok a) next = next a
and_then (Err r) next = Err r

-- what was read is right, seen as its definition has it, unless memory was refused
abbrev pub IsAsDefined : {A B : Type 0} → (A → B) → Result B Refusal → Result A Refusal → Type 0
IsAsDefined seen right (Ok a) = right ≡ Ok (seen a)
IsAsDefined seen right (Err r) = is_out_of_memory r ≡ false → right ≡ Err r
