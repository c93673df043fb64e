-- A place of a row that has an entry.
use Rattle.std.proofs.Common.{◌≡◌, ℕ, ◌<◌, List, Some}
use Rattle.std.specs.List.{slice_get}
use Rattle.reg_policy.specs.declared.rule.WantedEntry.{WantedEntry}

-- no place below n has the entry
abbrev pub NoEntryBelow : WantedEntry → List (List ℕ) → List (List ℕ) → ℕ → Type 0
NoEntryBelow e hs cs n = (k : ℕ) → k < n → slice_get hs k ≡ Some e.heading → slice_get cs k ≡ Some e.value → ⊥
