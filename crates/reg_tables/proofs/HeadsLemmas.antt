-- What is known of a register's deposits, as it is read and grows.
use Rattle.std.proofs.Common.{◌≡◌, ◌⊎◌, inl, inr, ℕ, zero, suc, ◌+◌, List, [], ◌∷◌, ◌++◌, length, Some, slice_get, refl, sym, ap, subst, ◌∙◌, arith}
use Rattle.std.proofs.Math.Logic.{∥∥₁_elim}
use Rattle.std.proofs.Props.{props}
use Rattle.std.specs.List.Sorted.{IsPermutation}
use Rattle.sqlite.specs.Effect.{Database}
use Rattle.ags_dict.specs.Entries.{Entries}
use Rattle.reg_store.specs.Sent.{Sent}
use Rattle.reg_tables.specs.declared.memory.Known.{Known}
use Rattle.reg_tables.specs.Rows.{deposit_table}
use Rattle.reg_tables.specs.Register.{deposit_rows}
use Rattle.reg_tables.specs.Private.Digests.{IsRowOf}
use Rattle.reg_tables.specs.Private.Heads.{AreNew, HoldsKnown, IsNewOf}
use Rattle.reg_tables.proofs.ShowsLaws.{row_of_number}

-- what is in a list after a push was in it, or is what was pushed
in_pushed : {X : Type 0} (xs : List X) (y : X) (k : ℕ) (x : X) → slice_get (xs ++ y ∷ []) k ≡ Some x → (slice_get xs k ≡ Some x) ⊎ ((k ≡ length xs) × (x ≡ y))
in_pushed [] y zero x at = inr (refl, cc)
in_pushed [] y (suc k) x at = absurd cc
in_pushed (z ∷ xs) y zero x at = inl at
in_pushed (z ∷ xs) y (suc k) x at = elim (in_pushed xs y k x at) [
  | inl there ↦ inl there
  | inr last ↦ inr (ap suc last.0, last.1)
]

-- what is known of the first deposits, and of the next
pub known_read : (db : Database) (dictionary : Entries) (known : List Known) (one : Known) (at : ℕ) → length known ≡ at → HoldsKnown db dictionary known → ((d : Sent) → IsRowOf db (at + 1) d → IsNewOf dictionary d one) → HoldsKnown db dictionary (known ++ one ∷ [])
known_read db dictionary known one at long held is k x here d row = elim (in_pushed known one k x here) [
  | inl there ↦ held k x there d row
  | inr last ↦ subst (IsNewOf dictionary d) (sym last.1) (is d (subst (λ (m : ℕ). IsRowOf db (m + 1) d) (last.0 ∙ long) row))
]

-- what is known of the deposits in the tables is so of the list that they hold
pub new_held : (db : Database) (dictionary : Entries) (known : List Known) (list : List Sent) → ∥ IsPermutation (deposit_rows 1 list) (deposit_table db.trees) ∥₁ → HoldsKnown db dictionary known → AreNew dictionary known list
new_held db dictionary known list there held k d one at here = held k one here d row
  where
    row : IsRowOf db (k + 1) d
    row = ∥∥₁_elim there (Prim.hlevel props) (λ (are : IsPermutation (deposit_rows 1 list) (deposit_table db.trees)).
        row_of_number (k + 1) list (deposit_table db.trees) d (omega arith) are (ap (slice_get list) (omega arith) ∙ at))
