-- What a register in memory keeps of its deposits.
use Rattle.std.specs.Prelude.{ℕ, ◌≤◌, List, All, length, map, slice_index_or}
use Rattle.std.proofs.Common.{arith}
use Rattle.std.proofs.lemmas.List.{length-map}
use Rattle.std.proofs.Math.Logic.{∥∥₁_elim}
use Rattle.std.proofs.Props.{props}
use Rattle.ags_dict.specs.Entries.{Entries}
use Rattle.reg_store.specs.declared.keep.Kept.{Kept}
use Rattle.reg_store.specs.Keep.{deposit_of}
use Rattle.reg_store.specs.Sent.{Sent}
use Rattle.reg_store.specs.Fit.{IsFit}

is_fit_prop : (dictionary : Entries) (d : Sent) → IsProp (IsFit dictionary d)
is_fit_prop dictionary d = Prim.hlevel props

-- Each deposit of the list is fit: without the truncation.
pub fit_of : (dictionary : Entries) (list : List Sent) → ∥ All (IsFit dictionary) list ∥₁ → All (IsFit dictionary) list
fit_of dictionary list h = λ k d low.
    let fact : IsFit dictionary (slice_index_or list k d) =
    ∥∥₁_elim h (is_fit_prop dictionary (slice_index_or list k d)) (λ all. all k d low) in fact

-- There are no more deposits than the limit.
pub few_of : (kept : List Kept) (limit : ℕ) → length kept ≤ limit → limit ≤ 999999
    → (length (map deposit_of kept) ≤ limit) × (limit ≤ 999999)
few_of kept limit within few = (omega (arith, within, length-map kept deposit_of), few)
