-- What is known of each deposit as a register is examined.
use Rattle.std.specs.Prelude.{◌≡◌, ℕ, ◌+◌, Bool, true, false, List, [], ◌∷◌, ◌++◌, Some, slice_get, Result, Ok}
use Rattle.std.specs.declared.alloc.Global.{Global}
use Rattle.std.specs.declared.vec.Vec.{Vec}
use Rattle.sqlite.specs.Effect.{Database}
use Rattle.sqlite.specs.State.{State, HasCleanDisk}
use Rattle.ags_dict.specs.Entries.{Entries}
use Rattle.ags_check.specs.Findings.{CheckedFile}
use Rattle.reg_tables.specs.declared.open.head.DigestedHead.{DigestedHead}
use Rattle.reg_tables.specs.declared.memory.Known.{Known}
use Rattle.reg_tables.specs.declared.memory.digests.Digests.{Digests}
use Rattle.reg_tables.specs.declared.memory.file.KnownFile.{KnownFile}
use Rattle.reg_store.specs.declared.keep.HeadedRow.{HeadedRow}
use Rattle.reg_store.specs.declared.keep.KeptHead.{KeptHead}
use Rattle.reg_store.specs.Reading.{HasProjectRows, OfFile}
use Rattle.reg_store.specs.Sent.{Sent}
use Rattle.reg_tables.specs.Private.Digests.{AddsNumber, IsRowOf, own_digest}

-- the head of what was sent, as of a deposit without a mark
abbrev pub head_of : Sent → KeptHead
head_of d = record { firm = d.firm; project = d.project; embargo = d.embargo; withdrawn = false }

-- These are the file's row of PROJ and the rows that it reaches.
pub record HoldsProject (file : CheckedFile) (held : Vec HeadedRow Global) : Type 0 where
  pub rows : ∥ HasProjectRows held file ∥₁

-- This is known of the file: its number of DATA rows, its row of PROJ and the rows that it reaches.
pub record IsKnownOf (file : CheckedFile) (known : KnownFile) : Type 0 where
  pub rows : known.size.rows ≡ file.graph.rows
  pub project : HoldsProject file known.project

-- This is known of the deposit's file.
abbrev pub KnowsFile : Entries → Sent → KnownFile → Type 0
KnowsFile dictionary d known = OfFile dictionary d (λ file. IsKnownOf file known)

-- This is known of the deposit: its head, as of one without a mark, and what is known of its file.
pub record IsNewOf (dictionary : Entries) (d : Sent) (one : Known) : Type 0 where
  pub head : one.head ≡ head_of d
  pub file : KnowsFile dictionary d one.file

-- This is known of the deposits, in their order.
abbrev pub AreNew : Entries → List Known → List Sent → Type 0
AreNew dictionary known list = (k : ℕ) (d : Sent) (one : Known) → slice_get list k ≡ Some d
    → slice_get known k ≡ Some one → IsNewOf dictionary d one

-- This is known of the deposit, and the digest is its own.
abbrev pub IsDigestedFrom : Entries → Sent → DigestedHead → Type 0
IsDigestedFrom dictionary d one = IsNewOf dictionary d one.known × (one.digest ≡ own_digest d)

-- The same of the deposit whose row is the only one of the number.
abbrev pub IsDigestedAt : Database → Entries → ℕ → DigestedHead → Type 0
IsDigestedAt db dictionary n one = (d : Sent) → IsRowOf db n d → IsDigestedFrom dictionary d one

-- This is known of the deposits in the tables, from number 1 on.
abbrev pub HoldsKnown : Database → Entries → List Known → Type 0
HoldsKnown db dictionary known = (k : ℕ) (one : Known) → slice_get known k ≡ Some one
    → (d : Sent) → IsRowOf db (k + 1) d → IsNewOf dictionary d one

-- Where the answer is yes, what is known of one deposit more is after the rest, and the number under its digest; on a
-- clean disk both are of the number's deposit.
abbrev pub AddsKnown : {E : Type 0} → Result Bool E → Entries → ℕ → Vec Known Global → Vec Known Global → Digests
    → Digests → State → State → Type 0
AddsKnown result dictionary n known known' digests digests' old new =
    result ≡ Ok true
    → (one : DigestedHead) × (known'.items ≡ known.items ++ one.known ∷ []) × AddsNumber digests digests' one.digest n
    × (HasCleanDisk new → IsDigestedAt old.now dictionary n one)
