-- What is known of the deposits without the tables, and that it agrees with the list of deposits.
use Rattle.std.specs.Prelude.{◌≡◌, ◌<◌, ◌+◌, ℕ, Bool, List, [], ◌∷◌, ◌++◌, length, IsSome, Some, slice_get}
use Rattle.std.specs.Prelude.{vec_len, vec_capacity}
use Rattle.ags_dict.specs.Entries.{Entries}
use Rattle.reg_store.specs.declared.keep.KeptHead.{KeptHead}
use Rattle.reg_store.specs.Sent.{Sent}
use Rattle.reg_store.specs.Deposit.{Deposit, sents}
use Rattle.reg_tables.specs.declared.memory.Coming.{Coming}
use Rattle.reg_tables.specs.declared.memory.Known.{Known}
use Rattle.reg_tables.specs.declared.memory.Memory.{Memory}
use Rattle.sqlite.specs.Effect.{Database}
use Rattle.reg_tables.specs.Register.{IsRegister, deposits_in}
use Rattle.reg_tables.specs.Private.Digests.{AreBelow, AreDigested, found_at, numbers_under, own_digest}
use Rattle.reg_tables.specs.Private.Heads.{KnowsFile, head_of}

-- the head with this mark
abbrev pub with_mark : KeptHead → Bool → KeptHead
with_mark head mark = record { firm = head.firm; project = head.project; embargo = head.embargo; withdrawn = mark }

-- This is known of the deposit: its head with its mark, and what is known of its file.
pub record IsKnown (dictionary : Entries) (d : Deposit) (one : Known) : Type 0 where
  pub head : one.head ≡ with_mark (head_of d.sent) d.withdrawn
  pub file : KnowsFile dictionary d.sent one.file

-- Of each deposit this is known, in the order of the list.
pub record AreKnown (dictionary : Entries) (list : List Deposit) (known : List Known) : Type 0 where
  pub long : length known ≡ length list
  pub each : (k : ℕ) (d : Deposit) (one : Known) → slice_get list k ≡ Some d → slice_get known k ≡ Some one
      → IsKnown dictionary d one

-- What is known agrees with the list: of each deposit, and of each digest.
pub record Agrees (memory : Memory) (dictionary : Entries) (list : List Deposit) : Type 0 where
  pub known : AreKnown dictionary list memory.known.items
  pub digests : AreDigested memory.digests (sents list)
  pub below : AreBelow memory.digests (length list + 1)

-- The tables are a register of this dictionary and of a list that is as long as what is known, which agrees with it.
pub record Recalls (db : Database) (dictionary : Entries) (memory : Memory) : Type 0 where
  pub register : ∥ ((list : List Deposit) × IsRegister db dictionary list
      × (length list ≡ length memory.known.items)) ∥₁
  pub agrees : Agrees memory dictionary (deposits_in db.trees)

-- There is room for one deposit more.
pub record HasRoom (memory : Memory) (coming : Coming) : Type 0 where
  pub known : vec_len memory.known < vec_capacity memory.known
  pub digest : IsSome (found_at memory.digests coming.digest)

-- This deposit is to come next.
pub record IsComing (memory : Memory) (d : Sent) (coming : Coming) : Type 0 where
  pub head : coming.known.head ≡ head_of d
  pub digest : coming.digest ≡ own_digest d
  pub numbers : coming.numbers.items
      ≡ numbers_under memory.digests (own_digest d) ++ (length memory.known.items + 1) ∷ []
