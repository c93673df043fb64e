-- A store in memory, by what it holds.
use Rattle.std.specs.Prelude.{ℕ, List, map}
use Rattle.ags_dict.specs.Entries.{Entries}
use Rattle.reg_store.specs.declared.plain.PlainKeep.{PlainKeep}
use Rattle.reg_store.specs.Keep.{deposit_of}
use Rattle.reg_store.specs.Deposit.{Deposit}

-- The deposits, in the order in which they were added.
abbrev pub deposits_of : PlainKeep → List Deposit
deposits_of keep = map deposit_of keep.kept.items

-- The entries of the dictionary that they were checked under.
abbrev pub dictionary_of : PlainKeep → Entries
dictionary_of keep = keep.dictionary

-- How many deposits it may hold.
abbrev pub limit_of : PlainKeep → ℕ
limit_of keep = keep.limit
