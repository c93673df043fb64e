-- The digests of a register's deposits, which are in memory, and the deposits that are equal to one.
use Rattle.std.specs.Prelude.{◌≡◌, ℕ, ◌+◌, ◌<◌, Bool, true, false, eqb, if◌then◌else◌, List, [], ◌∷◌, ◌++◌, filter}
use Rattle.std.specs.Prelude.{Option, Some, slice_get}
use Rattle.std.specs.List.{list_any}
use Rattle.std.specs.Option.{option_map_or}
use Rattle.std.specs.Ordering.{nat_cmp}
use Rattle.std.specs.Str.{bytes_eq}
use Rattle.std.specs.Cmp.Lexicographic.{slice_cmp}
use Rattle.std.specs.BTreeMap.{get_by}
use Rattle.std.specs.declared.alloc.Global.{Global}
use Rattle.std.specs.declared.vec.Vec.{Vec}
use Rattle.sha2.specs.Sha256.{sha256}
use Rattle.sqlite.specs.Effect.{Database}
use Rattle.ags_text.specs.Bytes.{line_feed}
use Rattle.reg_tables.specs.declared.memory.digests.Digests.{Digests}
use Rattle.reg_store.specs.Sent.{Sent, is_repeat}
use Rattle.reg_tables.specs.Rows.{deposit_table, given_deposit, has_number}

-- The digest of a deposit: the SHA-256 of its firm, its project and its bytes, with a line feed after each of the two
-- names.
abbrev pub digest_of : List ℕ → List ℕ → List ℕ → List ℕ
digest_of firm project bytes = sha256 ((((firm ++ line_feed ∷ []) ++ project) ++ line_feed ∷ []) ++ bytes)

abbrev pub own_digest : Sent → List ℕ
own_digest d = digest_of d.firm d.project d.bytes

-- what is at a digest
abbrev pub found_at : Digests → List ℕ → Option (Vec ℕ Global)
found_at digests digest = get_by (slice_cmp nat_cmp digest) digests.held

-- the numbers that are under a digest
abbrev pub numbers_under : Digests → List ℕ → List ℕ
numbers_under digests digest = option_map_or (λ v. v.items) (found_at digests digest) []

-- the number is one of these
abbrev pub is_among : ℕ → List ℕ → Bool
is_among n numbers = list_any (eqb n) numbers

-- These numbers are under a digest, and each other digest has what it had.
abbrev pub PutsNumbers : Digests → Digests → List ℕ → List ℕ → Type 0
PutsNumbers old new digest numbers =
    (other : List ℕ) → numbers_under new other ≡ (if bytes_eq digest other then numbers else numbers_under old other)

-- One number more is under a digest, and each other digest has what it had.
abbrev pub AddsNumber : Digests → Digests → List ℕ → ℕ → Type 0
AddsNumber old new digest number = PutsNumbers old new digest (numbers_under old digest ++ number ∷ [])

-- Each deposit's number, from 1, is under its digest.
abbrev pub AreDigested : Digests → List Sent → Type 0
AreDigested digests list =
    (k : ℕ) (d : Sent) → slice_get list k ≡ Some d → is_among (k + 1) (numbers_under digests (own_digest d)) ≡ true

-- The numbers under a digest are from 1 on, below this one.
abbrev pub AreBelow : Digests → ℕ → Type 0
AreBelow digests n = (digest : List ℕ) (m : ℕ) → is_among m (numbers_under digests digest) ≡ true → (0 < m) × (m < n)

-- The deposit's row is the only one of the number.
abbrev pub IsRowOf : Database → ℕ → Sent → Type 0
IsRowOf db n d = filter (has_number n) (deposit_table db.trees) ≡ given_deposit n d ∷ []

-- Each deposit of a number below this one is under its digest.
abbrev pub HoldsDigests : Database → ℕ → Digests → Type 0
HoldsDigests db n digests =
    (m : ℕ) → 0 < m → m < n → (d : Sent) → IsRowOf db m d → is_among m (numbers_under digests (own_digest d)) ≡ true

-- The deposit of the number is equal.
abbrev pub HasEqual : Database → List ℕ → List ℕ → List ℕ → ℕ → Type 0
HasEqual db firm project bytes n = (d : Sent) × IsRowOf db n d × (is_repeat firm project bytes d ≡ true)

-- No deposit of these numbers is equal.
abbrev pub HasNoEqual : Database → List ℕ → List ℕ → List ℕ → List ℕ → Type 0
HasNoEqual db numbers firm project bytes =
    (n : ℕ) → is_among n numbers ≡ true → (d : Sent) → IsRowOf db n d → is_repeat firm project bytes d ≡ false

-- No deposit of these numbers is equal to this one.
abbrev pub IsNew : Database → List ℕ → Sent → Type 0
IsNew db numbers d = HasNoEqual db numbers d.firm d.project d.bytes

-- No deposit of a number below this one is equal.
abbrev pub IsFirst : Database → ℕ → Sent → Type 0
IsFirst db n d = (m : ℕ) → 0 < m → m < n → (e : Sent) → IsRowOf db m e → is_repeat d.firm d.project d.bytes e ≡ false
