-- What the queries of a register find, and what they leave.
use Rattle.std.specs.Prelude.{◌≡◌, ℕ, Bool, true, false, List, map, filter, length, Option, None, is_some, IfSome}
use Rattle.std.specs.Prelude.{Result, Ok, IfOk, OnOk}
use Rattle.std.specs.declared.alloc.Global.{Global}
use Rattle.std.specs.declared.vec.Vec.{Vec}
use Rattle.std.specs.List.Sorted.{IsPermutation}
use Rattle.sqlite.specs.Order.{Row}
use Rattle.sqlite.specs.Tree.{IsAscending}
use Rattle.sqlite.specs.Effect.{Database}
use Rattle.sqlite.specs.Listing.{understood}
use Rattle.sqlite.specs.State.{State, HasCleanDisk, Shown}
use Rattle.sqlite.proofs.Callers.{IsPlain}
use Rattle.ags_links.specs.Steps.{IsBefore}
use Rattle.reg_store.specs.Sent.{Sent, is_repeat}
use Rattle.reg_tables.specs.declared.schema.format.Format.TheVariants.{Second}
use Rattle.reg_tables.specs.Rows.{columns_3, deposit_table, has_number}
use Rattle.reg_tables.specs.Register.{deposit_rows, mark_rows, mark_table, meta_columns}
use Rattle.reg_tables.specs.Quiet.{FindsThat, IsTheSame}
use Rattle.reg_tables.specs.Private.Digests.{HasEqual, HasNoEqual, IsRowOf}
use Rattle.reg_tables.specs.Private.NumberRows.{number_rows}
use Rattle.reg_tables.specs.Private.Methods.{HoldsSteps}
use Rattle.reg_tables.specs.Whole.{Tests}

-- On a clean disk, a query of the text only shows rows: it is a statement that has no RETURNING and does not read the
-- time.
abbrev pub OnlyShows : List ℕ → State → Type 0
OnlyShows sql s = HasCleanDisk s → IsPlain (understood s.now.schema sql)

-- On a clean disk, the rows that are found are those that the query shows.
abbrev pub FindsShown : {E : Type 0} → Result (Vec Row Global) E → List ℕ → Row → State → State → Type 0
FindsShown result sql params old new = HasCleanDisk new → IfOk result (λ rows. Shown sql params old new rows.items)

-- On a clean disk, if the call was no error, the query shows rows of which this holds.
abbrev pub TakesShown : {A E : Type 0} → Result A E → List ℕ → Row → (List Row → Type 0) → State → State → Type 0
TakesShown result sql params Holds old new =
    HasCleanDisk new → OnOk result ((rows : List Row) × Shown sql params old new rows × Holds rows)

-- On a clean disk, if neither the query nor a row was an error, the query shows rows of which this holds.
abbrev pub TakesEachShown : {A E F : Type 0} → Result (Result A F) E → List ℕ → Row → (List Row → Type 0) → State
    → State → Type 0
TakesEachShown result sql params Holds old new =
    HasCleanDisk new
    → IfOk result (λ taken. OnOk taken ((rows : List Row) × Shown sql params old new rows × Holds rows))

-- On a clean disk, what is found are these rows of the tables before the call, in whatever order.
abbrev pub FindsAll : {A E : Type 0} → Result (Vec A Global) E → (Database → List A) → State → State → Type 0
FindsAll result rows old new = FindsThat result (λ db found. IsPermutation found.items (rows db)) old new

-- On a clean disk, what P says of the rising steps that the table `steps` held under the number, and of what is found.
abbrev pub OfSteps : {A E : Type 0} → Result A E → ℕ → (List (ℕ × ℕ) → A → Type 0) → State → State → Type 0
OfSteps result n P old new = FindsThat result (λ db found. (steps : List (ℕ × ℕ)) → IsAscending IsBefore steps
    → HoldsSteps db n steps → P steps found) old new

-- On a clean disk, the answer is whether this fact holds of the tables before the call.
abbrev pub FindsOut : {E : Type 0} → Result Bool E → (Database → Type 0) → State → State → Type 0
FindsOut result Fact old new = FindsThat result (λ db is. Tests is (Fact db)) old new

-- On a clean disk, one is found if this fact holds of the tables before the call, and else none.
abbrev pub FindsOneIf : {A E : Type 0} → Result (Option A) E → (Database → Type 0) → State → State → Type 0
FindsOneIf result Fact old new = FindsThat result (λ db found. Tests (is_some found) (Fact db)) old new

-- On a clean disk, where the answer is yes, what P says of the tables before the call.
abbrev pub OnYes : {E : Type 0} → Result Bool E → (Database → Type 0) → State → State → Type 0
OnYes result P old new = HasCleanDisk new → result ≡ Ok true → P old.now

-- the rows of the table `deposits` that have the number
abbrev pub rows_numbered : ℕ → Database → List Row
rows_numbered n db = filter (has_number n) (deposit_table db.trees)

-- Where the table `deposits` holds a list of deposits, the rows are their numbers, from 1 on, rising.
abbrev pub AreNumbersFromOne : Database → List Row → Type 0
AreNumbersFromOne db rows = (list : List Sent) → IsPermutation (deposit_rows 1 list) (deposit_table db.trees)
    → rows ≡ number_rows 1 (length list)

-- The rows are those of the table `withdrawals`; where that holds the marks of a list of deposits, the rows are these,
-- rising.
abbrev pub AreMarksInOrder : Database → List Row → Type 0
AreMarksInOrder db rows = IsPermutation rows (mark_table Second db.trees)
    × ((marks : List Bool) → IsPermutation (mark_rows 1 marks) (mark_table Second db.trees) → rows ≡ mark_rows 1 marks)

-- Where the table `meta` holds the two rows of a format's number and a dictionary's bytes, the rows are these, ordered
-- by name.
abbrev pub AreMetaByName : Database → List Row → Type 0
AreMetaByName db rows = (number : ℕ) (text : List ℕ)
    → IsPermutation (meta_columns number text) (map columns_3 (db.trees 0)) → rows ≡ meta_columns number text

-- On a clean disk, one deposit alone has the number, and the answer is whether it is equal.
abbrev pub FindsIfEqual : {E : Type 0} → Result Bool E → ℕ → List ℕ → List ℕ → List ℕ → State → State → Type 0
FindsIfEqual result n firm project bytes old new =
    FindsThat result (λ db is. (d : Sent) × IsRowOf db n d × (is ≡ is_repeat firm project bytes d)) old new

-- On a clean disk, the deposit of the number that is found, if one is, is equal.
abbrev pub FindsEqual : {E : Type 0} → Result (Option ℕ) E → List ℕ → List ℕ → List ℕ → State → State → Type 0
FindsEqual result firm project bytes old new =
    FindsThat result (λ db found. IfSome found (HasEqual db firm project bytes)) old new

-- On a clean disk, where none is found, no deposit of these numbers is equal.
abbrev pub FindsNoEqual : {E : Type 0} → Result (Option ℕ) E → List ℕ → List ℕ → List ℕ → List ℕ → State
    → State → Type 0
FindsNoEqual result numbers firm project bytes old new =
    HasCleanDisk new → result ≡ Ok None → HasNoEqual old.now numbers firm project bytes

-- On a clean disk, where it did not fail, the connection is open if it was, it shows what it showed, and what is
-- committed is what was.
abbrev pub StaysUnless : Bool → State → State → Type 0
StaysUnless failed old new = HasCleanDisk new → failed ≡ false → IsTheSame old new
