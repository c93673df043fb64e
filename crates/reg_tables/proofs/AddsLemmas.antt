-- Changes, one after the other.
use Rattle.std.proofs.Common.{◌≡◌, ◌≢◌, ℕ, suc, ◌+◌, ◌<◌, ◌≤◌, drop, List, [], ◌∷◌, ◌++◌, map, length, take, get_or, append_assoc, append-nil, IsTrue, Result, Ok, Err, inl, inr, ◌⊎◌, refl, sym, ap, subst, subst₂, ◌∙◌, arith}
use Rattle.std.proofs.Math.Logic.{∥∥₁_elim}
use Rattle.std.proofs.Math.Seq.{take-add, take-suc}
use Rattle.std.proofs.Props.{props}
use Rattle.std.proofs.lemmas.Bool.{eqb-false}
use Rattle.std.proofs.lemmas.List.{map-append, length-take-le, take_all, take_more_set}
use Rattle.std.specs.List.{AllByRecursion, flat_map}
use Rattle.std.specs.List.Sorted.{IsPermutation}
use Rattle.std.proofs.lemmas.List.Sorted.{IsPermutation-trans, IsPermutation-append_left}
use Rattle.sqlite.specs.Order.{Row}
use Rattle.sqlite.specs.Table.{Table}
use Rattle.sqlite.specs.Tree.{Trees}
use Rattle.sqlite.specs.Effect.{Database}
use Rattle.std.proofs.Math.ListN.{set}
use Rattle.std.proofs.lemmas.Grind.{flat_map-append}
use Rattle.sqlite.specs.Values.{bound}
use Rattle.sqlite_value.specs.declared.value.ValueRef.{ValueRef}
use Rattle.sqlite.specs.declared.error.Error.{Error}
use Rattle.sqlite.specs.State.{State, HasCleanDisk, Survives, KeepsCommit, IsUnchanged, IsRolledBack, ExecutesInside}
use Rattle.sqlite.proofs.StateLemmas.{survives_then}
use Rattle.ags_dict.specs.Entries.{Entries}
use Rattle.reg_store.specs.declared.keep.KeptRow.{KeptRow}
use Rattle.reg_tables.specs.Tables.{register_schema}
use Rattle.reg_store.specs.Sent.{Sent}
use Rattle.reg_tables.specs.Rows.{columns_5, columns_3, given_deposit, joined, line_row, line_rows, step_row, step_rows, IsMore}
use Rattle.reg_tables.specs.Private.Inserts.{AddsTo, AddsDeposit, AddsLines, AddsSteps, AddsFile}
use Rattle.reg_tables.specs.Private.Commits.{Makes}
use Rattle.reg_tables.specs.Private.Inside.{Inside}
use Rattle.reg_tables.specs.Private.KeepLaws.{ChangesOf}
use Rattle.reg_tables.specs.Quiet.{IsUndone}
use Rattle.reg_tables.specs.Register.{KeepsRegister}

pub more_then : (old xs mid ys new : List Row) → IsMore old xs mid → IsMore mid ys new → IsMore old (xs ++ ys) new
more_then old xs mid ys new a b = subst (λ rows. IsPermutation rows new) (append_assoc old xs ys) (IsPermutation-trans _ _ _ (IsPermutation-append_left ys _ _ a) b)

-- trees that are as they were, by their tables
abbrev AsBefore : ℕ → Trees → Trees → List Table → Type 0
AsBefore tree old new = AllByRecursion (λ t. t.tree ≢ tree → new t.tree ≡ old t.tree)

still_as_before : (tree : ℕ) (a b c : Trees) (tables : List Table) → AsBefore tree a b tables → AsBefore tree b c tables → AsBefore tree a c tables
still_as_before tree a b c [] one two = tt
still_as_before tree a b c (t ∷ tables) one two = ((λ apart. two.0 apart ∙ one.0 apart), still_as_before tree a b c tables one.1 two.1)

pub adds_then : (tree : ℕ) (see : Row → Row) (xs ys : List Row) (a b c : State) → Inside (AddsTo tree see xs) a b → Inside (AddsTo tree see ys) b c → Inside (AddsTo tree see (xs ++ ys)) a c
adds_then tree see xs ys a b c one two = record {
  change = record {
    schema = two.change.schema;
    sound = two.change.sound;
    rows = more_then _ xs _ ys _ one.change.rows two.change.rows;
    others = still_as_before tree a.now.trees b.now.trees c.now.trees register_schema.tables one.change.others two.change.others;
  };
  goes_on = two.goes_on;
  is_open = two.is_open;
  committed = two.committed ∙ one.committed;
}

pub line_rows-append : (n at : ℕ) (rows more : List KeptRow) → line_rows n at (rows ++ more) ≡ line_rows n at rows ++ line_rows n (at + length rows) more
line_rows-append n at [] more = let e : at + 0 ≡ at = omega arith in rw e
line_rows-append n at (x ∷ rows) more =
    let e : (at + 1) + length rows ≡ at + suc (length rows) = omega arith in
    ap (λ all. line_row n at x ∷ all) (line_rows-append n (at + 1) rows more ∙ ap (λ k. line_rows n (at + 1) rows ++ line_rows n k more) e)

pub taken : {X : Type 0} (rows : List X) (row : X) (at : ℕ) → at < length rows → get_or rows at row ≡ row → take (at + 1) rows ≡ take at rows ++ row ∷ []
taken rows row at low is = let e : at + 1 ≡ suc at = omega arith in ap (λ k. take k rows) e ∙ take-suc rows at row low ∙ ap (λ r. take at rows ++ r ∷ []) is

-- more rows after those that were added, which are so many
pub lines_joined : (n from at : ℕ) (rows more : List KeptRow) (a b c : State) → length rows ≡ at → Inside (AddsLines (line_rows n from rows)) a b → Inside (AddsLines (line_rows n (from + at) more)) b c
    → Inside (AddsLines (line_rows n from (rows ++ more))) a c
lines_joined n from at rows more a b c len one two =
    let whole = line_rows-append n from rows more ∙ ap (λ k. line_rows n from rows ++ line_rows n (from + k) more) len in
    subst (λ all. Inside (AddsLines all) a c) (sym whole) (adds_then 4 columns_5 _ _ a b c one two)

-- one row more
pub lines_more : (n from at : ℕ) (rows : List KeptRow) (row : KeptRow) (a b c : State) → at < length rows → get_or rows at row ≡ row
    → Inside (AddsLines (line_rows n from (take at rows))) a b → Inside (AddsLines (line_row n (from + at) row ∷ [])) b c → Inside (AddsLines (line_rows n from (take (at + 1) rows))) a c
lines_more n from at rows row a b c low is one two =
    subst (λ all. Inside (AddsLines (line_rows n from all)) a c) (sym (taken rows row at low is))
    (lines_joined n from at (take at rows) (row ∷ []) a b c (length-take-le at rows (omega arith)) one two)

-- some rows more
pub lines_further : (n at k m : ℕ) (rows : List KeptRow) (a b c : State) → at ≤ length rows → m ≡ k
    → Inside (AddsLines (line_rows n 0 (take at rows))) a b → Inside (AddsLines (line_rows n at (take m (drop at rows)))) b c → Inside (AddsLines (line_rows n 0 (take (at + k) rows))) a c
lines_further n at k m rows a b c low same one two =
    let begun : 0 + at ≡ at = omega arith in
    let piece = take m (drop at rows) in
    let all = lines_joined n 0 at (take at rows) piece a b c (length-take-le at rows low) one (rw begun two) in
    subst (λ xs. Inside (AddsLines (line_rows n 0 xs)) a c) (sym (take-add at m rows) ∙ ap (λ l. take (at + l) rows) same) all

-- the rows that are left
pub lines_rest : (n at m : ℕ) (rows : List KeptRow) (a b c : State) → at ≤ length rows → length rows ≤ at + m
    → Inside (AddsLines (line_rows n 0 (take at rows))) a b → Inside (AddsLines (line_rows n at (take m (drop at rows)))) b c → Inside (AddsLines (line_rows n 0 rows)) a c
lines_rest n at m rows a b c low past one two =
    subst (λ xs. Inside (AddsLines (line_rows n 0 xs)) a c) (take_all (at + m) rows past) (lines_further n at m m rows a b c low refl one two)

pub steps_more : (n at : ℕ) (steps : List (ℕ × ℕ)) (step : ℕ × ℕ) (a b c : State) → at < length steps → get_or steps at step ≡ step
    → Inside (AddsSteps (step_rows n (take at steps))) a b → Inside (AddsSteps (step_row n step ∷ [])) b c → Inside (AddsSteps (step_rows n (take (at + 1) steps))) a c
steps_more n at steps step a b c low is one two =
    let whole = ap (step_rows n) (taken steps step at low is) ∙ map-append (step_row n) (take at steps) (step ∷ []) in
    subst (λ more. Inside (AddsSteps more) a c) (sym whole) (adds_then 6 columns_3 _ _ a b c one two)

-- some steps more
pub steps_further : (n at k m : ℕ) (steps : List (ℕ × ℕ)) (a b c : State) → m ≡ k
    → Inside (AddsSteps (step_rows n (take at steps))) a b → Inside (AddsSteps (step_rows n (take m (drop at steps)))) b c → Inside (AddsSteps (step_rows n (take (at + k) steps))) a c
steps_further n at k m steps a b c same one two =
    let whole = sym (map-append (step_row n) (take at steps) (take m (drop at steps))) ∙ ap (step_rows n) (sym (take-add at m steps) ∙ ap (λ l. take (at + l) steps) same) in
    subst (λ all. Inside (AddsSteps all) a c) whole (adds_then 6 columns_3 _ _ a b c one two)

-- the steps that are left
pub steps_rest : (n at m : ℕ) (steps : List (ℕ × ℕ)) (a b c : State) → length steps ≤ at + m
    → Inside (AddsSteps (step_rows n (take at steps))) a b → Inside (AddsSteps (step_rows n (take m (drop at steps)))) b c → Inside (AddsSteps (step_rows n steps)) a c
steps_rest n at m steps a b c past one two =
    subst (λ xs. Inside (AddsSteps (step_rows n xs)) a c) (take_all (at + m) steps past) (steps_further n at m m steps a b c refl one two)

-- the deposit, then its lines, then its steps
pub file_then : (n : ℕ) (d : Sent) (rows : List KeptRow) (graph : List (ℕ × ℕ)) (a b c e : State) → Inside (AddsDeposit n d) a b → Inside (AddsLines (line_rows n 0 rows)) b c → Inside (AddsSteps (step_rows n graph)) c e
    → Inside (Makes (AddsFile n d rows graph)) a e
file_then n d rows graph a b c e one two three =
    let meta : e.now.trees 0 ≡ a.now.trees 0 = three.change.others.0 (eqb-false 0 6 refl) ∙ two.change.others.0 (eqb-false 0 4 refl) ∙ one.change.others.0 (eqb-false 0 2 refl) in
    let deposits : e.now.trees 2 ≡ b.now.trees 2 = three.change.others.1.0 (eqb-false 2 6 refl) ∙ two.change.others.1.0 (eqb-false 2 4 refl) in
    let first : b.now.trees 4 ≡ a.now.trees 4 = one.change.others.1.1.0 (eqb-false 4 2 refl) in
    let last : e.now.trees 4 ≡ c.now.trees 4 = three.change.others.1.1.0 (eqb-false 4 6 refl) in
    let before : c.now.trees 6 ≡ a.now.trees 6 = two.change.others.1.1.1.0 (eqb-false 6 4 refl) ∙ one.change.others.1.1.1.0 (eqb-false 6 2 refl) in
    record {
      change = record {
        change = record {
          schema = three.change.schema;
          meta = meta;
          deposits = subst (λ (new : List Row). IsMore (map columns_5 (a.now.trees 2)) (given_deposit n d ∷ []) (map columns_5 new)) (sym deposits) one.change.rows;
          lines = subst₂ (λ (old new : List Row). IsMore (map columns_5 old) (line_rows n 0 rows) (map columns_5 new)) first (sym last) two.change.rows;
          steps = subst (λ (old : List Row). IsMore (map columns_3 old) (step_rows n graph) (map columns_3 (e.now.trees 6))) before three.change.rows;
          marks = three.change.others.1.1.1.1.0 (eqb-false 8 6 refl) ∙ two.change.others.1.1.1.1.0 (eqb-false 8 4 refl) ∙ one.change.others.1.1.1.1.0 (eqb-false 8 2 refl);
        };
        sound = three.change.sound;
      };
      goes_on = three.goes_on;
      is_open = three.is_open;
      committed = three.committed ∙ two.committed ∙ one.committed;
    }

-- ---- what a transaction leaves committed

pub kept_same : (s : State) → KeepsCommit s s
kept_same s = record { was_open = λ o. o; committed = λ o. refl }

pub kept_then : (a b c : State) → KeepsCommit a b → KeepsCommit b c → KeepsCommit a c
kept_then a b c one two = record { was_open = λ o. one.was_open (two.was_open o); committed = λ o. two.committed o ∙ one.committed (two.was_open o) }

pub kept_either : (a b : State) → IsUnchanged a b ⊎ IsRolledBack a b → KeepsCommit a b
kept_either a b (inl h) = record { was_open = λ o. h.0.was_open; committed = λ o. h.0.committed_is }
kept_either a b (inr back) = record { was_open = back.was_open; committed = λ o. (back.undone o).1 }

pub kept_by : (sql : List ℕ) (params : Row) (old new : State) (r : Result ℕ Error) → ExecutesInside 0 sql params old new r → KeepsCommit old new
kept_by sql params old new (Ok n) h = record { was_open = λ o. h.1.was_open; committed = λ o. h.1.committed_is }
kept_by sql params old new (Err e) (inl (h, how)) = kept_either old new how
kept_by sql params old new (Err e) (inr h) = kept_either old new (inl h.2)

pub undone_by : (old mid new : State) → KeepsCommit old mid → IsRolledBack mid new → IsTrue new.is_open → IsUndone old new
undone_by old mid new kept back o =
    let was = kept.committed (back.was_open o) in
    let it = back.undone o in (it.0 ∙ was, it.1 ∙ was, back.unmarked)

pub open_before : (old mid new : State) → KeepsCommit old mid → IsRolledBack mid new → IsTrue new.is_open → IsTrue old.is_open
open_before old mid new kept back o = kept.was_open (back.was_open o)

-- what a crash leaves of a change that is committed
pub change_left : (Change : Database → Database → Type 0) (old last new : State) → Survives old last (λ _. ⊥) → (HasCleanDisk last → Makes Change old.now last.now) → Survives last new (λ trees. trees ≡ last.now.trees)
    → Survives old new (ChangesOf Change old)
change_left Change old last new inside made commits =
    survives_then old last new _ _ (ChangesOf Change old) (λ _ db none. absurd none)
    (λ clean db is. (let put = made (omega (arith, commits.clean, clean)) in (last.now, put.change, put.sound, is))) inside commits

-- ---- the values of several rows

pub joined-append : (rows more : List Row) → joined (rows ++ more) ≡ joined rows ++ joined more
joined-append [] more = refl
joined-append (row ∷ rows) more = ap (λ all. row ++ all) (joined-append rows more) ∙ sym (append_assoc row (joined rows) (joined more))

-- the values of the next place, instead of those there
pub values_flat : (values : List (List ValueRef)) (i : ℕ) (next : List ValueRef) (row : Row) → i < length values → bound next ≡ row
    → bound (flat_map (λ v. v) (take (i + 1) (set values i next))) ≡ bound (flat_map (λ v. v) (take i values)) ++ row
values_flat values i next row low is =
    ap (λ (all : List (List ValueRef)). bound (flat_map (λ v. v) all)) (take_more_set values i next low) ∙ ap bound (flat_map-append (λ (v : List ValueRef). v) (take i values) (next ∷ []))
    ∙ map-append _ (flat_map (λ v. v) (take i values)) (next ++ []) ∙ ap (λ last. bound (flat_map (λ v. v) (take i values)) ++ bound last) (append-nil next) ∙ ap (λ last. bound (flat_map (λ v. v) (take i values)) ++ last) is

-- the values of one row more
pub values_more : (n from at : ℕ) (rows : List KeptRow) (row : KeptRow) (old new : Row) → at < length rows → get_or rows at row ≡ row → old ≡ joined (line_rows n from (take at rows)) → new ≡ old ++ line_row n (from + at) row
    → new ≡ joined (line_rows n from (take (at + 1) rows))
values_more n from at rows row old new low is before grown =
    let len = length-take-le at rows (omega arith) in
    let whole = ap (line_rows n from) (taken rows row at low is) ∙ line_rows-append n from (take at rows) (row ∷ []) ∙ ap (λ k. line_rows n from (take at rows) ++ line_rows n (from + k) (row ∷ [])) len in
    grown ∙ ap (λ xs. xs ++ line_row n (from + at) row) before
    ∙ sym (ap joined whole ∙ joined-append (line_rows n from (take at rows)) (line_row n (from + at) row ∷ []) ∙ ap (λ xs. joined (line_rows n from (take at rows)) ++ xs) (append-nil (line_row n (from + at) row)))

-- the values of one step more
pub step_values_more : (n at : ℕ) (steps : List (ℕ × ℕ)) (step : ℕ × ℕ) (old new : Row) → at < length steps → get_or steps at step ≡ step → old ≡ joined (step_rows n (take at steps)) → new ≡ old ++ step_row n step
    → new ≡ joined (step_rows n (take (at + 1) steps))
step_values_more n at steps step old new low is before grown =
    let whole = ap (step_rows n) (taken steps step at low is) ∙ map-append (step_row n) (take at steps) (step ∷ []) in
    grown ∙ ap (λ xs. xs ++ step_row n step) before
    ∙ sym (ap joined whole ∙ joined-append (step_rows n (take at steps)) (step_row n step ∷ []) ∙ ap (λ xs. joined (step_rows n (take at steps)) ++ xs) (append-nil (step_row n step)))

-- ---- the store is open

pub opened_at : {s : State} {dictionary : Entries} {count : ℕ} → ∥ KeepsRegister s dictionary count ∥₁ → IsTrue s.is_open
opened_at {s} {dictionary} {count} kept = ∥∥₁_elim kept (Prim.hlevel props) (λ (k : KeepsRegister s dictionary count). k.is_open)
