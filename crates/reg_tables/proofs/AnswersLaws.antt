-- What a query of the register answers.
use Rattle.std.proofs.Common.{◌≡◌, ℕ, List, [], ◌∷◌, ◌++◌, map, filter, Bool, true, false, if◌then◌else◌, refl, sym, ap}
use Rattle.std.proofs.Common.{subst, subst₂, ◌∙◌, Less}
use Rattle.std.specs.List.{list_all, flat_map}
use Rattle.std.specs.List.Sorted.{IsPermutation, IsSorted}
use Rattle.std.proofs.lemmas.Cmp.{on_total}
use Rattle.std.proofs.lemmas.List.Sorted.{IsPermutation-map, IsPermutation-sym, IsPermutation-trans}
use Rattle.sqlite.specs.declared.types.Value.TheVariants.{Null}
use Rattle.sqlite.specs.Order.{Row}
use Rattle.sqlite.specs.Term.{holds}
use Rattle.sqlite.specs.Query.{Query, IsAnswer, output, Output, output_cmp, inner, end}
use Rattle.sqlite.specs.Program.{overlay}
use Rattle.sqlite.specs.Tree.{IsAscending, Trees}
use Rattle.sqlite.specs.Effect.{Database, Answers as Asked}
use Rattle.sqlite.specs.State.{State, Shown}
use Rattle.sqlite.proofs.Callers.{reads_as}
use Rattle.sqlite_sql.proofs.QueryLemmas.{key_cmp_total}
use Rattle.sqlite_keyed.proofs.SortLemmas.{sorted_unique}
use Rattle.sqlite_trees.proofs.ListLemmas.{map-map}
use Rattle.reg_tables.proofs.MeaningLaws.{query, AsksIn}

-- the query, on one table
abbrev pub asked_of : ℕ → Query → Query
asked_of tree q = query (inner tree end) q.filter q.project q.order

-- a row passes the query's test
abbrev pub passes : Query → Row → Row → Bool
passes q params r = list_all (holds (params ∷ r ∷ [])) q.filter

-- what the query makes of a row: what it is sorted by, and what it shows
abbrev pub shown_of : ℕ → Query → Row → Row → Output
shown_of tree q params r = output (asked_of tree q) (params ∷ r ∷ [])

-- the rows that pass, as they are shown
abbrev selected : ℕ → Query → Row → List Row → List Output
selected tree q params rows = map (shown_of tree q params) (filter (passes q params) rows)

-- The rows that are shown are those that pass, in an order that the query allows.
pub record Selects (tree : ℕ) (q : Query) (params : Row) (trees : Trees) (rows : List Row) : Type 0 where
  pub ordered : List Output
  pub same : IsPermutation (selected tree q params (trees tree)) ordered
  pub sorted : IsSorted (output_cmp (asked_of tree q)) ordered
  pub shown : rows ≡ map (λ (o : Output). o.1) ordered

-- the row beside the query's parameters, if it passes
abbrev given : Query → Row → Row → List (List Row)
given q params r = if passes q params r then (params ∷ r ∷ []) ∷ [] else []

in_rows : (tree : ℕ) (q : Query) (params : Row) (rows : List Row)
    → map (output (asked_of tree q)) (flat_map (given q params) rows) ≡ selected tree q params rows
in_rows tree q params [] = refl
in_rows tree q params (r ∷ rows) = go (passes q params r) (in_rows tree q params rows)
  where
    go : (b : Bool) → map (output (asked_of tree q)) (flat_map (given q params) rows) ≡ selected tree q params rows
        → map (output (asked_of tree q)) ((if b then (params ∷ r ∷ []) ∷ [] else []) ++ flat_map (given q params) rows)
        ≡ map (shown_of tree q params) (if b then r ∷ filter (passes q params) rows else filter (passes q params) rows)
    go true h = ap (λ all. shown_of tree q params r ∷ all) h
    go false h = h

answered : (tree : ℕ) (q : Query) (db : Database) (params : Row) (rows : List Row) → overlay db.trees [] tree ≡ db.trees tree
    → Asked db (record { lets = []; body = asked_of tree q }) params rows → Selects tree q params db.trees rows
answered tree q db params rows plain got =
    let a : IsAnswer (asked_of tree q) (overlay db.trees []) params rows = got.answer Null in
    record {
      ordered = a.ordered;
      same = subst (λ kept. IsPermutation kept a.ordered) (a.distinct ∙ ap (map (output (asked_of tree q))) a.grouped
          ∙ in_rows tree q params (overlay db.trees [] tree) ∙ ap (selected tree q params) plain) a.same;
      sorted = a.sorted;
      shown = a.shown;
    }

pub answers : (text : List ℕ) (tree : ℕ) (q : Query) (names : List (List ℕ)) (old new : State) (params : Row) (rows : List Row)
    → AsksIn old.now.schema text (asked_of tree q) names → overlay old.now.trees [] tree ≡ old.now.trees tree
    → Shown text params old new rows → Selects tree q params old.now.trees rows
answers text tree q names old new params rows asks plain h = answered tree q old.now params rows plain
    (reads_as text params old new old.now.schema refl _ asks.asked asks.plain asks.alone rows h)

-- ---- what is shown, by the columns of the table's rows

-- where one test of an item is another of what is seen of it, and so with what is made of it
picked : {X Y Z : Type 0} (f : X → Z) (see : X → Y) (g : Y → Z) (t : X → Bool) (p : Y → Bool) → ((x : X) → t x ≡ p (see x))
    → ((x : X) → f x ≡ g (see x)) → (xs : List X) → map f (filter t xs) ≡ map g (filter p (map see xs))
picked f see g t p same shows [] = refl
picked f see g t p same shows (x ∷ xs) = rw (same x) (go (p (see x)) (picked f see g t p same shows xs))
  where
    go : (b : Bool) → map f (filter t xs) ≡ map g (filter p (map see xs)) → map f (if b then x ∷ filter t xs else filter t xs)
        ≡ map g (if b then see x ∷ filter p (map see xs) else filter p (map see xs))
    go true h = λ i. shows x i ∷ h i
    go false h = h

-- a test that all pass keeps all
pub all_pass : {X : Type 0} (xs : List X) → xs ≡ map (λ x. x) (filter (λ _. true) xs)
all_pass [] = refl
all_pass (x ∷ xs) = ap (λ all. x ∷ all) (all_pass xs)

module _ {tree : ℕ} {q : Query} {params : Row} {trees : Trees} {rows : List Row} (a : Selects tree q params trees rows) (see : Row → Row) where
  -- the rows that are shown are these parts of the table's rows that pass
  pub shows_rows : (part : Row → Row) (p : Row → Bool) → ((r : Row) → passes q params r ≡ p (see r))
      → ((r : Row) → (shown_of tree q params r).1 ≡ part (see r)) → IsPermutation rows (map part (filter p (map see (trees tree))))
  shows_rows part p same shows =
      let all = map-map (λ (o : Output). o.1) (shown_of tree q params) (filter (passes q params) (trees tree))
      ∙ picked (λ r. (shown_of tree q params r).1) see part (passes q params) p same shows (trees tree) in
      IsPermutation-sym _ _ (subst₂ IsPermutation all (sym a.shown) (IsPermutation-map (λ (o : Output). o.1) _ _ a.same))

  -- all rows are shown
  pub shows_all : ((r : Row) → passes q params r ≡ true) → ((r : Row) → (shown_of tree q params r).1 ≡ see r)
      → IsPermutation rows (map see (trees tree))
  shows_all same shows = subst (IsPermutation rows) (sym (all_pass (map see (trees tree)))) (shows_rows (λ c. c) (λ _. true) same shows)

  -- where the table holds rows that rise as the query sorts them, these are shown in their order
  pub reads_rows : (part : Row → Row) (entry : Row → Output) (p : Row → Bool) → ((r : Row) → passes q params r ≡ p (see r))
      → ((r : Row) → shown_of tree q params r ≡ entry (part (see r))) → (mine : List Row) → IsPermutation mine (map part (filter p (map see (trees tree))))
      → IsAscending (λ x y. output_cmp (asked_of tree q) x y ≡ Less) (map entry mine) → rows ≡ map (λ (o : Output). o.1) (map entry mine)
  reads_rows part entry p same shows mine are up =
      let seen = picked (shown_of tree q params) see (λ c. entry (part c)) (passes q params) p same shows (trees tree)
      ∙ sym (map-map entry part (filter p (map see (trees tree)))) in
      let its = IsPermutation-trans _ _ _ (subst (IsPermutation (map entry mine)) (sym seen) (IsPermutation-map entry _ _ are)) a.same in
      a.shown ∙ ap (map (λ (o : Output). o.1)) (sorted_unique (output_cmp (asked_of tree q))
      (on_total (λ (o : Output). o.0) (key_cmp_total (map (λ k. k.1) q.order) 0)) (map entry mine) a.ordered up its a.sorted)
