-- The foreign keys leave no rows of a deposit that is missing.
use Rattle.std.proofs.Common.{◌≡◌, ◌⊎◌, inl, inr, ℕ, pos, List, [], ◌∷◌, map, filter, drop, Bool, true, false, ◌&&◌}
use Rattle.std.proofs.Common.{◌||◌, if◌then◌else◌, refl, sym, ap, ◌∙◌}
use Rattle.std.specs.List.{AllByRecursion, list_any}
use Rattle.std.specs.Ordering.{is_eq}
use Rattle.sqlite.specs.declared.types.Value.{Value}
use Rattle.sqlite.specs.declared.types.Value.TheVariants.{Null, Int}
use Rattle.sqlite.specs.Order.{Row, column, value_cmp}
use Rattle.sqlite.specs.Tree.{Trees}
use Rattle.sqlite.specs.Collation.TheVariants.{Binary}
use Rattle.sqlite.specs.Ops.{is_null, binary}
use Rattle.sqlite_catalog.specs.Listing.{IsSound}
use Rattle.sqlite_schema.specs.declared.schema.Constraint.TheVariants.{ForeignKey}
use Rattle.sqlite_schema.specs.Rules.{equal}
use Rattle.sqlite_schema.specs.Names.{same_name}
use Rattle.sqlite_value.specs.Keys.{first_key, joined}
use Rattle.sqlite_value.proofs.OrderLemmas.{value_cmp_total}
use Rattle.reg_tables.specs.declared.schema.format.Format.{Format}
use Rattle.reg_tables.specs.declared.schema.format.Format.TheVariants.{First, Second}
use Rattle.reg_tables.proofs.ReadsLaws.{equal_order, truth_is}
use Rattle.reg_tables.specs.Rows.{columns_5, deposit_table, has_number, rows_under}
use Rattle.reg_tables.specs.Tables.{schema_of}

-- the row has a row of deposits with its number
abbrev HasDeposit : Trees → Row → Type 0
HasDeposit trees r = (((is_null (column r 1) || false) || list_any (λ p. equal Binary (column p 1) (column r 1) && true) (trees 2)) && true) ≡ true

not_null : (v : Value) (n : ℕ) → is_eq (value_cmp v (Int (pos n))) ≡ true → is_null v ≡ false
unfolding value_cmp
not_null Null n h = absurd cc
not_null v n h = refl

eq_both : (u v : Value) → is_null u ≡ false → is_null v ≡ false → equal Binary u v ≡ is_eq (value_cmp u v)
unfolding binary
eq_both Null v p q = absurd cc
eq_both u Null p q = absurd cc
eq_both u v p q = truth_is _

null_left : (v : Value) → equal Binary Null v ≡ false
unfolding binary
null_left Null = refl
null_left v = refl

is_null_or : (u : Value) → (u ≡ Null) ⊎ (is_null u ≡ false)
is_null_or Null = inl refl
is_null_or u = inr refl

-- a value that does not equal n is not equal to one that does
apart_from : (u v : Value) (n : ℕ) → is_eq (value_cmp v (Int (pos n))) ≡ true
    → is_eq (value_cmp u (Int (pos n))) ≡ false → equal Binary u v ≡ false
apart_from u v n is differ = go (is_null_or u)
  where
    tested : (b : Bool) → is_eq (value_cmp u v) ≡ b → b ≡ false
    tested true e = absurd (let same = value_cmp_total.congr u v (Int (pos n)) (equal_order _ e) in
        let both = sym is ∙ ap is_eq (sym same) ∙ differ in cc)
    tested false e = refl

    go : (u ≡ Null) ⊎ (is_null u ≡ false) → equal Binary u v ≡ false
    go (inl e) = rw e (null_left v)
    go (inr e) = eq_both u v e (not_null v n is) ∙ tested (is_eq (value_cmp u v)) refl

no_parent : (n : ℕ) (v : Value) (rows : List Row) → is_eq (value_cmp v (Int (pos n))) ≡ true
    → filter (has_number n) (map columns_5 rows) ≡ [] → list_any (λ p. equal Binary (column p 1) v && true) rows ≡ false
no_parent n v [] is none = refl
no_parent n v (p ∷ rows) is none = go (no_parent n v rows is) (has_number n (columns_5 p)) refl none
  where
    go : (filter (has_number n) (map columns_5 rows) ≡ [] → list_any (λ p. equal Binary (column p 1) v && true) rows
        ≡ false) → (b : Bool) → has_number n (columns_5 p) ≡ b → (if b then columns_5 p
        ∷ filter (has_number n) (map columns_5 rows) else filter (has_number n) (map columns_5 rows)) ≡ []
        → list_any (λ p. equal Binary (column p 1) v && true) (p ∷ rows) ≡ false
    go more true e h = absurd cc
    go more false e h = rw (apart_from (column p 1) v n is e) (more h)

-- where each row has its row of deposits, no row is of a number that no deposit has
pub no_rows : (see : Row → Row) (trees : Trees) (n : ℕ) → ((r : Row) → has_number n (see r) ≡ is_eq (value_cmp (column r 1) (Int (pos n))))
    → filter (has_number n) (deposit_table trees) ≡ [] → (rows : List Row) → AllByRecursion (HasDeposit trees) rows
    → rows_under n (map see rows) ≡ []
no_rows see trees n same none [] keyed = refl
no_rows see trees n same none (r ∷ rows) keyed = go (has_number n (see r)) refl (no_rows see trees n same none rows keyed.1)
  where
    go : (b : Bool) → has_number n (see r) ≡ b → rows_under n (map see rows) ≡ []
        → map (drop 1) (if b then see r ∷ filter (has_number n) (map see rows) else filter (has_number n) (map see rows)) ≡ []
    go true e more =
        let its = sym (same r) ∙ e in
        absurd (let held = rw (not_null (column r 1) n its, no_parent n (column r 1) (trees 2) its none) at keyed.0 in cc)
    go false e more = more

-- the rows of lines, and those of steps, have their rows of deposits, in either format
pub keyed_lines : (format : Format) (trees : Trees) → IsSound (schema_of format) trees
    → AllByRecursion (HasDeposit trees) (trees 4)
unfolding same_name first_key joined
keyed_lines First trees sound = (sound.obeys.rules ForeignKey).1.1.0
keyed_lines Second trees sound = (sound.obeys.rules ForeignKey).1.1.0

pub keyed_steps : (format : Format) (trees : Trees) → IsSound (schema_of format) trees
    → AllByRecursion (HasDeposit trees) (trees 6)
unfolding same_name first_key joined
keyed_steps First trees sound = (sound.obeys.rules ForeignKey).1.1.1.0
keyed_steps Second trees sound = (sound.obeys.rules ForeignKey).1.1.1.0
