-- What refuses a register, and when a connection is outside a transaction.
use Rattle.std.proofs.Common.{◌≡◌, ◌≢◌, ℤ, pos, List, map, Bool, true, false, not, Err, Contains, refl, sym, ◌∙◌}
use Rattle.std.specs.List.Sorted.{IsPermutation}
use Rattle.std.proofs.lemmas.List.Sorted.{IsPermutation-sym, Contains-permutation}
use Rattle.sqlite.specs.Order.{Row}
use Rattle.sqlite.specs.Effect.{Database}
use Rattle.reg_tables.specs.declared.schema.format.Format.{Format}
use Rattle.reg_tables.specs.Tables.{format_number, schema_of}
use Rattle.reg_tables.specs.Rows.{columns_3}
use Rattle.reg_tables.specs.Formats.{IsFormatRow, StartsWithMeta}
use Rattle.reg_tables.specs.declared.error.AdoptError.TheVariants.{NotRegister, Version}
use Rattle.reg_tables.specs.Adoption.{Adopts}
use Rattle.reg_tables.proofs.TablesLemmas.{format_tables, tables_first}

-- outside a transaction
pub autocommit_idle : (is mode : Bool) → is ≡ not mode → is ≡ true → mode ≡ false
autocommit_idle is false h on = refl
autocommit_idle is true h on = absurd (let clash : true ≡ false = sym on ∙ h in cc)

-- ---- the refusals

pub refused_unstarted : (format : Format) (db : Database) → (StartsWithMeta db.schema → ⊥) → Adopts format db (Err NotRegister)
refused_unstarted format db none = (λ n has. absurd (none has.0), λ dictionary list r. absurd (none (tables_first db.schema (format_tables format db.schema r.holds.schema))))

pub refused_format : (format : Format) (db : Database) (rows : List Row) (n : ℤ) → StartsWithMeta db.schema → IsPermutation rows (map columns_3 (db.trees 0)) → (n ≢ pos (format_number format)) × ((row : Row) × Contains rows row × IsFormatRow n row)
    → Adopts format db (Err (Version n))
refused_format format db rows n first all found = (found.0, (first, (found.1.0, Contains-permutation _ _ _ all found.1.1, found.1.2)))

pub refused_tables : (format : Format) (db : Database) (rows : List Row) → db.schema ≢ schema_of format → IsPermutation rows (map columns_3 (db.trees 0)) → ((n : ℤ) (row : Row) → Contains rows row → IsFormatRow n row → n ≡ pos (format_number format))
    → Adopts format db (Err NotRegister)
refused_tables format db rows other all none = (λ n has. none n has.1.0 (Contains-permutation _ _ _ (IsPermutation-sym _ _ all) has.1.1) has.1.2, λ dictionary list r. absurd (other r.holds.schema))
