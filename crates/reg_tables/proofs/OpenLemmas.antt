-- What an open finds in files is what it is adopted as.
use Rattle.std.proofs.Common.{◌≡◌, ℕ, List, Err, sym, ap, subst, ◌∙◌}
use Rattle.std.proofs.Math.Logic.{∥∥₁_map}
use Rattle.sqlite.specs.Recovery.{Image}
use Rattle.sqlite.specs.Schema.{Schema}
use Rattle.sqlite.specs.Effect.{Database}
use Rattle.sqlite.specs.State.{State, Opens, IsLive}
use Rattle.sqlite.specs.Files.{AreFoundIn}
use Rattle.sqlite.specs.Start.{FindsIn}
use Rattle.ags_dict.specs.Entries.{Entries}
use Rattle.reg_tables.specs.declared.error.AdoptError.{AdoptError}
use Rattle.reg_store.specs.Deposit.{Deposit}
use Rattle.reg_tables.specs.declared.schema.format.Format.{Format}
use Rattle.reg_tables.specs.Quiet.{IsAsBefore}
use Rattle.reg_tables.specs.Register.{IsRegister, text_in}
use Rattle.reg_tables.specs.Adoption.{Adopts}
use Rattle.reg_tables.specs.Opened.{FindsTables, FindsSchema, HoldsRegister, RefusesFiles}

pub found_tables : {image : Image} (s : State) → Opens s → FindsIn image s → FindsTables image s.now.trees
found_tables {image} s opened found =
    let same : s.committed.trees ≡ s.now.trees = ap (λ (d : Database). d.trees) (sym opened.clean) in
    record { found = subst (AreFoundIn image) same found.reads; only = λ held has. sym same ∙ found.holds held has }

-- a connection that stayed as it was opened shows what an open finds
pub found_still : {image : Image} (old new : State) → Opens old → FindsIn image old → IsAsBefore old new → FindsTables image new.now.trees × (new.committed ≡ new.now)
found_still {image} old new opened found same =
    (subst (λ (db : Database). FindsTables image db.trees) (sym same.1.0) (found_tables {image = image} old opened found), same.1.1 ∙ sym opened.clean ∙ sym same.1.0)

pub found_register : {image : Image} {dictionary : Entries} {text : List ℕ} {list : List Deposit} (s : State) → Opens s → FindsIn image s
    → ∥ IsRegister s.now dictionary list ∥₁ × (text_in s.now.trees ≡ text) → ∥ HoldsRegister image dictionary text list ∥₁
found_register {image} {dictionary} {text} {list} s opened found register =
    ∥∥₁_map register.0 (λ (is : IsRegister s.now dictionary list). record { db = s.now; found = found_tables {image = image} s opened found; register = is; bytes = register.1 })

pub found_refused : {format : Format} {image : Image} {error : AdoptError} (s : State) → Opens s × IsLive s → FindsIn image s → Adopts format s.now (Err error) → RefusesFiles format image error
found_refused {format} {image} {error} s opened found refused =
    record { db = s.now; sound = (opened.1 opened.0.is_open).0; found = found_tables {image = image} s opened.0 found; refused = refused }

pub found_schema : {image : Image} {Has : Schema → Type 0} (s : State) → Opens s × IsLive s → FindsIn image s → Has s.now.schema → FindsSchema image Has
found_schema {image} {Has} s opened found has = record { db = s.now; sound = (opened.1 opened.0.is_open).0; found = found_tables {image = image} s opened.0 found; has = has }
