-- The statements of a new register, one after the other.
use Rattle.std.proofs.Common.{◌≡◌, ℕ, List, [], ◌∷◌, ◌≤◌, length, IsTrue, ◌∙◌, ap, sym, subst}
use Rattle.sqlite.specs.declared.types.Value.TheVariants.{Blob as Bytes}
use Rattle.sqlite.specs.Effect.{Database}
use Rattle.ags_dict.specs.Entries.{Entries}
use Rattle.ags_dict.specs.Reading.{IsDictionary}
use Rattle.reg_tables.specs.Register.{deposits_in, IsRegister, KeepsRegister, tables}
use Rattle.reg_tables.specs.Private.ReadBack.{read_back}
use Rattle.sqlite.specs.State.{State, Survives}
use Rattle.sqlite.proofs.StateLemmas.{survives_weaker}
use Rattle.ags_rows.specs.declared.TheConstants.{READABLE}
use Rattle.reg_tables.specs.Tables.{first_schema, no_schema}
use Rattle.reg_tables.proofs.Texts.{create_meta, create_deposits, create_lines, create_steps, create_withdrawals, fill_meta}
use Rattle.reg_tables.proofs.InsertsLaws.{fills_meta}
use Rattle.reg_tables.specs.Private.Commits.{Makes}
use Rattle.reg_tables.specs.Private.Inside.{Inside, Ran}
use Rattle.reg_tables.specs.Private.KeepLaws.{ChangesOf}
use Rattle.reg_tables.specs.Making.{AreDictionary}
use Rattle.reg_tables.specs.Creates.{HasFirst, HasFour, IsEmptyRegister, IsNewRegister, MakesWithdrawals}
use Rattle.reg_tables.specs.Creates.{SurvivesMaking}
use Rattle.reg_tables.proofs.MeaningLaws.{meta_text, deposits_text, lines_text, steps_text, withdrawals_text}
use Rattle.reg_tables.proofs.CreatesLaws.{makes, first_two, last_two, filled, new_left}
use Rattle.reg_tables.proofs.ExamineLemmas.{one_dictionary}
use Rattle.reg_tables.proofs.StoredText.{text_of_meta}

pub first_ran : (a b c : State) → a.now.schema ≡ no_schema → Ran create_meta [] a b → Ran create_deposits [] b c → Inside (λ _ db. HasFirst db) a c
first_ran a b c has one two =
    let made = makes a b one.count meta_text has one.ran in
    record { change = first_two a.now b.now c.now made (makes b c two.count deposits_text made.schema two.ran); goes_on = two.goes_on; is_open = two.is_open; committed = two.committed ∙ one.committed }

pub second_ran : (a b c : State) → HasFirst a.now → Ran create_lines [] a b → Ran create_steps [] b c → Inside (λ _ db. HasFour db) a c
second_ran a b c has one two =
    let made = makes a b one.count lines_text has.schema one.ran in
    record { change = last_two a.now b.now c.now has made (makes b c two.count steps_text made.schema two.ran); goes_on = two.goes_on; is_open = two.is_open; committed = two.committed ∙ one.committed }

pub third_ran : (a b : State) → a.now.schema ≡ first_schema → Ran create_withdrawals [] a b → Inside MakesWithdrawals a b
third_ran a b has one = record { change = makes a b one.count withdrawals_text has one.ran; goes_on = one.goes_on; is_open = one.is_open; committed = one.committed }

pub all_ran : (text : List ℕ) (a b c e f : State) → Inside (λ _ db. HasFirst db) a b → Inside (λ _ db. HasFour db) b c → Inside MakesWithdrawals c e → Ran fill_meta (Bytes text ∷ []) e f → Inside (Makes (λ _ db. IsNewRegister text db)) a f
all_ran text a b c e f one two three four =
    let made = filled text c.now e.now f.now two.change three.change (fills_meta e f text four.count three.change.schema four.ran) in
    record {
      change = record { change = made; sound = made.sound };
      goes_on = four.goes_on;
      is_open = four.is_open;
      committed = four.committed ∙ three.committed ∙ two.committed ∙ one.committed;
    }

pub new_list : (text : List ℕ) (s : State) → IsEmptyRegister text s.now → s.committed ≡ s.now → deposits_in s.committed.trees ≡ []
new_list text s it settled = ap (λ (db : Database). deposits_in db.trees) settled ∙ read_back s.now [] it.register

pub new_keeps : (text : List ℕ) (dictionary : Entries) (s : State) → IsEmptyRegister text s.now → IsTrue s.is_open → s.committed ≡ s.now → IsDictionary text dictionary → ∥ KeepsRegister s dictionary 0 ∥₁
new_keeps text dictionary s it is_open settled reads =
    let none = new_list text s it settled in
    let same : it.dictionary ≡ dictionary = one_dictionary text it.dictionary dictionary (subst (λ (t : List ℕ). IsDictionary t it.dictionary) (sym (text_of_meta 2 it.register.holds.text _ it.register.holds.meta) ∙ it.bytes) it.register.holds.reads) reads in
    let register = subst (λ (d : Entries). IsRegister s.now d []) same it.register in
    let kept : KeepsRegister s dictionary 0 = record {
      is_open = is_open;
      settled = settled;
      register = subst (IsRegister s.now dictionary) (sym none) register;
      counted = ap length (sym none);
    } in ∣ kept ∣₁

-- what a crash within the making may leave
pub making_left : (text : List ℕ) (old new : State) → length text ≤ READABLE → AreDictionary text → old.now.schema ≡ no_schema → Survives old new (ChangesOf (λ _ db. IsNewRegister text db) old) → SurvivesMaking text old new
making_left text old new short reads none =
    survives_weaker old new _ _ (λ _ trees made. (none, subst (λ t. IsEmptyRegister text (tables t)) (sym made.3) (new_left text reads.0 made.0 short reads.1 made.1)))
