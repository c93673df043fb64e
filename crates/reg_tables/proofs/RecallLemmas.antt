-- What was sent and the marks that are found beside it are a register, and what is known of both agrees with it.
use Rattle.std.proofs.Common.{◌≡◌, ℕ, ◌+◌, List, Bool, length, Err, sym, ap, subst, ◌∙◌}
use Rattle.std.proofs.Math.Logic.{∥∥₁_elim, ∥∥₁_map}
use Rattle.std.proofs.Props.{props}
use Rattle.std.proofs.lemmas.List.{length-map}
use Rattle.std.proofs.lemmas.List.Sorted.{length_permutation}
use Rattle.std.specs.List.Sorted.{IsPermutation}
use Rattle.sqlite.specs.Effect.{Database}
use Rattle.ags_dict.specs.Entries.{Entries}
use Rattle.reg_store.specs.Deposit.{Deposit, sents}
use Rattle.reg_store.specs.Sent.{Sent}
use Rattle.reg_tables.specs.declared.error.AdoptError.{AdoptError}
use Rattle.reg_tables.specs.declared.error.AdoptError.TheVariants.{NotRegister, Version, Store, NoMemory}
use Rattle.reg_tables.specs.declared.schema.format.Format.TheVariants.{Second}
use Rattle.reg_tables.specs.declared.memory.Known.{Known}
use Rattle.reg_tables.specs.declared.memory.Memory.{Memory}
use Rattle.reg_tables.specs.declared.memory.digests.Digests.{Digests}
use Rattle.reg_tables.specs.Adoption.{Adopts, FindsMarks, HoldsMarks}
use Rattle.reg_tables.specs.Private.Digests.{AreBelow, AreDigested, HoldsDigests}
use Rattle.reg_tables.specs.Private.Heads.{AreNew, HoldsKnown}
use Rattle.reg_tables.specs.Private.Marks.{long_sents}
use Rattle.reg_tables.proofs.MarksLaws.{marks_paired, paired, sents_paired}
use Rattle.reg_tables.specs.Private.Memory.{Agrees, Recalls}
use Rattle.reg_tables.specs.Register.{HoldsSent, IsRegister, deposit_rows, deposits_in, mark_rows, mark_table, marks_of}
use Rattle.reg_tables.specs.Private.RegisterLaws.{rows-length}
use Rattle.reg_tables.specs.Private.ReadBack.{read_back}
use Rattle.reg_tables.specs.Rows.{deposit_table}
use Rattle.reg_tables.proofs.ExamineLemmas.{one_format_in, register_meta}
use Rattle.reg_tables.proofs.HeadsLemmas.{new_held}
use Rattle.reg_tables.proofs.RepeatsLemmas.{digested_held}

-- so many deposits were sent
abbrev pub HoldsSome : Database → Entries → ℕ → Type 0
HoldsSome db dictionary count = (list : List Sent) × HoldsSent Second db dictionary list × (length list ≡ count)

paired_register : (db : Database) (dictionary : Entries) (list : List Sent) (marks : List Bool) → HoldsSent Second db dictionary list → HoldsMarks (length list) db marks → IsRegister db dictionary (paired list marks)
paired_register db dictionary list marks holds held = record {
  holds = subst (HoldsSent Second db dictionary) (sym (sents_paired list marks held.0)) holds;
  marks = subst (λ all. IsPermutation (mark_rows 1 all) (mark_table Second db.trees)) (sym (marks_paired list marks held.0)) held.1;
}

pub recalled : (db : Database) (dictionary : Entries) (count : ℕ) (known : List Known) (marks : List Bool) (digests : Digests) (memory : Memory) → ∥ HoldsSome db dictionary count ∥₁ → HoldsKnown db dictionary known → HoldsDigests db (count + 1) digests
    → AreBelow digests (count + 1) → length known ≡ count → HoldsMarks count db marks → length memory.known.items ≡ length known
    → ((list : List Deposit) → AreNew dictionary known (sents list) → marks ≡ marks_of list → AreDigested digests (sents list) → AreBelow digests (length list + 1) → Agrees memory dictionary list)
    → Recalls db dictionary memory
recalled db dictionary count known marks digests memory some are digested below long held same agrees = record {
  register = ∥∥₁_map some (λ (p : HoldsSome db dictionary count). (paired p.0 marks, register p, count_is p ∙ sym long ∙ sym same));
  agrees = agrees list
      (new_held db dictionary known (sents list) (∥∥₁_map some (λ (p : HoldsSome db dictionary count).
      subst (λ (sent : List Sent). IsPermutation (deposit_rows 1 sent) (deposit_table db.trees)) (sent_is p) p.1.deposits)) are)
      (∥∥₁_elim some (Prim.hlevel props) (λ (p : HoldsSome db dictionary count). sym (marks_paired p.0 marks (marks_long p)) ∙ ap marks_of (list_is p)))
      (λ k d at. ∥∥₁_elim some (Prim.hlevel props) (λ (p : HoldsSome db dictionary count).
      subst (AreDigested digests) (sent_is p) (digested_held db digests p.0 p.1.deposits (subst (λ n. HoldsDigests db (n + 1) digests) (sym p.2) digested)) k d at))
      (subst (λ n. AreBelow digests (n + 1)) (sym (∥∥₁_elim some (Prim.hlevel props) (λ (p : HoldsSome db dictionary count). ap length (sym (list_is p)) ∙ count_is p))) below);
}
  where
    list : List Deposit
    list = deposits_in db.trees

    marks_long : (p : HoldsSome db dictionary count) → length marks ≡ length p.0
    marks_long p = held.0 ∙ sym p.2

    register : (p : HoldsSome db dictionary count) → IsRegister db dictionary (paired p.0 marks)
    register p = paired_register db dictionary p.0 marks p.1 (marks_long p, held.1)

    list_is : (p : HoldsSome db dictionary count) → paired p.0 marks ≡ list
    list_is p = sym (read_back db (paired p.0 marks) (register p))

    sent_is : (p : HoldsSome db dictionary count) → p.0 ≡ sents list
    sent_is p = sym (sents_paired p.0 marks (marks_long p)) ∙ ap sents (list_is p)

    count_is : (p : HoldsSome db dictionary count) → length (paired p.0 marks) ≡ count
    count_is p = sym (long_sents (paired p.0 marks)) ∙ ap length (sents_paired p.0 marks (marks_long p)) ∙ p.2

-- no marks, no register
pub refused_marks : (db : Database) (dictionary : Entries) (count : ℕ) (e : AdoptError) → ∥ HoldsSome db dictionary count ∥₁ → FindsMarks count db (Err e) → Adopts Second db (Err e)
refused_marks db dictionary count (Version n) some none = absurd none
refused_marks db dictionary count NotRegister some none = (
  λ n has. ∥∥₁_elim some (Prim.hlevel props) (λ (p : HoldsSome db dictionary count). one_format_in 2 db dictionary (register_meta Second db dictionary p.0 p.1) n has),
  λ other list r. ∥∥₁_elim some (Prim.hlevel props) (λ (p : HoldsSome db dictionary count). none (marks_of list) (as_many p list r.holds.deposits, r.marks)),
)
  where
    as_many : (p : HoldsSome db dictionary count) (list : List Deposit) → IsPermutation (deposit_rows 1 (sents list)) (deposit_table db.trees) → length (marks_of list) ≡ count
    as_many p list are =
        length-map list (λ d. d.withdrawn) ∙ sym (long_sents list) ∙ sym (rows-length 1 (sents list)) ∙ sym (length_permutation _ _ are) ∙ length_permutation _ _ p.1.deposits ∙ rows-length 1 p.0 ∙ p.2
refused_marks db dictionary count Store some none = tt
refused_marks db dictionary count NoMemory some none = tt
