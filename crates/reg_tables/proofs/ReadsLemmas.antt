-- What a call that only reads leaves of a store over a database.
use Rattle.std.proofs.Common.{◌≡◌, ◌≢◌, ℕ, Bool, false, List, Result, Ok, Err, IfOk, IfErr, refl, sym, ap, subst, ◌∙◌}
use Rattle.ags_dict.specs.Entries.{Entries}
use Rattle.sqlite.specs.Effect.{Database}
use Rattle.sqlite.specs.State.{State, HasCleanDisk}
use Rattle.reg_store.specs.declared.keep.KeepError.{KeepError}
use Rattle.reg_store.specs.declared.keep.KeepError.TheVariants.{Full}
use Rattle.reg_store.specs.Keep.{Adds, Reads, fails, is_store}
use Rattle.reg_store.specs.Deposit.{Deposit}
use Rattle.reg_tables.specs.declared.error.TableError.{TableError}
use Rattle.reg_tables.specs.declared.error.TableError.TheVariants.{Store, NoMemory}
use Rattle.reg_tables.specs.Private.Errors.{keep_answer, database_fails, is_of_database, keep_error}
use Rattle.reg_tables.proofs.KeepLemmas.{left_list, left_same}
use Rattle.reg_tables.specs.Quiet.{IsStill}
use Rattle.reg_tables.proofs.QuietLaws.{clean_before}
use Rattle.reg_tables.specs.Register.{deposits_in, text_in, LeavesBroken, LeavesList}

-- the store failed where the tables did
pub error_fails : (e : TableError) → is_store (keep_error e) ≡ is_of_database e
error_fails Store = refl
error_fails NoMemory = refl

pub answer_fails : {X : Type 0} (r : Result X TableError) → fails (keep_answer r) ≡ database_fails r
answer_fails (Ok x) = refl
answer_fails (Err e) = error_fails e

-- and it is not full
pub never_full : {X : Type 0} (r : Result X TableError) → IfErr (keep_answer r) (λ e. e ≢ Full)
never_full (Ok x) = tt
never_full (Err Store) = λ is. cc
never_full (Err NoMemory) = λ is. cc

-- what was found is answered
pub answered : {X : Type 0} (P : X → Type 0) (r : Result X TableError) {answer : Result X KeepError} → answer ≡ keep_answer r → IfOk r P → IfOk answer P
answered P (Ok x) is found = rw is found
answered P (Err e) is found = rw is tt

-- what is answered was found
pub found_of : {X : Type 0} (r : Result X TableError) (x : X) → keep_answer r ≡ Ok x → r ≡ Ok x
found_of (Ok y) x is = ap (λ z. Ok z) (let same : y ≡ x = cc in same)
found_of (Err e) x is = absurd cc

module _ {K : Type 0} (held : K → State) (dictionary : K → Entries) (limit : ℕ) (has_failed : K → Bool) where
  -- where the connection is still, the store was only read
  pub reads_still : {X : Type 0} (old new : K) (r : Result X KeepError) → IsStill (held old) (held new) (fails r) → dictionary new ≡ dictionary old → has_failed new ≡ fails r → IfErr r (λ e. e ≢ Full)
      → Reads (λ k. deposits_in (held k).committed.trees) dictionary (λ k. text_in (held k).committed.trees) (λ _. limit) has_failed (λ k. LeavesList (held k).may_leave (dictionary k)) (λ k. LeavesBroken (held k).may_leave (dictionary k)) (λ k. HasCleanDisk (held k)) old new r
  reads_still old new r still same failing named = record {
    sound = λ clean. clean_before (held old) (held new) still.survives clean;
    same_dictionary = same;
    same_limit = refl;
    failing = failing;
    named = named;
    same = λ clean well. ap (λ (db : Database). deposits_in db.trees) (still.same clean well).1;
    same_text = λ clean well. ap (λ (db : Database). text_in db.trees) (still.same clean well).1;
    crash = λ clean bytes list left. left_list (held old) (held new) still.survives clean (dictionary old) bytes list (subst (λ (d : Entries). LeavesList (held new).may_leave d bytes list) same left);
    whole = λ clean left. left_same (held old) (held new) still.survives clean _ (subst (λ (d : Entries). LeavesBroken (held new).may_leave d) same left);
  }

  -- so it was where the tables were read, and the store answers what they did
  pub reads_table : {X : Type 0} (old new : K) (r : Result X TableError) (answer : Result X KeepError) → answer ≡ keep_answer r → IsStill (held old) (held new) (database_fails r) → dictionary new ≡ dictionary old → has_failed new ≡ database_fails r
      → Reads (λ k. deposits_in (held k).committed.trees) dictionary (λ k. text_in (held k).committed.trees) (λ _. limit) has_failed (λ k. LeavesList (held k).may_leave (dictionary k)) (λ k. LeavesBroken (held k).may_leave (dictionary k)) (λ k. HasCleanDisk (held k)) old new answer
  reads_table old new r answer is still same failing =
      rw is (reads_still old new (keep_answer r) (subst (IsStill (held old) (held new)) (sym (answer_fails r)) still) same (failing ∙ sym (answer_fails r)) (never_full r))

module _ {K : Type 0} {deposits : K → List Deposit} {dictionary : K → Entries} {text : K → List ℕ} {limit : K → ℕ} {has_failed : K → Bool} {may_leave : K → List ℕ → List Deposit → Type 0} {may_break : K → Type 0} {is_sound : K → Type 0} where
  -- another answer, which is refused by `Store` where this one is
  pub reads_as : {X Y : Type 0} (old new : K) (r : Result X KeepError) (other : Result Y KeepError) → fails other ≡ fails r → IfErr other (λ e. e ≢ Full) → Reads deposits dictionary text limit has_failed may_leave may_break is_sound old new r → Reads deposits dictionary text limit has_failed may_leave may_break is_sound old new other
  reads_as old new r other same named one = record {
    sound = one.sound;
    same_dictionary = one.same_dictionary;
    same_limit = one.same_limit;
    failing = one.failing ∙ sym same;
    named = named;
    same = λ clean well. one.same clean (sym same ∙ well);
    same_text = λ clean well. one.same_text clean (sym same ∙ well);
    crash = one.crash;
    whole = one.whole;
  }

  -- the answer by another name
  pub adds_as : {X : Type 0} (next : List Deposit) (old new : K) (r other : Result X KeepError) → other ≡ r → Adds deposits dictionary text limit has_failed may_leave may_break is_sound next old new r → Adds deposits dictionary text limit has_failed may_leave may_break is_sound next old new other
  adds_as next old new r other is one = rw is one

  -- one call after the other
  pub reads_then : {X Y : Type 0} (a b c : K) (r : Result X KeepError) (s : Result Y KeepError) → fails r ≡ false → Reads deposits dictionary text limit has_failed may_leave may_break is_sound a b r → Reads deposits dictionary text limit has_failed may_leave may_break is_sound b c s → Reads deposits dictionary text limit has_failed may_leave may_break is_sound a c s
  reads_then a b c r s well one two = record {
    sound = λ clean. one.sound (two.sound clean);
    same_dictionary = two.same_dictionary ∙ one.same_dictionary;
    same_limit = two.same_limit ∙ one.same_limit;
    failing = two.failing;
    named = two.named;
    same = λ clean ok. two.same clean ok ∙ one.same (two.sound clean) well;
    same_text = λ clean ok. two.same_text clean ok ∙ one.same_text (two.sound clean) well;
    crash = λ clean bytes list left. one.crash (two.sound clean) bytes list (two.crash clean bytes list left);
    whole = λ clean left. one.whole (two.sound clean) (two.whole clean left);
  }
