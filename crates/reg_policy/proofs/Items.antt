-- What the accessors of a document say of its keys and of its items.
use Rattle.std.proofs.Common.{◌≡◌, ℕ, ◌+◌, ◌<◌, ◌≤◌, List, [], ◌∷◌, ◌++◌, Bool, true, ◌&&◌, zero, suc, length, map, get_or, take, Option, Some, None, Result, Ok, Err, Bor, String, Global, string_bytes, refl, sym, ap, ◌∙◌, subst, arith}
use Rattle.std.proofs.lemmas.Cmp.{nat_list_eq_equiv}
use Rattle.std.proofs.lemmas.List.{take_more, take_all}
use Rattle.std.specs.List.{list_all, list_any}
use Rattle.std.specs.Result.{IsErrAnd}
use Rattle.std.specs.Map.{keys_of}
use Rattle.toml.specs.Data.{Data, array, table, Items, Members, as_array, as_table, get_member}
use Rattle.toml.specs.View.{view, items_view, members_view}
use Rattle.toml.proofs.Lines.{data_of_array, data_of_table}
use Rattle.toml.specs.declared.value.Value.{Value}
use Rattle.reg_policy.specs.Documents.{all_items, all_keys, have_known_keys, is_known_key, is_known, Each, InTable, TablesSay}
use Rattle.reg_policy.specs.Readers.{Gives}
use Rattle.reg_policy.specs.declared.error.ReadError.{ReadError}
use Rattle.reg_policy.specs.declared.error.ReadError.TheVariants.{BadValue}
use Rattle.std.specs.Str.{bytes_eq}

-- a value whose accessor gives a table or an array
pub table_is : (d : Data) (ms : Members) → Some ms ≡ as_table d → table ms ≡ d
table_is d ms e = sym (data_of_table d ms (sym e))

pub array_is : (d : Data) (ds : Items) → Some ds ≡ as_array d → array ds ≡ d
array_is d ds e = sym (data_of_array d ds (sym e))

-- a slice of keys has a key as the list of these keys has it
pub known_in : (known : List (Bor (List ℕ))) (key : List ℕ) → list_any (λ k. bytes_eq k.now key) known ≡ is_known_key (map (λ k. k.now) known) key
known_in [] key = refl
known_in (k ∷ known) key = rw (nat_list_eq_equiv.symm k.now key, known_in known key)

-- the keys of a map are those of its members
pub all_keys-view : (p : List ℕ → Bool) (es : List (String Global × Value)) → list_all (λ k. p (string_bytes k)) (keys_of es) ≡ all_keys p (members_view es)
all_keys-view p [] = refl
all_keys-view p (e ∷ es) = ap (λ b. p (string_bytes e.0) && b) (all_keys-view p es)

pub all_items-view : (p : Data → Bool) (vs : List Value) → list_all (λ v. p (view v)) vs ≡ all_items p (items_view vs)
all_items-view p [] = refl
all_items-view p (v ∷ vs) = ap (λ b. p (view v) && b) (all_items-view p vs)

-- a document with the one key is as well known as what it has there
pub known_at : (key : List ℕ) (keys : List (List ℕ)) (document : Members) (name : List ℕ) (o : Option Data) (b : Bool) → all_keys (λ k. bytes_eq k key) document ≡ true
    → name ≡ key → o ≡ get_member name document → b ≡ have_known_keys keys o → b ≡ is_known key keys document
known_at key keys document name o b one same found e = rw one (e ∙ ap (have_known_keys keys) (found ∙ ap (λ k. get_member k document) same))

-- one item more
each_last : {A : Type 0} (P : Members → A → Type 0) (vs : List Value) (bs : List A) (v : Value) (b : A) → Each P (items_view vs) bs → InTable P (view v) b → Each P (items_view (vs ++ v ∷ [])) (bs ++ b ∷ [])
each_last P [] [] v b h p = (p, tt)
each_last P (u ∷ vs) (c ∷ bs) v b h p = (h.0, each_last P vs bs v b h.1 p)
each_last P vs bs v b h p = absurd h

pub each_more : {A : Type 0} (P : Members → A → Type 0) (vs : List Value) (i : ℕ) (v : Value) (bs : List A) (b : A) → i < length vs → v ≡ get_or vs i v
    → Each P (items_view (take i vs)) bs → InTable P (view v) b → Each P (items_view (take (i + 1) vs)) (bs ++ b ∷ [])
each_more P vs i v bs b low is h p = rw (take_more vs i v low, ← is) (each_last P (take i vs) bs v b h p)

pub each_all : {A : Type 0} (P : Members → A → Type 0) (vs : List Value) (i : ℕ) (bs : List A) → length vs ≤ i → Each P (items_view (take i vs)) bs → Each P (items_view vs) bs
each_all P vs i bs past h = subst (λ us. Each P (items_view us) bs) (take_all i vs past) h

-- a bad item leaves the list without a value
pub none_each : {A : Type 0} (P : Members → A → Type 0) (vs : List Value) (i : ℕ) (v : Value) → i < length vs → v ≡ get_or vs i v
    → ((b : A) → ¬ (InTable P (view v) b)) → (bs : List A) → ¬ (Each P (items_view vs) bs)
none_each P [] i v low is bad bs h = absurd (omega arith)
none_each P (u ∷ vs) i v low is bad [] h = h
none_each P (u ∷ vs) zero v low is bad (b ∷ bs) h = bad b (rw is h.0)
none_each P (u ∷ vs) (suc i) v low is bad (b ∷ bs) h = none_each P vs i v (omega arith) is bad bs h.1

no_array_in : {A : Type 0} (P : Members → A → Type 0) (d : Data) → None ≡ as_array d → (bs : List A) → ¬ (TablesSay P (Some d) bs)
no_array_in P (array ds) e bs h = cc
no_array_in P d e bs h = h

-- a value that is no array lists nothing
pub no_array : {A : Type 0} (P : Members → A → Type 0) (o : Option Data) (d : Data) → Some d ≡ o → None ≡ as_array d → (bs : List A) → ¬ (TablesSay P o bs)
no_array P o d found e bs h = no_array_in P d e bs (rw (← found) at h)

-- a refusal of one part is one of a larger part, if the larger has no value without the smaller
pub refused : {A B : Type 0} (P : A → Type 0) (Q : B → Type 0) (e : ReadError) → Gives P (Err e) → (((a : A) → ¬ (P a)) → (b : B) → ¬ (Q b)) → Gives Q (Err e)
refused P Q BadValue h f = f h
refused P Q e h f = h

-- the same of what a `?` hands on
pub passed_on : {A B : Type 0} (P : A → Type 0) (Q : B → Type 0) (e : ReadError) (r : Result B ReadError) (Same : ReadError → Type 0) → IsErrAnd r Same
    → ((f : ReadError) → Same f → f ≡ e) → Gives P (Err e) → (((a : A) → ¬ (P a)) → (b : B) → ¬ (Q b)) → Gives Q r
passed_on P Q e (Ok b) Same h is bad without = absurd h
passed_on P Q e (Err f) Same h is bad without = rw (is f h) (refused P Q e bad without)
