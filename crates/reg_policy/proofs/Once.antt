-- A document has one list of rules, and one of callers.
use Rattle.std.proofs.Common.{◌≡◌, ℕ, List, [], ◌∷◌, Bool, true, false, Option, Some, None, codes, ℤ, refl, sym, ap, ◌∙◌, inl, inr}
use Rattle.std.proofs.lemmas.Bool.{false≢true}
use Rattle.std.proofs.lemmas.Slice.Eq.{bytes_eq-Decides}
use Rattle.std.specs.Str.{bytes_eq}
use Rattle.toml.specs.Data.{Data, string, array, table, Items, no_items, item, Members, get_member}
use Rattle.ags_text.specs.Names.{is_group_name}
use Rattle.reg_policy.specs.Callers.{IsCaller, IsText}
use Rattle.reg_policy.specs.Documents.{Each, InTable, IsListOf, TablesSay}
use Rattle.reg_policy.specs.Names.{is_name, is_token, verb_text}
use Rattle.reg_policy.specs.Rules.{IsDayAt, IsPeriodIn, IsEffect, IsEither, IsEntry, IsNumber, IsRule, IsVerb, IsWord, IsSettingOf, effect_text}
use Rattle.reg_policy.specs.declared.rule.Effect.{Effect}
use Rattle.reg_policy.specs.declared.rule.Effect.TheVariants.{Permit, Deny}
use Rattle.reg_policy.specs.declared.period.Period.{Period}
use Rattle.reg_policy.specs.declared.rule.WantedEntry.{WantedEntry}
use Rattle.reg_policy.proofs.Days.{day_of-Writes}
use Rattle.reg_policy.specs.declared.subject.Verb.{Verb}
use Rattle.reg_policy.specs.declared.subject.Verb.TheVariants.{Deposit, Check, List as ListDeposits, Extract, Withdraw, See}

-- each table says one thing at most
abbrev pub SaysOnce : {A : Type 0} → (Members → A → Type 0) → Type 0
SaysOnce {A} Says = (t : Members) (a b : A) → Says t a → Says t b → a ≡ b

once_in : {A : Type 0} (Says : Members → A → Type 0) → SaysOnce Says → (d : Data) (a b : A) → InTable Says d a → InTable Says d b → a ≡ b
once_in Says once (table t) a b p q = once t a b p q
once_in Says once d a b p q = absurd p

once_each : {A : Type 0} (Says : Members → A → Type 0) → SaysOnce Says → (ds : Items) (xs ys : List A) → Each Says ds xs → Each Says ds ys → xs ≡ ys
once_each Says once no_items [] [] p q = refl
once_each Says once no_items [] (y ∷ ys) p q = absurd q
once_each Says once (item d ds) (x ∷ xs) [] p q = absurd q
once_each Says once (item d ds) (x ∷ xs) (y ∷ ys) p q =
    rw (once_in Says once d x y p.0 q.0, once_each Says once ds xs ys p.1 q.1)
once_each Says once ds xs ys p q = absurd p

once_listed : {A : Type 0} (Says : Members → A → Type 0) → SaysOnce Says → (o : Option Data) (xs ys : List A) → TablesSay Says o xs → TablesSay Says o ys → xs ≡ ys
once_listed Says once None xs ys p q = p ∙ sym q
once_listed Says once (Some (array ds)) xs ys p q = once_each Says once ds xs ys p q
once_listed Says once d xs ys p q = absurd p

-- a text is one list, at most
pub one_list : {A : Type 0} (Says : Members → A → Type 0) → SaysOnce Says → (key : List ℕ) (keys : List (List ℕ)) (text : List ℕ) (xs ys : List A)
    → IsListOf key keys Says text xs → IsListOf key keys Says text ys → xs ≡ ys
one_list Says once key keys text xs ys (d, (read, known), p) (e, (again, known2), q) =
    let same : d ≡ e = cc in
    once_listed Says once (get_member key d) xs ys p (rw same q)

-- a word means one thing at most
abbrev MeansOnce : {A : Type 0} → (List ℕ → A → Type 0) → Type 0
MeansOnce {A} Means = (s : List ℕ) (a b : A) → Means s a → Means s b → a ≡ b

set_once : {A : Type 0} (Means : List ℕ → A → Type 0) → MeansOnce Means → (d : Option Data) (a b : Option A) → IsSettingOf Means d a → IsSettingOf Means d b → a ≡ b
set_once Means once None a b p q = p ∙ sym q
set_once Means once (Some (string s)) a b (inl p) (inl q) = p.1 ∙ sym q.1
set_once Means once (Some (string s)) a b (inl p) (inr q) = absurd (q.0 p.0)
set_once Means once (Some (string s)) a b (inr p) (inl q) = absurd (p.0 q.0)
set_once Means once (Some (string s)) a b (inr (n, x, mx, ex)) (inr (m, y, my, ey)) = ex ∙ ap Some (once s x y mx my) ∙ sym ey
set_once Means once d a b p q = absurd p

word_once : (passes : List ℕ → Bool) → MeansOnce (IsWord passes)
word_once passes s a b p q = p.1 ∙ sym q.1

verb_once : MeansOnce IsVerb
verb_once s a b p q = verbs a b (sym p ∙ q)
  where
    verbs : (a b : Verb) → verb_text a ≡ verb_text b → a ≡ b
    verbs Deposit Deposit e = refl
    verbs Check Check e = refl
    verbs ListDeposits ListDeposits e = refl
    verbs Extract Extract e = refl
    verbs Withdraw Withdraw e = refl
    verbs See See e = refl
    verbs a b e = absurd (false≢true ((bytes_eq-Decides (verb_text a) (verb_text b)).1 e))

either_once : (word other : List ℕ) → bytes_eq word other ≡ false → MeansOnce (IsEither word other)
either_once word other apart s true true p q = refl
either_once word other apart s true false p q = absurd (false≢true (sym apart ∙ (bytes_eq-Decides word other).1 (sym p ∙ q)))
either_once word other apart s false true p q = absurd (false≢true (sym apart ∙ (bytes_eq-Decides word other).1 (sym q ∙ p)))
either_once word other apart s false false p q = refl

effect_once : (d : Option Data) (a b : Effect) → IsEffect d a → IsEffect d b → a ≡ b
effect_once d a b p q = effects a b (sym p ∙ q)
  where
    effects : (a b : Effect) → Some (string (effect_text a)) ≡ Some (string (effect_text b)) → a ≡ b
    effects Permit Permit e = refl
    effects Deny Deny e = refl
    effects a b e = absurd (cc)

number_once : (d : Option Data) (a b : ℕ) → IsNumber d a → IsNumber d b → a ≡ b
number_once d a b p q = cc

entries : (a b : WantedEntry) → a.heading ≡ b.heading → a.value ≡ b.value → a ≡ b
entries a b p q = λ i. record { heading = p i; value = q i }

entry_once : (h v : Option Data) (a b : Option WantedEntry) → IsEntry h v a → IsEntry h v b → a ≡ b
entry_once None None a b p q = p ∙ sym q
entry_once (Some (string h)) (Some (string v)) (Some a) (Some b) p q = ap Some (entries a b (p.1 ∙ sym q.1) (p.2 ∙ sym q.2))
entry_once (Some (string h)) (Some (string v)) (Some a) None p q = absurd q
entry_once h v a b p q = absurd p

day_once : (d : Option Data) (a b : Option ℤ) → IsDayAt d a → IsDayAt d b → a ≡ b
day_once None a b p q = p ∙ sym q
day_once (Some (string s)) (Some a) (Some b) p q = sym ((day_of-Writes s a).1 p) ∙ (day_of-Writes s b).1 q
day_once (Some (string s)) (Some a) None p q = absurd q
day_once d a b p q = absurd p

period_once : (t : Members) (a b : Period) → IsPeriodIn t a → IsPeriodIn t b → a ≡ b
period_once t a b p q = λ i. record {
  from = day_once (get_member (codes "from") t) a.from b.from p.from q.from i;
  until = day_once (get_member (codes "until") t) a.until b.until p.until q.until i;
}

pub rule_once : SaysOnce IsRule
rule_once t a b p q = λ i. record {
  number = number_once (get_member (codes "number") t) a.number b.number p.number q.number i;
  effect = effect_once (get_member (codes "effect") t) a.effect b.effect p.effect q.effect i;
  firm = set_once (IsWord is_name) (word_once is_name) (get_member (codes "firm") t) a.firm b.firm p.firm q.firm i;
  role = set_once (IsWord is_name) (word_once is_name) (get_member (codes "role") t) a.role b.role p.role q.role i;
  project = set_once (IsWord is_name) (word_once is_name) (get_member (codes "project") t) a.project b.project p.project q.project i;
  verb = set_once IsVerb verb_once (get_member (codes "verb") t) a.verb b.verb p.verb q.verb i;
  group = set_once (IsWord is_group_name) (word_once is_group_name) (get_member (codes "group") t) a.group b.group p.group q.group i;
  own = set_once (IsEither (codes "own") (codes "other")) (either_once (codes "own") (codes "other") refl) (get_member (codes "owner") t) a.own b.own p.own q.own i;
  past = set_once (IsEither (codes "past") (codes "running")) (either_once (codes "past") (codes "running") refl) (get_member (codes "embargo") t) a.past b.past p.past q.past i;
  entry = entry_once (get_member (codes "heading") t) (get_member (codes "value") t) a.entry b.entry p.entry q.entry i;
  period = period_once t a.period b.period p.period q.period i;
}

text_once : (passes : List ℕ → Bool) (d : Option Data) (a b : List ℕ) → IsText passes d a → IsText passes d b → a ≡ b
text_once passes d a b p q = cc

pub caller_once : SaysOnce IsCaller
caller_once t a b p q = λ i. record {
  token = text_once is_token (get_member (codes "token") t) a.token b.token p.token q.token i;
  caller = record {
    firm = text_once is_name (get_member (codes "firm") t) a.caller.firm b.caller.firm p.firm q.firm i;
    role = text_once is_name (get_member (codes "role") t) a.caller.role b.caller.role p.role q.role i;
  };
}
