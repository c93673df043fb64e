-- The test of each relation of a rule, and the decision of a list of rules.
use Rattle.std.proofs.Common.{◌≡◌, ◌⊎◌, All, ℕ, ◌<◌, zero, suc, List, [], ◌∷◌, Bool, ◌&&◌, is_none, Option, Some, None, ℤ, ◌≤ℤ◌, int_le, Decides, refl, ap, inl, inr, arith, negsuc, pos}
use Rattle.std.proofs.lemmas.Bool.{false≢true, cases_Bool, leb-true, le-leb}
use Rattle.std.proofs.lemmas.Int.{ints}
use Rattle.std.proofs.lemmas.Bool.Decides.{Decides-and, Decides-like, Decides-or, not_from_Decides}
use Rattle.std.proofs.lemmas.List.Elements.{All-cons, All-head, All-nil, All-tail}
use Rattle.std.proofs.lemmas.Slice.Eq.{bytes_eq-Decides}
use Rattle.std.specs.Bool.{beq}
use Rattle.std.specs.Cmp.{booleans_Decides}
use Rattle.std.specs.List.{list_any, zip}
use Rattle.std.specs.Str.{bytes_eq}
use denote.Enum.Bare.{same_true, sameb, true_same}
use Rattle.reg_policy.specs.contracts.subject.Verb.{the_type as the_verbs}
use Rattle.reg_policy.specs.Decision.{
  Question,
  Facts,
  IsFirstMatch,
  HasEntry,
  IsInPeriod,
  Matches,
  Meets,
  MeetsEntry,
  MeetsRow,
  NotAfter,
  NotBefore,
  decision_of,
  effect_of,
  has_entry,
  is_met,
  is_row_met,
  is_in_period,
  matches,
}
use Rattle.reg_policy.specs.declared.period.Period.{Period}
use Rattle.reg_policy.specs.declared.rule.WantedEntry.{WantedEntry}
use Rattle.reg_policy.specs.declared.rule.Rule.{Rule}
use Rattle.reg_policy.specs.Rules.{IsRisingFrom}
use Rattle.reg_policy.specs.declared.rule.Effect.{Effect}
use Rattle.reg_policy.specs.declared.rule.Effect.TheVariants as Effects
use Rattle.reg_policy.specs.declared.subject.Decision.{Decision}
use Rattle.reg_policy.specs.declared.subject.Decision.TheVariants.{Deny}
use Rattle.reg_policy.specs.declared.subject.Verb.{Verb}

-- a test of what is set decides what is said of it, where nothing set matches all
is_set-Decides : {A B : Type 0} (same : A → B → Bool) (x : B) (Holds : Option A → Type 0) → Holds None → ((a : A) → Decides (same a x) (Holds (Some a)))
    → (o : Option A) → Decides (is_met same o x) (Holds o)
is_set-Decides same x Holds none each None = (λ _. none, λ _. refl)
is_set-Decides same x Holds none each (Some a) = each a

is_met-Decides : {A : Type 0} (same : A → A → Bool) → ((x y : A) → Decides (same x y) (x ≡ y)) → (o : Option A) (x : A) → Decides (is_met same o x) (Meets o x)
is_met-Decides same each o x = is_set-Decides same x (λ set. Meets set x) tt (λ a. each a x) o

verb-Decides : (v w : Verb) → Decides (sameb the_verbs v w) (v ≡ w)
verb-Decides v w = (same_true the_verbs tt v w, true_same the_verbs v w)

-- the entry at the first place, or further on
entry_to : (e : WantedEntry) (h c : List ℕ) (hs cs : List (List ℕ)) → ((h ≡ e.heading) × (c ≡ e.value)) ⊎ HasEntry e hs cs → HasEntry e (h ∷ hs) (c ∷ cs)
entry_to e h c hs cs (inl (a, b)) = (zero, ap Some a, ap Some b)
entry_to e h c hs cs (inr (i, a, b)) = (suc i, a, b)

entry_from : (e : WantedEntry) (h c : List ℕ) (hs cs : List (List ℕ)) → HasEntry e (h ∷ hs) (c ∷ cs) → ((h ≡ e.heading) × (c ≡ e.value)) ⊎ HasEntry e hs cs
entry_from e h c hs cs (zero, a, b) = inl (cc, cc)
entry_from e h c hs cs (suc i, a, b) = inr (i, a, b)

has_entry-Decides : (e : WantedEntry) (hs cs : List (List ℕ))
    → Decides (list_any (λ (h, c). bytes_eq h e.heading && bytes_eq c e.value) (zip hs cs)) (HasEntry e hs cs)
has_entry-Decides e (h ∷ hs) (c ∷ cs) =
    Decides-like _ (entry_to e h c hs cs) (entry_from e h c hs cs)
    (Decides-or _ _ (Decides-and _ _ (bytes_eq-Decides h e.heading) (bytes_eq-Decides c e.value)) (has_entry-Decides e hs cs))
has_entry-Decides e hs cs = (λ f. absurd (false≢true f), λ (i, a, b). absurd (cc))

is_none-Decides : {A : Type 0} (o : Option A) → Decides (is_none o) (o ≡ None)
is_none-Decides None = (λ _. refl, λ _. refl)
is_none-Decides (Some a) = (λ e. absurd (false≢true e), λ e. absurd (cc))

four-Decides : {P Q R S : Type 0} (a b c d : Bool) → Decides a P → Decides b Q → Decides c R → Decides d S → Decides (a && b && c && d) (P × Q × R × S)
four-Decides a b c d p q r s =
    Decides-like _ (λ h. (h.0.0.0, h.0.0.1, h.0.1, h.1)) (λ h. (((h.0, h.1), h.2), h.3))
    (Decides-and _ _ (Decides-and _ _ (Decides-and _ _ p q) r) s)

is_row_met-Decides : (r : Rule) (o : Option Facts) → Decides (is_row_met r o) (MeetsRow r o)
is_row_met-Decides r None = four-Decides _ _ _ _ (is_none-Decides r.group) (is_none-Decides r.own) (is_none-Decides r.past) (is_none-Decides r.entry)
is_row_met-Decides r (Some f) = four-Decides _ _ _ _ (is_met-Decides bytes_eq bytes_eq-Decides r.group f.group) (is_met-Decides beq booleans_Decides r.own f.own)
    (is_met-Decides beq booleans_Decides r.past f.past) (is_set-Decides has_entry f (λ o. MeetsEntry o f.headings f.cells) tt (λ e. has_entry-Decides e f.headings f.cells) r.entry)

int_le-Decides : (a b : ℤ) → Decides (int_le a b) (a ≤ℤ b)
int_le-Decides (pos a) (pos b) = (λ e. omega (arith, ints, leb-true a b e), λ h. le-leb a b (omega (arith, ints, h)))
int_le-Decides (pos a) (negsuc b) = (λ e. absurd (false≢true e), λ h. absurd (omega (arith, ints, h)))
int_le-Decides (negsuc a) (pos b) = (λ e. omega (arith, ints), λ h. refl)
int_le-Decides (negsuc a) (negsuc b) = (λ e. omega (arith, ints, leb-true b a e), λ h. le-leb b a (omega (arith, ints, h)))

is_in_period-Decides : (p : Period) (n : ℤ) → Decides (is_in_period p n) (IsInPeriod p n)
is_in_period-Decides p n =
    Decides-and _ _ (is_set-Decides int_le n (λ o. NotBefore o n) tt (λ first. int_le-Decides first n) p.from)
    (is_set-Decides (λ last day. int_le day last) n (λ o. NotAfter o n) tt (λ last. int_le-Decides n last) p.until)

pub matches-Decides : (r : Rule) (s : Question) → Decides (matches r s) (Matches r s)
matches-Decides r s =
    Decides-like _ (λ h. (h.0.0.0, h.0.0.1, h.0.0.2, h.0.0.3, h.0.1, h.1)) (λ h. (((h.0, h.1, h.2, h.3), h.4), h.5))
    (Decides-and _ _ (Decides-and _ _ (four-Decides _ _ _ _ (is_met-Decides bytes_eq bytes_eq-Decides r.firm s.firm) (is_met-Decides bytes_eq bytes_eq-Decides r.role s.role)
    (is_met-Decides bytes_eq bytes_eq-Decides r.project s.project) (is_met-Decides (sameb the_verbs) verb-Decides r.verb s.verb)) (is_row_met-Decides r s.row)) (is_in_period-Decides r.period s.day))

-- the decision is that of the first rule that matches
decided_more : (r : Rule) (rules : List Rule) (s : Question) (d : Decision) → ¬ (Matches r s) → IsFirstMatch rules s d → IsFirstMatch (r ∷ rules) s d
decided_more r rules s d apart (inl (before, x, after, e, none, m, is)) = inl (r ∷ before, x, after, ap (λ t. r ∷ t) e, All-cons (λ x. ¬ (Matches x s)) r before apart none, m, is)
decided_more r rules s d apart (inr (none, is)) = inr (All-cons (λ x. ¬ (Matches x s)) r rules apart none, is)

pub decided : (rules : List Rule) (s : Question) → IsFirstMatch rules s (decision_of rules s)
decided [] s = inr (All-nil (λ x. ¬ (Matches x s)), refl)
decided (r ∷ rules) s = elim (cases_Bool (matches r s)) [
  | inl same ↦ inl ([], r, rules, refl, All-nil (λ x. ¬ (Matches x s)), (matches-Decides r s).0 same, rw same)
  | inr other ↦ rw other (decided_more r rules s (decision_of rules s) (not_from_Decides _ (matches-Decides r s) other) (decided rules s))
]

-- no rule that has a number above another is the denial 0
not_zero : (effect : Effect) (n number : ℕ) → n < number → effect_of effect number ≡ Deny 0 → ⊥
not_zero Effects.Permit n number above e = absurd cc
not_zero Effects.Deny n number above e = let is : number ≡ 0 = cc in omega (arith, is, above)

-- where the numbers rise, the denial 0 is that of no rule
pub zero_is_none : (n : ℕ) (rules : List Rule) (s : Question) → IsRisingFrom n rules → decision_of rules s ≡ Deny 0
    → All (λ x. ¬ (Matches x s)) rules
zero_is_none n [] s rising e = All-nil (λ x. ¬ (Matches x s))
zero_is_none n (r ∷ rules) s rising e = elim (cases_Bool (matches r s)) [
  | inl same ↦ absurd (not_zero r.effect n r.number rising.0 (rw same at e))
  | inr other ↦
      All-cons (λ x. ¬ (Matches x s)) r rules (not_from_Decides _ (matches-Decides r s) other)
      (zero_is_none r.number rules s rising.1 (rw other at e))
]

-- where no rule matches, the decision is the denial 0
pub none_is_zero : (rules : List Rule) (s : Question) → All (λ x. ¬ (Matches x s)) rules
    → decision_of rules s ≡ Deny 0
none_is_zero [] s none = refl
none_is_zero (r ∷ rules) s none = elim (cases_Bool (matches r s)) [
  | inl same ↦ absurd (All-head (λ x. ¬ (Matches x s)) r rules none ((matches-Decides r s).0 same))
  | inr other ↦ rw other (none_is_zero rules s (All-tail (λ x. ¬ (Matches x s)) r rules none))
]
