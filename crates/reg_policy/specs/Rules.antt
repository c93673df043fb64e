-- The rules that a policy's document has.
use Rattle.std.specs.Prelude.{◌≡◌, ◌≢◌, ◌⊎◌, ℕ, ◌<◌, ◌≤◌, List, [], ◌∷◌, codes, Bool, true, false, Option, Some, None, Result, Ok, Err, ℤ, pos, IsTrue}
use Rattle.toml.specs.Data.{Data, string, integer, Members, get_member}
use Rattle.ags_text.specs.Names.{is_group_name, is_heading_name}
use Rattle.reg_policy.specs.Days.{Writes, is_day_number}
use Rattle.reg_policy.specs.Decision.{NotAfter}
use Rattle.reg_policy.specs.Documents.{IsListOf, IsRefused}
use Rattle.reg_policy.specs.Names.{is_name, verb_text}
use Rattle.reg_policy.specs.declared.period.Period.{Period}
use Rattle.reg_policy.specs.declared.rule.WantedEntry.{WantedEntry}
use Rattle.reg_policy.specs.declared.rule.Rule.{Rule}
use Rattle.reg_policy.specs.declared.rule.Effect.{Effect}
use Rattle.reg_policy.specs.declared.rule.Effect.TheVariants.{Permit, Deny}
use Rattle.reg_policy.specs.declared.subject.Verb.{Verb}
use Rattle.reg_policy.specs.declared.error.ReadError.{ReadError}
use Rattle.reg_policy.specs.declared.error.ReadError.TheVariants as ReadErrors
use Rattle.reg_policy.specs.declared.error.PolicyError.{PolicyError}
use Rattle.reg_policy.specs.declared.error.PolicyError.TheVariants.{Syntax, UnknownKey, BadValue, Order, NoMemory}

-- the array of a policy, and the keys of a rule
abbrev pub rule_key : List ℕ
rule_key = codes "rule"

abbrev pub rule_keys : List (List ℕ)
rule_keys = codes "number" ∷ codes "effect" ∷ codes "firm" ∷ codes "role" ∷ codes "project" ∷ codes "verb"
    ∷ codes "group" ∷ codes "owner" ∷ codes "embargo" ∷ codes "heading" ∷ codes "value"
    ∷ codes "from" ∷ codes "until" ∷ []

-- What a key sets that may be `*`: nothing where it is absent or `*`, else what its word means by Means.
abbrev pub IsSettingOf : {A : Type 0} → (List ℕ → A → Type 0) → Option Data → Option A → Type 0
IsSettingOf Means None set = set ≡ None
IsSettingOf {A} Means (Some (string s)) set =
    ((s ≡ codes "*") × (set ≡ None)) ⊎ ((s ≢ codes "*") × (a : A) × Means s a × (set ≡ Some a))
IsSettingOf Means (Some d) set = ⊥

-- a word that passes is itself
abbrev pub IsWord : (List ℕ → Bool) → List ℕ → List ℕ → Type 0
IsWord passes s a = IsTrue (passes s) × (a ≡ s)

abbrev pub IsVerb : List ℕ → Verb → Type 0
IsVerb s verb = s ≡ verb_text verb

-- one of two words: the first says yes, the second no
abbrev pub IsEither : List ℕ → List ℕ → List ℕ → Bool → Type 0
IsEither word other s true = s ≡ word
IsEither word other s false = s ≡ other

-- the number of a rule: from 1 to 9999
abbrev pub IsNumber : Option Data → ℕ → Type 0
IsNumber value n = (value ≡ Some (integer (pos n))) × (1 ≤ n) × (n ≤ 9999)

abbrev pub effect_text : Effect → List ℕ
effect_text Permit = codes "permit"
effect_text Deny = codes "deny"

abbrev pub IsEffect : Option Data → Effect → Type 0
IsEffect value effect = value ≡ Some (string (effect_text effect))

-- a heading (Rule 19a) and any text: both or neither
abbrev pub IsEntry : Option Data → Option Data → Option WantedEntry → Type 0
IsEntry None None set = set ≡ None
IsEntry (Some (string heading)) (Some (string value)) (Some entry) =
    IsTrue (is_heading_name heading) × (entry.heading ≡ heading) × (entry.value ≡ value)
IsEntry heading value set = ⊥

-- the same, of a table's keys `heading` and `value`
abbrev pub IsEntryIn : Members → Option WantedEntry → Type 0
IsEntryIn table set = IsEntry (get_member (codes "heading") table) (get_member (codes "value") table) set

-- the day that a key sets: none where the key is absent, else the one that its text writes
abbrev pub IsDayAt : Option Data → Option ℤ → Type 0
IsDayAt None set = set ≡ None
IsDayAt (Some (string s)) (Some day) = Writes s day × IsTrue (is_day_number day)
IsDayAt value set = ⊥

-- the last day is not before the first, where both are set
abbrev pub IsInOrder : Period → Type 0
IsInOrder period = (first : ℤ) → period.from ≡ Some first → NotAfter period.until first

-- a table's keys `from` and `until`
pub record IsPeriodIn (table : Members) (period : Period) : Type 0 where
  pub from : IsDayAt (get_member (codes "from") table) period.from
  pub until : IsDayAt (get_member (codes "until") table) period.until
  pub in_order : IsInOrder period

-- The rule that a table has, key by key.
pub record IsRule (table : Members) (r : Rule) : Type 0 where
  pub number : IsNumber (get_member (codes "number") table) r.number
  pub effect : IsEffect (get_member (codes "effect") table) r.effect
  pub firm : IsSettingOf (IsWord is_name) (get_member (codes "firm") table) r.firm
  pub role : IsSettingOf (IsWord is_name) (get_member (codes "role") table) r.role
  pub project : IsSettingOf (IsWord is_name) (get_member (codes "project") table) r.project
  pub verb : IsSettingOf IsVerb (get_member (codes "verb") table) r.verb
  pub group : IsSettingOf (IsWord is_group_name) (get_member (codes "group") table) r.group
  pub own : IsSettingOf (IsEither (codes "own") (codes "other")) (get_member (codes "owner") table) r.own
  pub past : IsSettingOf (IsEither (codes "past") (codes "running")) (get_member (codes "embargo") table) r.past
  pub entry : IsEntryIn table r.entry
  pub period : IsPeriodIn table r.period

-- the numbers rise strictly, the first above n
abbrev pub IsRisingFrom : ℕ → List Rule → Type 0
IsRisingFrom n [] = Unit {0}
IsRisingFrom n (r ∷ rules) = (n < r.number) × IsRisingFrom r.number rules

-- The text is a document with these rules.
abbrev pub HasRules : List ℕ → List Rule → Type 0
HasRules text rules = IsListOf rule_key rule_keys IsRule text rules

-- what a refusal of a document is for a policy
abbrev pub policy_error : ReadError → PolicyError
policy_error ReadErrors.Syntax = Syntax
policy_error ReadErrors.UnknownKey = UnknownKey
policy_error ReadErrors.BadValue = BadValue
policy_error ReadErrors.NoMemory = NoMemory

-- What reading a policy gives: its rules, or the first refusal that holds of the whole document.
abbrev pub ReadsPolicy : List ℕ → Result (List Rule) PolicyError → Type 0
-- a document of rules whose numbers rise
ReadsPolicy text (Ok rules) = HasRules text rules × IsRisingFrom 0 rules
-- no TOML document
ReadsPolicy text (Err Syntax) = IsRefused rule_key rule_keys IsRule text ReadErrors.Syntax
-- a document with a key other than these
ReadsPolicy text (Err UnknownKey) = IsRefused rule_key rule_keys IsRule text ReadErrors.UnknownKey
-- of these keys alone, but the array is no list of rules: a value that its key may not have, a key that is missing,
-- a heading without a value, or a last day before the first
ReadsPolicy text (Err BadValue) = IsRefused rule_key rule_keys IsRule text ReadErrors.BadValue
-- a document of rules, but a number is not above that of the rule before
ReadsPolicy text (Err Order) = (rules : List Rule) × HasRules text rules × ¬ (IsRisingFrom 0 rules)
-- memory was refused, which says nothing of the text
ReadsPolicy text (Err NoMemory) = Unit {0}
