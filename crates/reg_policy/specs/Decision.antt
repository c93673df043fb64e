-- Which rule of a policy decides.
use Rattle.std.specs.Prelude.{◌≡◌, ◌⊎◌, ℕ, List, [], ◌∷◌, ◌++◌, Bool, true, ◌&&◌, if◌then◌else◌, is_none, Option, Some, None, slice_get, ℤ, ◌≤ℤ◌, int_le}
use Rattle.std.specs.Bool.{beq}
use Rattle.std.specs.List.{All, list_any, zip}
use Rattle.std.specs.Str.{bytes_eq}
use denote.Enum.Bare.{sameb}
use Rattle.reg_policy.specs.contracts.subject.Verb.{the_type as the_verbs}
use Rattle.reg_policy.specs.declared.subject.Verb.{Verb}
use Rattle.reg_policy.specs.declared.subject.Verb.TheVariants.{See}
use Rattle.reg_policy.specs.declared.callers.Caller.{Caller}
use Rattle.reg_policy.specs.declared.subject.RowFacts.{RowFacts}
use Rattle.reg_policy.specs.declared.subject.Decision.{Decision}
use Rattle.reg_policy.specs.declared.subject.Decision.TheVariants.{Permit, Deny}
use Rattle.reg_policy.specs.declared.period.Period.{Period}
use Rattle.reg_policy.specs.declared.rule.WantedEntry.{WantedEntry}
use Rattle.reg_policy.specs.declared.rule.Rule.{Rule}
use Rattle.reg_policy.specs.declared.rule.Effect.{Effect}
use Rattle.reg_policy.specs.declared.rule.Effect.TheVariants as Effects

-- What is known of a row that is to be seen.
pub record Facts : Type 0 where
  pub group : List ℕ
  pub own : Bool
  pub past : Bool
  pub headings : List (List ℕ)
  pub cells : List (List ℕ)

-- What a policy is asked: who wants to do what in which project on which day, and the row, where one is to be seen.
pub record Question : Type 0 where
  pub firm : List ℕ
  pub role : List ℕ
  pub project : List ℕ
  pub verb : Verb
  pub row : Option Facts
  pub day : ℤ

-- what a program knows of a row
abbrev pub facts_of : RowFacts → Facts
facts_of row =
    record { group = row.group.now; own = row.own; past = row.past; headings = row.headings.now; cells = row.cells.now }

-- a caller's request: it has no row
abbrev pub request_question : Caller → List ℕ → Verb → ℤ → Question
request_question caller project verb day =
    record { firm = caller.firm; role = caller.role; project = project; verb = verb; row = None; day = day }

-- that a caller wants to see a row
abbrev pub row_question : Caller → List ℕ → Facts → ℤ → Question
row_question caller project row day =
    record { firm = caller.firm; role = caller.role; project = project; verb = See; row = Some row; day = day }

-- what a rule sets is equal to what is asked; what it does not set matches all
abbrev pub Meets : {A : Type 0} → Option A → A → Type 0
Meets None asked = Unit {0}
Meets (Some set) asked = set ≡ asked

-- at some place the row has the heading, and exactly the value
abbrev pub HasEntry : WantedEntry → List (List ℕ) → List (List ℕ) → Type 0
HasEntry entry headings cells =
    (place : ℕ) × (slice_get headings place ≡ Some entry.heading) × (slice_get cells place ≡ Some entry.value)

abbrev pub MeetsEntry : Option WantedEntry → List (List ℕ) → List (List ℕ) → Type 0
MeetsEntry None headings cells = Unit {0}
MeetsEntry (Some entry) headings cells = HasEntry entry headings cells

-- A request without a row is met only by a rule that sets nothing of a row.
abbrev pub MeetsRow : Rule → Option Facts → Type 0
MeetsRow r None = (r.group ≡ None) × (r.own ≡ None) × (r.past ≡ None) × (r.entry ≡ None)
MeetsRow r (Some row) =
    Meets r.group row.group × Meets r.own row.own × Meets r.past row.past × MeetsEntry r.entry row.headings row.cells

-- the day is not before the first, where one is set
abbrev pub NotBefore : Option ℤ → ℤ → Type 0
NotBefore None day = Unit {0}
NotBefore (Some first) day = first ≤ℤ day

-- the day is not after the last, where one is set
abbrev pub NotAfter : Option ℤ → ℤ → Type 0
NotAfter None day = Unit {0}
NotAfter (Some last) day = day ≤ℤ last

-- The day is not before the period's first day and not after its last.
abbrev pub IsInPeriod : Period → ℤ → Type 0
IsInPeriod period day = NotBefore period.from day × NotAfter period.until day

-- The rule matches what is asked: all that it sets is so.
abbrev pub Matches : Rule → Question → Type 0
Matches r asked =
    Meets r.firm asked.firm × Meets r.role asked.role × Meets r.project asked.project × Meets r.verb asked.verb
    × MeetsRow r asked.row × IsInPeriod r.period asked.day

-- the decision that a rule states
abbrev pub effect_of : Effect → ℕ → Decision
effect_of Effects.Permit number = Permit number
effect_of Effects.Deny number = Deny number

-- decision is that of the first rule that matches, or the denial 0 where none does
abbrev pub IsFirstMatch : List Rule → Question → Decision → Type 0
IsFirstMatch rules asked decision =
    ((before : List Rule) × (r : Rule) × (others : List Rule) × (rules ≡ before ++ r ∷ others)
    × All (λ x. ¬ (Matches x asked)) before × Matches r asked × (decision ≡ effect_of r.effect r.number))
    ⊎ (All (λ x. ¬ (Matches x asked)) rules × (decision ≡ Deny 0))

-- ---- the tests of these relations, from which a decision is computed

-- what a rule sets passes the test `same` with what is asked; what it does not set matches all
abbrev pub is_met : {A B : Type 0} → (A → B → Bool) → Option A → B → Bool
is_met same None asked = true
is_met same (Some set) asked = same set asked

-- at some place the row has the heading, and exactly the value
abbrev pub has_entry : WantedEntry → Facts → Bool
has_entry entry row =
    list_any (λ (heading, cell). bytes_eq heading entry.heading && bytes_eq cell entry.value)
    (zip row.headings row.cells)

-- A request without a row is met only by a rule that sets nothing of a row.
abbrev pub is_row_met : Rule → Option Facts → Bool
is_row_met r None = is_none r.group && is_none r.own && is_none r.past && is_none r.entry
is_row_met r (Some row) =
    is_met bytes_eq r.group row.group && is_met beq r.own row.own && is_met beq r.past row.past
    && is_met has_entry r.entry row

-- the day is not before the period's first day and not after its last
abbrev pub is_in_period : Period → ℤ → Bool
is_in_period period day = is_met int_le period.from day && is_met (λ last n. int_le n last) period.until day

-- The rule matches what is asked: all that it sets is so. `sameb the_verbs` tells whether two verbs are one.
abbrev pub matches : Rule → Question → Bool
matches r asked =
    is_met bytes_eq r.firm asked.firm && is_met bytes_eq r.role asked.role && is_met bytes_eq r.project asked.project
    && is_met (sameb the_verbs) r.verb asked.verb && is_row_met r asked.row && is_in_period r.period asked.day

-- The decision: the effect and number of the first rule that matches, or the denial 0.
abbrev pub decision_of : List Rule → Question → Decision
decision_of [] asked = Deny 0
decision_of (r ∷ rules) asked = if matches r asked then effect_of r.effect r.number else decision_of rules asked
