-- What is asked, and the request that it makes.
use Rattle.std.specs.Prelude.{ℕ, ℤ, List, [], Option, Some, None}
use Rattle.std.specs.Cow.{cow_str_bytes}
use Rattle.std.specs.declared.borrow.CowStr.{CowStr}
use Rattle.reg_policy.specs.declared.callers.Caller.{Caller}
use Rattle.reg_desk.specs.Asked.{Asked}
use Rattle.reg_desk.specs.Asked as requests
use Rattle.reg_request.specs.Groups.{groups_in}
use Rattle.reg_request.specs.declared.ask.Ask.{Ask}
use Rattle.reg_request.specs.declared.ask.Ask.TheVariants as asks

-- what is asked, without caller, project, day and body
pub data Sought : Type 0 where
  deposit : (embargo : ℤ) → Sought
  check : Sought
  listing : Sought
  extract : (number : ℕ) (groups : List (List ℕ)) → Sought
  withdraw : (number : ℕ) → Sought

-- the request for what is sought: who asks, for which project, on which day, and with which body
abbrev pub asked_by : Sought → Caller → List ℕ → ℤ → List ℕ → Asked
asked_by (deposit embargo) caller project day body = requests.deposit caller project embargo body day
asked_by check caller project day body = requests.check caller project body day
asked_by listing caller project day body = requests.listing caller project day
asked_by (extract number groups) caller project day body = requests.extract caller project number groups day
asked_by (withdraw number) caller project day body = requests.withdraw caller project number day

-- the groups that a text lists, if it was given
abbrev pub groups_at : {Z : Type 0} → Option (CowStr Z) → List (List ℕ)
groups_at None = []
groups_at (Some text) = groups_in (cow_str_bytes text)

-- what is asked, as the code holds it
abbrev pub sought_at : Ask → Sought
sought_at (asks.Deposit embargo) = deposit embargo
sought_at asks.Check = check
sought_at asks.List = listing
sought_at (asks.Extract number groups) = extract number (groups_at groups)
sought_at (asks.Withdraw number) = withdraw number

-- the groups of an extract; other requests have none
abbrev pub groups_sought : Ask → List (List ℕ)
groups_sought (asks.Extract number groups) = groups_at groups
groups_sought _ = []
