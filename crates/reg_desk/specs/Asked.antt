-- A request with all that it lends, over plain lists.
use Rattle.std.specs.Prelude.{ℕ, ℤ, List, map}
use Rattle.std.specs.Borrow.{Bor}
use Rattle.reg_policy.specs.declared.callers.Caller.{Caller}
use Rattle.reg_desk.specs.declared.request.Request.{Request}
use Rattle.reg_desk.specs.declared.request.Request.TheVariants as requests

-- who asks what, for which project, on which day
pub data Asked : Type 0 where
  deposit : (caller : Caller) (project : List ℕ) (embargo : ℤ) (bytes : List ℕ) (day : ℤ) → Asked
  check : (caller : Caller) (project : List ℕ) (bytes : List ℕ) (day : ℤ) → Asked
  listing : (caller : Caller) (project : List ℕ) (day : ℤ) → Asked
  extract : (caller : Caller) (project : List ℕ) (number : ℕ) (groups : List (List ℕ)) (day : ℤ) → Asked
  withdraw : (caller : Caller) (project : List ℕ) (number : ℕ) (day : ℤ) → Asked

-- the names of the groups that a request asks for
abbrev pub names_in : List (Bor (List ℕ)) → List (List ℕ)
names_in groups = map (λ g. g.now) groups

-- what a request asks
abbrev pub asked : Request → Asked
asked (requests.Deposit caller project embargo bytes day) = deposit caller.now project.now embargo bytes.now day
asked (requests.Check caller project bytes day) = check caller.now project.now bytes.now day
asked (requests.List caller project day) = listing caller.now project.now day
asked (requests.Extract caller project number groups day) =
    extract caller.now project.now number (names_in groups.now) day
asked (requests.Withdraw caller project number day) = withdraw caller.now project.now number day
