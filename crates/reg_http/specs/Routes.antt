-- The routes of the register, with what each method asks of them: the one table of routes, methods and verbs.
use Rattle.std.specs.Prelude.{ℕ, List, [], ◌∷◌, ◌++◌, Bool, true, false, Option, Some, None, Result, Ok, Err, codes}
use Rattle.std.specs.Prelude.{unwrap_or, ok_or, if◌then◌else◌}
use Rattle.std.specs.Str.{bytes_eq}
use Rattle.matchit.specs.Rows.{RowsOf, param_token}
use Rattle.matchit.specs.Router.{RouteOf}
use Rattle.matchit.specs.Seek.{first}
use Rattle.matchit.specs.Params.{walk, named}
use Rattle.matchit.specs.declared.params.Params.{Params}
use Rattle.reg_http.specs.declared.error.Refusal.{Refusal}
use Rattle.reg_http.specs.declared.error.Refusal.TheVariants.{NoRoute, Method}
use Rattle.reg_http.specs.declared.request.route.Page.{Page}
use Rattle.reg_policy.specs.declared.subject.Verb.{Verb}
use Rattle.reg_policy.specs.declared.subject.Verb.TheVariants.{Check, Deposit, List as Listing, Extract, Withdraw}

-- the pattern up to the project
abbrev pub front : List ℕ
front = codes "/v1/projects/" ++ param_token ∷ []

abbrev pub check_route : RouteOf Page
check_route = record {
  pattern = front ++ codes "/check";
  text = codes "/v1/projects/{project}/check";
  names = (14, 21) ∷ [];
  value = record { post = Some Check; get = None; delete = None };
}

abbrev pub deposits_route : RouteOf Page
deposits_route = record {
  pattern = front ++ codes "/deposits";
  text = codes "/v1/projects/{project}/deposits";
  names = (14, 21) ∷ [];
  value = record { post = Some Deposit; get = Some Listing; delete = None };
}

abbrev pub deposit_route : RouteOf Page
deposit_route = record {
  pattern = front ++ codes "/deposits/" ++ param_token ∷ [];
  text = codes "/v1/projects/{project}/deposits/{number}";
  names = (14, 21) ∷ (33, 39) ∷ [];
  value = record { post = None; get = Some Extract; delete = Some Withdraw };
}

abbrev pub with_pattern : RouteOf Page → List ℕ × RouteOf Page
with_pattern r = (r.pattern, r)

-- the table, in the router's order
abbrev pub table : RowsOf (RouteOf Page)
table = with_pattern check_route ∷ with_pattern deposit_route ∷ with_pattern deposits_route ∷ []

-- a request of this verb has a body: those that are posted
abbrev pub has_body : Verb → Bool
has_body Check = true
has_body Deposit = true
has_body _ = false

-- the route that a path has
abbrev pub route_of : List ℕ → Option (RouteOf Page)
route_of path = first table path

-- what the parameters of a route took from a path
abbrev pub taken : RouteOf Page → List ℕ → List (List ℕ × List ℕ)
taken r path = walk r.pattern r.text path r.names 0 0

-- what the parameters of a match took from its path
abbrev pub taken_by : Params → List (List ℕ × List ℕ)
taken_by params = walk params.pattern.now params.text.now params.path.now params.names.now 0 0

-- what a parameter took, or nothing where the route has none of this name
abbrev pub param : List ℕ → RouteOf Page → List ℕ → List ℕ
param name r path = unwrap_or (named name (taken r path)) []

-- a page, with what its route's parameters took
pub record FoundAt : Type 0 where
  pub page : Page
  pub project : List ℕ
  pub number : List ℕ

abbrev pub page_by : List ℕ → Option (RouteOf Page) → Result FoundAt Refusal
page_by path None = Err NoRoute
page_by path (Some r) = Ok (record {
  page = r.value;
  project = param (codes "project") r path;
  number = param (codes "number") r path;
})

-- the page of a path
abbrev pub page_in : List ℕ → Result FoundAt Refusal
page_in path = page_by path (route_of path)

-- what a method asks of a page; methods are compared by their bytes
abbrev pub method_of : Page → List ℕ → Option Verb
method_of page method =
    if bytes_eq method (codes "POST") then page.post else (
    if bytes_eq method (codes "GET") then page.get else (
    if bytes_eq method (codes "DELETE") then page.delete else None))

abbrev pub verb_in : Page → List ℕ → Result Verb Refusal
verb_in page method = ok_or (method_of page method) Method
