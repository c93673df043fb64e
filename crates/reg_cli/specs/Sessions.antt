-- The day of a session, and what it requests.
use Rattle.std.specs.Prelude.{◌≡◌, ℕ, ℤ, List, Option, Some, MatchOption}
use Rattle.std.specs.Borrow.{Bor}
use Rattle.reg_policy.specs.Days.{day_of}
use Rattle.reg_desk.specs.Asked.{Asked}
use Rattle.reg_request.specs.Asks.{asked_by, sought_at}
use Rattle.reg_request.specs.declared.ask.Ask.{Ask}
use Rattle.reg_cli.specs.declared.session.Session.{Session}

-- the day is the one that a text writes, or the other one where there is no text
abbrev pub IsDayOr : Option (Bor (List ℕ)) → Option ℤ → ℤ → Type 0
IsDayOr text other day = MatchOption text (other ≡ Some day) (λ given. day_of given.now ≡ Some day)

-- what is asked, with this file, requested by the caller, for the project and on the day of the session
abbrev pub request_in : Session → Ask → List ℕ → Asked
request_in session ask file = asked_by (sought_at ask) session.caller.now session.project session.day file
