use Rattle.std.proofs.Common.{◌≡◌, ◌++◌, length}
use Rattle.form_urlencoded.specs.Form.{split}
use Rattle.ags_text.specs.Bytes.{comma}
use Rattle.reg_desk.specs.Asked.{names_in}
use Rattle.reg_request.proofs.groups.groups_of.Given as goal

abbrev pub invariant-pieces : goal.invariant-pieces
invariant-pieces l = names_in l.groups.items ++ split comma l.rest ≡ split comma l.text

abbrev pub decreases-pieces : goal.decreases-pieces
decreases-pieces l = length l.rest
