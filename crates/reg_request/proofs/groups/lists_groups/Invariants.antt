use Rattle.std.proofs.Common.{◌≡◌, length}
use Rattle.std.specs.List.{list_all}
use Rattle.form_urlencoded.specs.Form.{split}
use Rattle.ags_text.specs.Bytes.{comma}
use Rattle.ags_text.specs.Names.{is_group_name}
use Rattle.reg_request.proofs.groups.lists_groups.Given as goal

abbrev pub invariant-pieces : goal.invariant-pieces
invariant-pieces l = list_all is_group_name (split comma l.text) ≡ list_all is_group_name (split comma l.rest)

abbrev pub decreases-pieces : goal.decreases-pieces
decreases-pieces l = length l.rest
