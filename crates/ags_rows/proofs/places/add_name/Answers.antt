use Rattle.std.proofs.Common.{◌∙◌, sym}
use Rattle.ags_rows.proofs.FirstPlaces.{added}
use Rattle.ags_rows.proofs.places.add_name.Goals as goal

pub returns-in_ok-insert : goal.returns-in_ok-insert
returns-in_ok-insert c =
    added c.args.name.now c.args.place c.args.first.now c.insert.new.self (sym c.contains_key.ensures ∙ c.if-not-contains_key.true) c.in_ok-insert.ensures.updates
