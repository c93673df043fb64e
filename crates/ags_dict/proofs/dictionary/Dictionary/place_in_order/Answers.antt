use Rattle.std.proofs.Common.{ap, ◌∙◌}
use Rattle.ags_rows.specs.Contents.{place_in}
use Rattle.ags_dict.specs.Entries.{Entries, order_of}
use Rattle.ags_dict.proofs.dictionary.Dictionary.place_in_order.Goals as goal

pub returns : goal.returns
returns c = c.place_in_order.ensures ∙ ap (λ (e : Entries). place_in (order_of e c.args.group.now) c.args.heading.now) c.self.view_is
