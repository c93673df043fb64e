use Rattle.std.proofs.Common.{ap, ◌∙◌}
use Rattle.ags_links.specs.Lookups.{pairs_of}
use Rattle.ags_links.proofs.ByText.{span_holds}
use Rattle.ags_links.proofs.lookup.span_of.Goals as goal

pub returns : goal.returns
returns c = span_holds c.as_slice-pairs.result.now c.args.lookup.now c.args.text.now (record { first = c.boundary-first.result; end = c.boundary-end.result }) (ap pairs_of c.as_slice-pairs.ensures.value ∙ c.lookup.view_is) c.boundary-first.ensures c.boundary-end.ensures
