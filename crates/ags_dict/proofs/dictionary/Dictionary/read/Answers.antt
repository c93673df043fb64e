use Rattle.std.proofs.Common.{subst, sym}
use Rattle.ags_rows.specs.Findings.{LooseGroups}
use Rattle.ags_dict.proofs.dictionary.Dictionary.read.Goals as goal

pub returns-in-Ok : goal.returns-in-Ok
returns-in-Ok c = record {
  reads = c.of_groups.ensures c.args.bytes.now (subst (LooseGroups c.args.bytes.now) (sym c.groups.ensures) c.in-Ok.ensures.groups);
}
