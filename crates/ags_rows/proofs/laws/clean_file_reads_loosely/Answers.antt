use Rattle.ags_rows.proofs.Loosely.{loose_findings, loose_groups}
use Rattle.ags_rows.proofs.laws.clean_file_reads_loosely.Goals as goal

pub returns : goal.returns
returns c = (loose_findings, loose_groups)
