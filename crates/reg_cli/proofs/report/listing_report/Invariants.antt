use Rattle.std.proofs.Common.{take}
use Rattle.reg_cli.specs.Printing.{ListsAs}
use Rattle.reg_cli.proofs.report.listing_report.Given as goal

abbrev pub invariant-loop-listed : goal.invariant-loop-listed
invariant-loop-listed l = ListsAs (take l.listed-index l.listing) l.text.items
