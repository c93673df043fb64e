use Rattle.std.proofs.Common.{◌≡◌, take, map}
use Rattle.ags_rows.specs.Contents.{contents_of}
use Rattle.ags_check.specs.CodeLists.{listed_texts}
use Rattle.ags_check.proofs.rows.code_lists.texts.Given as goal

abbrev pub invariant-loop-group : goal.invariant-loop-group
invariant-loop-group l = map (λ t. t.now) l.texts.items ≡ listed_texts (contents_of (take l.group-index l.groups)) l.name l.heading
