use Rattle.std.proofs.Common.{◌≡◌, ◌++◌, List, reverse, sym, subst, ◌∙◌, ap, arith}
use Rattle.std.specs.List.{flat_map}
use Rattle.std.proofs.lemmas.List.{reverse-reverse}
use Rattle.ags_rows.specs.declared.rows.FileRow.{FileRow}
use Rattle.ags_rows.specs.declared.rows.Group.{Group}
use Rattle.ags_rows.specs.Groups.{rows_of}
use Rattle.ags_rows.specs.Parsing.{BeginsGroup}
use Rattle.ags_rows.proofs.Cuts.{clear_begins, fewer_rows}
use Rattle.ags_rows.proofs.grouping.groups.Goals as goal

pub loop-alloc-init : goal.loop-alloc-init
loop-alloc-init c =
    let rows = c.args.rows.items in
    let back : reverse c.reverse.new.self.items ≡ rows = ap (λ (r : List FileRow). reverse r) c.reverse.ensures.items ∙ reverse-reverse rows in
    record {
      cut = ap (λ (g : List Group). flat_map rows_of g ++ reverse c.reverse.new.self.items) c.new-groups.ensures.items ∙ back;
      begins = subst BeginsGroup (sym back) (clear_begins rows (c.requires.order, c.requires.named));
    }

pub loop-alloc-smaller : goal.loop-alloc-smaller
loop-alloc-smaller c = omega (arith, fewer_rows c.loop-alloc.rest.items c.take_group.new.rows.items c.in_ok-group.group c.in_ok-group.ensures.taken)
