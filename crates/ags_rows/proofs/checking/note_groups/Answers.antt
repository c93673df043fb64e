use Rattle.std.proofs.Common.{ℕ, List, map, sym}
use Rattle.ags_rows.specs.declared.rows.Group.{Group}
use Rattle.ags_rows.specs.Collecting.{At, OneOf}
use Rattle.ags_rows.specs.Stands.{group_rules}
use Rattle.ags_rows.specs.Parsing.{IsMet}
use Rattle.ags_rows.proofs.AtPlaces.{at_map}
use Rattle.ags_rows.proofs.Collecting.{among_more, among_all}
use Rattle.ags_rows.proofs.Repeats.{repeat_more, group_same}
use Rattle.ags_rows.proofs.checking.note_groups.Goals as goal

abbrev name_of : Group → List ℕ
name_of group = group.name

pub loop-group-preserved : goal.loop-group-preserved
loop-group-preserved c =
    let groups = c.args.groups.now in
    let names = map name_of groups in
    let group = c.group-item.result in
    let met = c.loop-group.met in
    let before = c.loop-group.invariant in
    let at : At groups c.loop-group.group-index group = (c.loop-group-test.true, sym c.group-item.is) in
    let here = group_same names _ group (IsMet met group.name) _ _ (before.met group.name) c.in_ok-note_group.ensures.noted in
    record {
      met = repeat_more names _ group.name (IsMet met) (IsMet c.note_group.new.met) (at_map name_of groups _ group at) before.met c.in_ok-note_group.ensures.met;
      noted = among_more groups (λ place group. OneOf (group_rules names place group)) _ group _ _ _ at before.noted here;
    }

pub returns : goal.returns
returns c =
    let groups = c.args.groups.now in
    among_all groups (λ place group. OneOf (group_rules (map name_of groups) place group)) _ _ _ c.loop-group-test.false c.loop-group.invariant.noted
