use Rattle.std.proofs.Common.{length, arith, ap, sym}
use Rattle.ags_rows.specs.Collecting.{At, OneOf}
use Rattle.ags_rows.specs.Contents.{contents_of}
use Rattle.ags_rows.proofs.Lemmas.{among_more, among_all}
use Rattle.ags_check.specs.Header.{group_header_rules}
use Rattle.ags_check.proofs.header.note_all_header_rows.Goals as goal

pub loop-group-preserved : goal.loop-group-preserved
loop-group-preserved c =
    let groups = c.args.file.now in
    let group = c.group-item.result in
    let at : At groups c.loop-group.group-index group = rw (← c.groups-groups.ensures) (c.loop-group-test.true, sym c.group-item.is) in
    among_more groups (λ _ g f. OneOf (group_header_rules c.args.given.now c.args.extended.now (contents_of groups) c.args.code g) f) _ group _ _ _
    at c.loop-group.invariant c.in_ok-note_header_rows.ensures

pub returns : goal.returns
returns c =
    let groups = c.args.file.now in
    among_all groups (λ _ g f. OneOf (group_header_rules c.args.given.now c.args.extended.now (contents_of groups) c.args.code g) f) _ _ _
    (omega (arith, c.loop-group-test.false, ap length c.groups-groups.ensures)) c.loop-group.invariant
