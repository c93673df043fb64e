use Rattle.std.proofs.Common.{◌≡◌, ◌∙◌, get_or, map, sym, subst, ap}
use Rattle.std.specs.List.Sorted.{IsStrictlyIncreasing}
use Rattle.ags_links.specs.Families.{HasAmong, HasEntries}
use Rattle.ags_links.specs.Lookups.{found, pairs_of}
use Rattle.ags_links.specs.ParentRows.{HasUsers, IsAskedOf, link_names, text_at}
use Rattle.ags_links.specs.Placing.{row_of}
use Rattle.ags_links.proofs.Finding.{asked_same}
use Rattle.ags_links.proofs.Rising.{rising_nil}
use Rattle.ags_links.proofs.Using.{no_user, none_asked, one_asked, one_user}
use Rattle.ags_links.proofs.parents.lookup_at.Goals as goal

pub returns-in_ok-none-in-empty : goal.returns-in_ok-none-in-empty
returns-in_ok-none-in-empty c =
    let rows = c.args.linked.now.filed.rows.now in
    let of_groups = c.args.linked.now.of_groups.items in
    record {
      rising = λ text. subst IsStrictlyIncreasing (sym (c.in_ok-none-in-empty.ensures text ∙ ap (λ ps. found (pairs_of ps) text) c.new.ensures.items)) rising_nil;
      exact = λ text asked. absurd (none_asked rows of_groups c.args.place text (subst (HasUsers rows of_groups c.args.place) (no_user c.args.users.now c.in-empty.len_below) c.requires.users) asked);
    }

pub returns-in_ok-own-in-len1 : goal.returns-in_ok-own-in-len1
returns-in_ok-own-in-len1 c =
    let rows = c.args.linked.now.filed.rows.now in
    let of_groups = c.args.linked.now.of_groups.items in
    let users = c.args.users.now in
    let n = get_or users 0 0 in
    let row = c.row.result.0.now in
    let k = c.row.result.1.now in
    let Has = HasAmong c.args.links.now.rows.now (map row_of rows) (HasEntries (link_names c.args.links.now)) in
    asked_same c.in_ok-own-in-len1.own (λ text. text_at c.deref.result.now row ≡ text) (IsAskedOf rows of_groups c.args.place) Has Has c.in_ok-own-in-len1.ensures
    (λ text asked. ap (λ ps. text_at ps row) c.deref.ensures.value ∙ one_asked rows of_groups c.args.place n row k text (subst (HasUsers rows of_groups c.args.place) (one_user users c.in-len1.len_at_least c.in-len1.len_below) c.requires.users) c.row.ensures.row c.row.ensures.links asked)
    (λ m text h. h) (λ m text h. h)
