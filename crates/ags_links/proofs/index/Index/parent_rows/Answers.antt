use Rattle.std.proofs.Common.{◌≡◌, get_or, sym, subst, ap, ◌∙◌, arith, Vec, ℕ}
use Rattle.std.specs.declared.alloc.Global.{Global}
use Rattle.ags_rows.specs.Collecting.{At}
use Rattle.ags_links.specs.DataRows.{ListsRows}
use Rattle.ags_links.specs.Indexing.{rows_in, IsParentAt}
use Rattle.ags_links.specs.declared.parents.LinkPlaces.{LinkPlaces}
use Rattle.ags_links.specs.ParentRows.{IsInside, IsParentList, part_of}
use Rattle.ags_links.proofs.Inside.{inside_parents, inside_rows, rows_below}
use Rattle.ags_links.proofs.RowLemmas.{one_at, some_at}
use Rattle.ags_links.proofs.index.Index.parent_rows.Goals as goal
use Rattle.ags_links.proofs.index.Index.parent_rows.Goals.{After-index-span}

pub index-links-requires : goal.index-links-requires
index-links-requires c =
    let i = c.self.inside in
    let f = c.args.self.now in
    let lists = inside_parents i.groups.now i.dictionary.now i.rows.items i.families.items i.parents i.spans.items i.firsts.items i.by_key i.by_file_set i.separators f c.self.invariant c.self.view_is in
    let numbered = inside_rows i.groups.now i.dictionary.now i.rows.items i.families.items i.parents i.spans.items i.firsts.items i.by_key i.by_file_set i.separators f c.self.invariant c.self.view_is in
    let at : At i.rows.items c.args.row c.index-kept.result.now = (rows_below i.rows.items (rows_in f) c.args.row numbered c.requires, sym c.index-kept.ensures) in
    let span = some_at i.spans.items c.args.row (omega (arith, at.0, lists.each_has)) in
    omega (arith, (lists.each c.args.row c.index-kept.result.now span.0 at span.1).grouped.0, i.parents.of_groups.ok.0)

-- where the row's parent rows are
list_at : (c : After-index-span) → IsParentList c.args.self.now.entries (rows_in c.args.self.now) c.self.inside.parents c.args.row c.index-kept.result.now c.index-span.result.now
list_at c =
    let i = c.self.inside in
    let f = c.args.self.now in
    let lists = inside_parents i.groups.now i.dictionary.now i.rows.items i.families.items i.parents i.spans.items i.firsts.items i.by_key i.by_file_set i.separators f c.self.invariant c.self.view_is in
    let numbered = inside_rows i.groups.now i.dictionary.now i.rows.items i.families.items i.parents i.spans.items i.firsts.items i.by_key i.by_file_set i.separators f c.self.invariant c.self.view_is in
    let at : At i.rows.items c.args.row c.index-kept.result.now = (rows_below i.rows.items (rows_in f) c.args.row numbered c.requires, sym c.index-kept.ensures) in
    lists.each c.args.row c.index-kept.result.now c.index-span.result.now at (omega (arith, at.0, lists.each_has), sym c.index-span.ensures)

links_same : (c : After-index-span) → (list_at c).links ≡ c.index-links.result.now
links_same c = let list = list_at c in one_at c.self.inside.parents.of_groups.items c.index-kept.result.now.place list.links c.index-links.result.now list.grouped (list.grouped.0, sym c.index-links.ensures)

pub index-requires : goal.index-requires
index-requires c =
    let at = (goal.at.index-requires c).After-index-span in
    omega (arith, (list_at at).stands.0, ap (λ (l : LinkPlaces). l.lookup) (links_same at), c.self.inside.parents.lists.ok.0)

-- the list that is read is the one that they are in
list_same : (c : After-index-span) (v : Vec ℕ Global) → v ≡ get_or c.self.inside.parents.lists.items c.index-links.result.now.lookup v → (list_at c).list.items ≡ v.items
list_same c v e =
    let lists = c.self.inside.parents.lists.items in
    let list = list_at c in
    let at : At lists c.index-links.result.now.lookup list.list = subst (λ (l : LinkPlaces). At lists l.lookup list.list) (links_same c) list.stands in
    ap (λ (w : Vec ℕ Global). w.items) (one_at lists c.index-links.result.now.lookup list.list v at (at.0, sym e))

pub part_of-requires : goal.part_of-requires
part_of-requires c =
    let at = (goal.at.part_of-requires c).After-index-span in
    subst (λ l. IsInside l c.index-span.result.now) (list_same at c.index.result.now c.index.ensures ∙ sym c.deref.ensures.value) (list_at at).inside

pub returns : goal.returns
returns c =
    let at = (goal.at.returns c).After-index-span in
    subst (λ l. ListsRows l (IsParentAt c.args.self.now c.args.row)) (sym (c.part_of.ensures ∙ ap (λ l. part_of l c.index-span.result.now) (c.deref.ensures.value ∙ sym (list_same at c.index.result.now c.index.ensures)))) (list_at at).lists
