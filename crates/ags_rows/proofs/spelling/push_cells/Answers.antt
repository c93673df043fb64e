use Rattle.std.proofs.Common.{ℕ, [], ◌∷◌, ◌++◌, sym, ap, ◌∙◌, append-nil}
use Rattle.std.proofs.lemmas.List.{nil_from_length}
use Rattle.ags_rows.specs.Parsing.{piece_at, undoubled}
use Rattle.ags_rows.proofs.Pieces.{found, lacks_none, lacks_any, with_piece, without_piece}
use Rattle.ags_rows.proofs.Fields.{one_more, read_begin, read_end, read_on, step_none, step_other, step_falls, lacks_return, lacks_feed}
use Rattle.ags_rows.proofs.spelling.push_cells.Goals as goal
use Rattle.ags_rows.proofs.spelling.push_cells.Goals.{then-contains-via-then-contains, then-contains-via-else-contains+then-contains-2}

pub returns-then-contains : goal.returns-then-contains
returns-then-contains c = (
  elim c.then-contains.branch [
    | then-contains-via-then-contains w ↦ λ fields s. lacks_any 13 _ (sym c.contains.ensures.value ∙ w.if-contains.true) (lacks_return c.args.line.now fields s)
    | then-contains-via-else-contains+then-contains-2 w ↦ λ fields s. lacks_any 10 _ (sym w.contains-else-contains.ensures.value ∙ w.if-contains-2.true) (lacks_feed c.args.line.now fields s)
  ],
  ([], sym (append-nil c.args.found.now.items)),
)

pub loop-cell-init : goal.loop-cell-init
loop-cell-init c =
    let line = c.args.line.now in
    read_begin line c.args.found.now.items (lacks_none 13 line (sym c.contains.ensures.value ∙ c.if-contains.false))
    (lacks_none 10 line (sym c.contains-else-contains.ensures.value ∙ c.if-contains-2.false))

pub returns-in_default : goal.returns-in_default
returns-in_default c =
    let rest = c.loop-cell.rest.now in
    let i = c.loop-cell.invariant in
    (step_none c.args.line.now rest i.done i.complete (without_piece (piece_at rest) (rw c.in_default.is at c.in_ok-cell.ensures)), (i.done, i.items))

pub returns-in_default-split_first : goal.returns-in_default-split_first
returns-in_default-split_first c =
    let rest = c.loop-cell.rest.now in
    let p = with_piece (piece_at rest) c.in-Some.cell c.in-Some.after.now (rw c.in-Some.is at c.in_ok-cell.ensures) in
    let piece = p.1 ∙ ap (found p.0) (nil_from_length c.in-Some.after.now c.in_default-split_first.ensures.cases) in
    read_end c.args.line.now rest p.0 c.args.found.now.items c.loop-cell.found.items c.push.new.self.items c.loop-cell.invariant piece
    (rw p.2 at c.in_ok-push.ensures.items)

pub returns-then-next-ne44 : goal.returns-then-next-ne44
returns-then-next-ne44 c =
    let rest = c.loop-cell.rest.now in
    let more = c.in-Some-split_first.more.now in
    let next = c.in-Some-split_first.next.now in
    let i = c.loop-cell.invariant in
    let p = with_piece (piece_at rest) c.in-Some.cell c.in-Some.after.now (rw c.in-Some.is at c.in_ok-cell.ensures) in
    let piece = p.1 ∙ ap (found p.0) c.in-Some-split_first.ensures.cases.0 in (
      step_other c.args.line.now rest p.0 more next i.done i.complete piece c.if-next-ne44.true,
      (
        i.done ++ undoubled p.0 ∷ [],
        one_more c.args.found.now.items i.done c.loop-cell.found.items c.push.new.self.items (undoubled p.0) i.items (rw p.2 at c.in_ok-push.ensures.items),
      ),
    )

pub loop-cell-smaller : goal.loop-cell-smaller
loop-cell-smaller c =
    let i = c.loop-cell.invariant in
    let rest = c.loop-cell.rest.now in
    let more = c.in-Some-split_first.more.now in
    let p = with_piece (piece_at rest) c.in-Some.cell c.in-Some.after.now (rw c.in-Some.is at c.in_ok-cell.ensures) in
    let after = c.in-Some-split_first.ensures.cases.0 ∙ ap (λ (b : ℕ). b ∷ more) c.if-next-ne44.false in
    step_falls rest p.0 more i.no_return i.no_feed (p.1 ∙ ap (found p.0) after)

pub loop-cell-preserved : goal.loop-cell-preserved
loop-cell-preserved c =
    let rest = c.loop-cell.rest.now in
    let more = c.in-Some-split_first.more.now in
    let p = with_piece (piece_at rest) c.in-Some.cell c.in-Some.after.now (rw c.in-Some.is at c.in_ok-cell.ensures) in
    let piece = p.1 ∙ ap (found p.0) (c.in-Some-split_first.ensures.cases.0 ∙ ap (λ (b : ℕ). b ∷ more) c.if-next-ne44.false) in
    read_on c.args.line.now rest p.0 more c.args.found.now.items c.loop-cell.found.items c.push.new.self.items c.loop-cell.invariant piece
    (rw p.2 at c.in_ok-push.ensures.items)
