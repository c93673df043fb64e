use Rattle.std.proofs.Common.{◌≡◌, ◌+◌, ◌-◌, length, take, drop, sym, ap, subst, ◌∙◌, arith}
use Rattle.ags_text.specs.Bytes.{Lacks}
use Rattle.ags_rows.specs.Parsing.{undoubled, with_cell}
use Rattle.ags_rows.proofs.Pieces.{found, lacks_front, undoubled_bare, undoubled_keeps}
use Rattle.ags_rows.proofs.Pieces.{at_quote, first_quote, inner_open, inner_ends, inner_two, two_quoted}
use Rattle.ags_rows.proofs.spelling.read_quoted.Goals as goal
use Rattle.ags_rows.proofs.spelling.read_quoted.Goals.{else-end-text-via-then-end-text+else-text-end-eq34, else-end-text-via-else-end-text}
use Rattle.ags_rows.proofs.spelling.read_quoted.Goals.{then-from-eq0, else-from-eq0+in_ok-undoubled}

pub loop-next-preserved : goal.loop-next-preserved
loop-next-preserved c =
    let t = c.args.text.now in
    let q = at_quote t _ _ c.loop-next.invariant.within c.in-Some.ensures c.loop-next.invariant.so_far in
    let end = c.loop-next.from + c.in-Some.next in
    record {
      within = omega (arith, c.if-end-text.true);
      so_far = inner_two t end c.if-end-text.true q.here c.if-text-end-eq34.true q.so_far;
      quoted = λ some. two_quoted t end c.if-end-text.true q.here;
    }

pub borrowed-cell-requires : goal.borrowed-cell-requires
borrowed-cell-requires c =
    let q = at_quote c.args.text.now _ _ c.loop-next.invariant.within c.in-Some.ensures c.loop-next.invariant.so_far in
    first_quote _ _ _ q c.if-from-eq0.true

pub owned-cell-requires : goal.owned-cell-requires
owned-cell-requires c = λ h.
    let t = c.args.text.now in
    let from = c.loop-next.from in
    let next = c.in-Some.next in
    c.loop-next.invariant.quoted (omega (arith, c.if-from-eq0.false))
    (lacks_front 34 t from next (undoubled_keeps (take (from + next) t) (subst (Lacks 34) c.in_ok-undoubled.ensures h)))

pub returns-else-end-text : goal.returns-else-end-text
returns-else-end-text c =
    let t = c.args.text.now in
    let end = c.loop-next.from + c.in-Some.next in
    let q = at_quote t _ _ c.loop-next.invariant.within c.in-Some.ensures c.loop-next.invariant.so_far in
    let ends = inner_ends t end q.within q.here (λ lt e. elim c.else-end-text.branch [
      | else-end-text-via-then-end-text+else-text-end-eq34 w ↦ w.if-text-end-eq34.false e
      | else-end-text-via-else-end-text w ↦ absurd (omega (arith, lt))
    ]) q.so_far in
    let cell : c.if-from-eq0.cell ≡ undoubled (take end t) = elim c.if-from-eq0.branch [
      | then-from-eq0 w ↦ w.cell-is ∙ w.borrowed-cell.ensures ∙ sym (undoubled_bare (take end t) (first_quote t c.loop-next.from c.in-Some.next q w.if-from-eq0.true))
      | else-from-eq0+in_ok-undoubled w ↦ w.cell-is ∙ w.owned-cell.ensures ∙ w.in_ok-undoubled.ensures
    ] in
    let after = take (length t - (end + 1)) (drop (end + 1) t) in
    ap (λ x. found x after) cell ∙ ap with_cell ends

pub returns : goal.returns
returns c = ap with_cell (inner_open c.args.text.now c.loop-next.from c.in_default.ensures c.loop-next.invariant.so_far)
