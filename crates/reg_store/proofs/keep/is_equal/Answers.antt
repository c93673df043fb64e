use Rattle.std.proofs.Common.{◌≡◌, ◌&&◌, true, rules}
use Rattle.std.specs.Str.{bytes_eq}
use Rattle.std.proofs.lemmas.Bool.{and_parts}
use Rattle.reg_store.proofs.keep.is_equal.Goals as goal
use Rattle.reg_store.proofs.keep.is_equal.Goals.{then-eq, else-eq}

pub returns-then-eq-2 : goal.returns-then-eq-2
returns-then-eq-2 c =
    let kept = c.args.kept.now in
    let both : (bytes_eq kept.firm c.args.firm.now && bytes_eq kept.project c.args.project.now) ≡ true = elim c.if-eq.branch [
      | then-eq w ↦ rw (← c.eq.ensures, w.if-eq.true, ← w.eq-then-eq.ensures, ← w.value-is) c.if-eq-2.true
      | else-eq w ↦ absurd cc
    ] in
    let same = and_parts (bytes_eq kept.firm c.args.firm.now) (bytes_eq kept.project c.args.project.now) both in
    rw (same.0, same.1) (search rules)
