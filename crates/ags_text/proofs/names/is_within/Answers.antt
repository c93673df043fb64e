use Rattle.std.proofs.Common.{Bool, length, ap, sym, ◌∙◌}
use Rattle.std.specs.Prelude.{◌&&◌, nat_le}
use Rattle.std.proofs.lemmas.Bool.{lt-leb}
use Rattle.ags_text.proofs.names.is_within.Goals as goal

pub returns-else-text-ge1 : goal.returns-else-text-ge1
returns-else-text-ge1 c =
    let none = lt-leb 1 (length c.args.text.now) c.if-text-ge1.false in
    none ∙ ap (λ (b : Bool). b && nat_le (length c.args.text.now) c.args.most) (sym none)
