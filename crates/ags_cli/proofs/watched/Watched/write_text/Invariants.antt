use Rattle.std.proofs.Common.{◌≡◌, ℕ, List, ◌++◌, length}
use Rattle.std.specs.Io.KnownBytes.{Appends}
use Rattle.ags_cli.proofs.watched.Watched.write_text.Given as goal

-- what is gone from the rest was taken, and no write failed
abbrev pub invariant-loop-rest : goal.invariant-loop-rest
invariant-loop-rest g l =
    ((done : List ℕ) × (l.initial.text ≡ done ++ l.rest) × Appends (g.W.Write.contents l.initial.self.inner) (g.W.Write.contents l.self.inner) done)
    × (l.self.failed ≡ l.initial.self.failed)

abbrev pub decreases-loop-rest : goal.decreases-loop-rest
decreases-loop-rest g l = length l.rest
