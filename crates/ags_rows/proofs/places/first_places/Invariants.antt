use Rattle.std.proofs.Common.{◌≡◌, ℕ, List, take, map}
use Rattle.ags_rows.specs.Contents.{place_in}
use Rattle.ags_rows.specs.Places.{place_at}
use Rattle.ags_rows.proofs.places.first_places.Given as goal

abbrev pub invariant-loop-place : goal.invariant-loop-place
invariant-loop-place l = (name : List ℕ) → place_at l.first name ≡ place_in (map (λ n. n.now) (take l.place l.names)) name
