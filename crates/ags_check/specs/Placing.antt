-- Where a rule's finding is: a wrapper for a kind of row puts the line to a fact that knows none.
use Rattle.std.specs.Prelude.{◌≡◌, ℕ, List}
use Rattle.ags_rows.specs.declared.code.Code.{Code}
use Rattle.ags_rows.specs.declared.finding.Finding.{Finding}
use Rattle.ags_rows.specs.declared.rows.Group.{Group}
use Rattle.ags_rows.specs.Collecting.{Notes, Among, OneOf}

-- of the HEADING row; the subject is a heading
abbrev pub AtHeading : Code → (List ℕ → Type 0) → Group → Finding → Type 0
AtHeading code Breaks group found = Breaks found.subject × (found.line ≡ group.heading_line) × (found.code ≡ code)

-- of each name of a list at a line; the subject is the name
abbrev pub AtNames : ℕ → Code → List (List ℕ) → (ℕ → List ℕ → Type 0) → Finding → Type 0
AtNames line code names Breaks found = Among names (λ place name f. Notes line code name (Breaks place name) f) found

-- some item of a list, a group or a heading, breaks one of the rules on it
abbrev pub InSome : {X : Type 0} → List X → (X → List (Finding → Type 0)) → Finding → Type 0
InSome items rules found = Among items (λ _ item f. OneOf (rules item) f) found
