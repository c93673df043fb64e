use Rattle.std.proofs.Common.{◌≡◌, ◌∙◌, ℕ, List, refl, rules}
use Rattle.ags_links.specs.Walks.{StepGraph}
use Rattle.reg_store.proofs.plain.copy_graph.Goals as goal

-- graphs of the same rows and steps
same : (m n : ℕ) (xs ys : List (ℕ × ℕ)) → m ≡ n → xs ≡ ys → ◌≡◌ {A = StepGraph} (record { rows = m; steps = xs }) (record { rows = n; steps = ys })
same m n xs ys rows steps = rw (rows, steps) refl

pub returns : goal.returns
returns c = same _ _ _ _ (c.in-Some.ensures.value.0 ∙ c.rows.ensures) (c.in-Some.ensures.value.1 ∙ search rules)
