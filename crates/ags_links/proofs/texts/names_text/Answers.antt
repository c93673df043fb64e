use Rattle.std.proofs.Common.{◌++◌, ap, ◌∙◌, sym, Bor, List, ℕ}
use Rattle.ags_links.specs.KeyTexts.{ended_text}
use Rattle.std.proofs.lemmas.List.Folds.{flat_map-map}
use Rattle.ags_links.proofs.Growing.{grow_all, grow_more}
use Rattle.ags_links.proofs.texts.names_text.Goals as goal

pub returns : goal.returns
returns c =
    let others = c.args.others.now in
    let now : Bor (List ℕ) → List ℕ = λ n. n.now in
    grow_all (λ (n : Bor (List ℕ)). ended_text n.now) (ended_text c.args.first.now) c.loop-name.text.items others c.loop-name.name-index c.loop-name-test.false c.loop-name.invariant
    ∙ ap (λ l. ended_text c.args.first.now ++ l) (sym (flat_map-map ended_text now others))

pub loop-name-preserved : goal.loop-name-preserved
loop-name-preserved c =
    grow_more (λ (n : Bor (List ℕ)). ended_text n.now) (ended_text c.args.first.now) c.loop-name.text.items c.push_text-in-loop-name.new.out.items c.args.others.now c.loop-name.name-index _ c.loop-name-test.true c.loop-name.invariant c.in_ok-push_text-2.ensures
