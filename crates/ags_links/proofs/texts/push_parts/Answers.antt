use Rattle.std.proofs.Common.{◌≡◌, ◌++◌, ◌∷◌, [], ap, ◌∙◌, sym, Bor, List, ℕ, length, take, drop, refl, ◌+◌, ◌-◌}
use Rattle.ags_rows.specs.Parts.{parts_at}
use Rattle.std.proofs.lemmas.List.{map-append}
use Rattle.ags_links.proofs.Cutting.{part_taken, part_left}
use Rattle.ags_links.proofs.Kept.{texts}
use Rattle.ags_links.proofs.texts.push_parts.Goals as goal

pushed : (old new : List (Bor (List ℕ))) (p : Bor (List ℕ)) → new ≡ old ++ p ∷ [] → texts new ≡ texts old ++ p.now ∷ []
pushed old new p e = ap texts e ∙ map-append (λ (p : Bor (List ℕ)). p.now) old (p ∷ [])

pub cutting-preserved : goal.cutting-preserved
cutting-preserved c =
    let rest = c.cutting.rest.now in
    let k = c.in-Some.place in
    let s = c.args.separator in
    ap (λ l. l ++ parts_at s (take (length rest - (k + 1)) (drop (k + 1) rest))) (pushed c.cutting.out.items c.push.new.self.items _ c.in_ok-push.ensures.items)
    ∙ part_taken s (texts c.cutting.out.items) rest (texts c.args.out.now.items ++ parts_at s c.args.text.now) (take k rest) k (sym c.find_byte.ensures.place ∙ c.in-Some.is) refl c.cutting.invariant

pub returns : goal.returns
returns c =
    pushed c.cutting.out.items c.push-2.new.self.items _ c.in_ok-push-2.ensures.items
    ∙ part_left c.args.separator (texts c.cutting.out.items) c.cutting.rest.now (texts c.args.out.now.items ++ parts_at c.args.separator c.args.text.now) (sym c.find_byte.ensures.place ∙ c.in_default.is) c.cutting.invariant
