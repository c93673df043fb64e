use Rattle.std.proofs.Common.{◌≡◌, ℕ, List, [], ◌∷◌, ◌++◌, Option, Some, None, unwrap_or, rules, refl, ap, ◌∙◌, Vec, Global}
use Rattle.std.specs.Option.{option_map_or}
use Rattle.std.specs.BTreeMap.Entry.{map_with_value}
use Rattle.ags_dict.specs.Index.{places_at, value_at, NotesPlace}
use Rattle.ags_dict.proofs.Held.{held_noted, place_noted}
use Rattle.ags_dict.proofs.places.PlacesByText.note.Goals as goal

abbrev items : Option (Vec ℕ Global) → List ℕ
items o = option_map_or (λ v. v.items) o []

-- the places that are kept, or none
items_or : (o : Option (Vec ℕ Global)) (none : Vec ℕ Global) → none.items ≡ [] → (unwrap_or o none).items ≡ items o
items_or None none e = e
items_or (Some v) none e = refl

pub returns : goal.returns
returns c =
    let text = c.args.text.now in
    let old = c.args.self.now in
    let pushed = c.push.new.self in
    let new = map_with_value c.in_ok-self.field-0 pushed in
    let before : c.or_insert-places.result.now.items ≡ places_at old text =
    ap (λ (v : Vec ℕ Global). v.items) c.or_insert-places.ensures.value
    ∙ ap (λ (o : Option (Vec ℕ Global)). (unwrap_or o c.new.result).items) (c.in_ok-self.ensures.value ∙ ap (value_at old.held) c.in_ok-text.ensures.items)
    ∙ items_or (value_at old.held text) c.new.result c.new.ensures.items in
    let is : NotesPlace text c.args.place (places_at old) (places_at (record { held = new })) =
    place_noted items text c.args.place old.held new pushed
    (held_noted c.in_ok-text.text text old.held new pushed c.in_ok-text.ensures.items (c.in_ok-self.ensures.update.0 pushed))
    (c.in_ok-push.ensures.items ∙ ap (λ (l : List ℕ). l ++ c.args.place ∷ []) before) in
    λ other. let here = is other in search rules
