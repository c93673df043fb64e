use Rattle.std.proofs.Common.{◌≡◌, ℕ, List, [], ◌∷◌, ◌++◌, Option, Some, None, unwrap_or, cond, Bool, length, rules, refl, sym, ap, ◌∙◌, inl, inr}
use Rattle.std.specs.Option.{option_and_then, option_map_or, option_or}
use Rattle.std.specs.Result.{OnOk}
use Rattle.std.specs.Str.{bytes_eq}
use Rattle.std.specs.BTreeMap.Entry.{map_with_value}
use Rattle.std.proofs.lemmas.Bool.{cases_Bool}
use Rattle.std.proofs.lemmas.Result.{on_ok_weaker}
use Rattle.ags_dict.specs.declared.places.OfGroup.{OfGroup}
use Rattle.ags_dict.specs.declared.places.PlacesByGroup.{PlacesByGroup}
use Rattle.ags_dict.specs.Index.{value_at, group_places, rank_at, NotesPlace, NotesRank, NotesFirst}
use Rattle.ags_dict.proofs.Held.{held_noted, place_noted, same_bytes}
use Rattle.ags_dict.proofs.Ranks.{or_none}
use Rattle.ags_dict.proofs.places.PlacesByGroup.note.Goals as goal

abbrev items : Option OfGroup → List ℕ
items o = option_map_or (λ g. g.places.items) o []

-- the places of a group's entries, or none
items_or : (o : Option OfGroup) (empty : OfGroup) → empty.places.items ≡ [] → (unwrap_or o empty).places.items ≡ items o
items_or None empty e = e
items_or (Some g) empty e = refl

-- the place of a heading in a group's order, or none
rank_or : (o : Option OfGroup) (empty : OfGroup) (h : List ℕ) → value_at empty.ranks h ≡ None
    → value_at (unwrap_or o empty).ranks h ≡ option_and_then (λ (g : OfGroup). value_at g.ranks h) o
rank_or None empty h e = e
rank_or (Some g) empty h e = refl

-- a heading is noted in the order of a group where it is noted in what the map has there
noted : (group heading : List ℕ) (rank : ℕ) (old new : PlacesByGroup) (before after : OfGroup)
    → ((g : List ℕ) → value_at new.held g ≡ cond (bytes_eq group g) (Some after) (value_at old.held g))
    → ((h : List ℕ) → value_at before.ranks h ≡ rank_at old group h) → NotesFirst heading rank before.ranks after.ranks → NotesRank group heading rank old new
noted group heading rank old new before after held was inner g h =
    let at : Option OfGroup → Option ℕ = option_and_then (λ (g : OfGroup). value_at g.ranks h) in
    let there = λ (b : Bool). cond b (Some after) (value_at old.held g) in
    let first : Option ℕ → Option ℕ = λ o. option_or o (cond (bytes_eq heading h) (Some rank) None) in
    elim (cases_Bool (bytes_eq group g)) [
      | inl y ↦ rw y (ap at (held g ∙ ap there y) ∙ inner h ∙ ap first (was h ∙ ap (λ (k : List ℕ). rank_at old k h) (same_bytes group g y)))
      | inr n ↦ rw n (ap at (held g ∙ ap there n) ∙ sym (or_none (rank_at old g h)))
    ]

pub returns : goal.returns
returns c =
    let group = c.args.group.now in
    let heading = c.args.heading.now in
    let old = c.args.self.now in
    let before = c.or_insert-of_group.result.now in
    let after = c.note.new.self in
    let new = map_with_value c.in_ok-self.field-0 after in
    let rank = length (group_places old group) in
    let was : before ≡ unwrap_or (value_at old.held group) c.new.result =
    c.or_insert-of_group.ensures.value ∙ ap (λ (o : Option OfGroup). unwrap_or o c.new.result) (c.in_ok-self.ensures.value ∙ ap (value_at old.held) c.in_ok-group.ensures.items) in
    let placed : before.places.items ≡ group_places old group = ap (λ (g : OfGroup). g.places.items) was ∙ items_or (value_at old.held group) c.new.result c.new.ensures.places in
    let ranked : (h : List ℕ) → value_at before.ranks h ≡ rank_at old group h =
    λ h. ap (λ (g : OfGroup). value_at g.ranks h) was ∙ rank_or (value_at old.held group) c.new.result h (c.new.ensures.ranks h) in
    let held : (g : List ℕ) → value_at new g ≡ cond (bytes_eq group g) (Some after) (value_at old.held g) =
    held_noted c.in_ok-group.group group old.held new after c.in_ok-group.ensures.items (c.in_ok-self.ensures.update.0 after) in
    let places : OnOk c.note.result (NotesPlace group c.args.place (group_places old) (group_places (record { held = new }))) =
    on_ok_weaker c.note.result (λ e. place_noted items group c.args.place old.held new after held (e ∙ ap (λ (l : List ℕ). l ++ c.args.place ∷ []) placed)) c.note.ensures.places in
    let ranks : OnOk c.note.result (NotesRank group heading rank old (record { held = new })) =
    on_ok_weaker c.note.result
    (λ e. noted group heading rank old (record { held = new }) before after held ranked
    (λ h. e h ∙ ap (λ (l : List ℕ). option_or (value_at before.ranks h) (cond (bytes_eq heading h) (Some (length l)) None)) placed)) c.note.ensures.ranks in
    record { places = search rules; ranks = search rules }
