use Rattle.std.proofs.Common.{◌≡◌, ℕ, List, Option, Some, None, unwrap_or, cond, Bool, length, rules, refl, sym, ap, ◌∙◌, inl, inr, Vec, Global}
use Rattle.std.specs.Option.{option_or}
use Rattle.std.specs.Str.{bytes_eq}
use Rattle.std.specs.BTreeMap.{BTreeMap}
use Rattle.std.specs.BTreeMap.Entry.{map_with_value}
use Rattle.std.proofs.lemmas.Bool.{cases_Bool}
use Rattle.ags_dict.specs.Index.{value_at, NotesFirst}
use Rattle.ags_dict.proofs.Held.{held_noted, same_bytes}
use Rattle.ags_dict.proofs.Ranks.{or_none}
use Rattle.ags_dict.proofs.places.OfGroup.note.Goals as goal

some_or : (o : Option ℕ) (n : ℕ) → Some (unwrap_or o n) ≡ option_or o (Some n)
some_or None n = refl
some_or (Some m) n = refl

-- the heading has the place that it had, or this one
noted : (heading : List ℕ) (rank : ℕ) (old new : BTreeMap (Vec ℕ Global) ℕ)
    → ((h : List ℕ) → value_at new h ≡ cond (bytes_eq heading h) (Some (unwrap_or (value_at old heading) rank)) (value_at old h)) → NotesFirst heading rank old new
noted heading rank old new held h =
    let at = λ (b : Bool). cond b (Some (unwrap_or (value_at old heading) rank)) (value_at old h) in
    elim (cases_Bool (bytes_eq heading h)) [
      | inl y ↦ rw y (held h ∙ ap at y ∙ ap (λ (l : List ℕ). Some (unwrap_or (value_at old l) rank)) (same_bytes heading h y) ∙ some_or (value_at old h) rank)
      | inr n ↦ rw n (held h ∙ ap at n ∙ sym (or_none (value_at old h)))
    ]

pub returns : goal.returns
returns c =
    let heading = c.args.heading.now in
    let old = c.args.self.now.ranks in
    let kept = c.or_insert.result.now in
    let rank = length c.args.self.now.places.items in
    let new = map_with_value c.in_ok-self.field-0 kept in
    let has : kept ≡ unwrap_or (value_at old heading) rank =
    c.or_insert.ensures.value ∙ ap (λ (o : Option ℕ). unwrap_or o c.len-rank.result) (c.in_ok-self.ensures.value ∙ ap (value_at old) c.in_ok-heading.ensures.items)
    ∙ ap (unwrap_or (value_at old heading)) (c.len-rank.ensures ∙ c.args.self.now.places.ok.0) in
    let held : (h : List ℕ) → value_at new h ≡ cond (bytes_eq heading h) (Some (unwrap_or (value_at old heading) rank)) (value_at old h) =
    λ h. held_noted c.in_ok-heading.heading heading old new kept c.in_ok-heading.ensures.items (c.in_ok-self.ensures.update.0 kept) h
    ∙ ap (λ (n : ℕ). cond (bytes_eq heading h) (Some n) (value_at old h)) has in
    let is : NotesFirst heading rank old new = noted heading rank old new held in
    record { places = c.in_ok-push.ensures.items; ranks = λ h. let here = is h in search rules }
