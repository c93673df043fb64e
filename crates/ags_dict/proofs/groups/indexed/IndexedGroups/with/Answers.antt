use Rattle.std.proofs.Common.{ℕ, List, sym, ap, ◌∙◌}
use Rattle.std.specs.Str.{bytes_eq}
use Rattle.ags_dict.specs.Index.{places_at, is_for}
use Rattle.ags_dict.proofs.Found.{noted}
use Rattle.ags_dict.proofs.groups.indexed.IndexedGroups.with.Goals as goal

pub invariant_of-result : goal.invariant_of-result
invariant_of-result c =
    noted is_for c.self.inside.entries.items c.push.new.self.items c.args.entry (places_at c.self.inside.by_name) (places_at c.note.new.self) c.as_slice.result.now c.len.result
    (λ text. ap (λ (n : List ℕ). bytes_eq n text) (sym c.as_slice.ensures)) (c.len.ensures ∙ c.self.inside.entries.ok.0) c.in_ok-push.ensures.items c.in_ok-note.ensures c.self.invariant
