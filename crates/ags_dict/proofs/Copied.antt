-- Entries that are copied one by one.
use Rattle.std.proofs.Common.{◌≡◌, ℕ, ◌+◌, ◌<◌, ◌≤◌, List, [], ◌∷◌, ◌++◌, length, get_or, take, refl, sym, ap, ◌∙◌}
use Rattle.std.proofs.lemmas.List.{take_all, take_more}
use Rattle.ags_dict.specs.declared.entries.GroupEntry.{GroupEntry}
use Rattle.ags_dict.specs.declared.entries.HeadingEntry.{HeadingEntry}

pub group_same : (entry : GroupEntry) (group parent : List ℕ) → group ≡ entry.group → parent ≡ entry.parent → record { group = group; parent = parent } ≡ entry
group_same entry group parent a b = rw (a, b) refl

pub heading_same : (entry : HeadingEntry) (group heading status : List ℕ) → group ≡ entry.group → heading ≡ entry.heading → status ≡ entry.status → record { group = group; heading = heading; status = status } ≡ entry
heading_same entry group heading status a b d = rw (a, b, d) refl

-- one more
pub copied_more : {X : Type 0} (items copied new : List X) (i : ℕ) (x one : X) → i < length items → copied ≡ take i items → new ≡ copied ++ one ∷ [] → one ≡ x → x ≡ get_or items i x → new ≡ take (i + 1) items
copied_more {X} items copied new i x one lt e h same is =
    h ∙ ap (λ (l : List X). l ++ one ∷ []) e ∙ ap (λ (y : X). take i items ++ y ∷ []) (same ∙ is) ∙ sym (take_more items i x lt)

-- all
pub copied_all : {X : Type 0} (items copied : List X) (i : ℕ) → length items ≤ i → copied ≡ take i items → copied ≡ items
copied_all items copied i le e = e ∙ take_all i items le
