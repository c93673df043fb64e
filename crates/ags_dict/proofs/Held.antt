-- Maps from texts: what a change at one text leaves at any text.
use Rattle.std.proofs.Common.{◌≡◌, ℕ, List, [], ◌∷◌, ◌++◌, Bool, true, false, cond, Option, Some, sym, ap, subst, ◌∙◌, inl, inr, ⊎_elim}
use Rattle.std.specs.Ordering.{is_eq, nat_cmp}
use Rattle.std.specs.Cmp.{eq_by_cmp_equiv}
use Rattle.std.specs.Cmp.Lexicographic.{slice_cmp, bytes_decides, nat_list_cmp_total, nat_list_eq_equiv}
use Rattle.std.specs.Str.{bytes_eq}
use Rattle.std.specs.BTreeMap.{BTreeMap, UpdatesBy}
use Rattle.std.specs.Map.{lookup, IsKeyTest, AreApart, KeepsOthers}
use Rattle.std.specs.declared.alloc.Global.{Global}
use Rattle.std.specs.declared.vec.Vec.{Vec}
use Rattle.std.proofs.lemmas.Bool.{cases_Bool, cond-true, cond-false}
use Rattle.std.proofs.lemmas.Map.Text.{is_eq-slice_cmp}
use Rattle.ags_dict.specs.Index.{value_at, NotesPlace}

-- bytes that are equal by `bytes_eq` are the same
pub same_bytes : (xs ys : List ℕ) → bytes_eq xs ys ≡ true → xs ≡ ys
same_bytes xs ys e = (bytes_decides xs ys).0 e

apart : (bs cs ks : List ℕ) → bytes_eq bs cs ≡ false → bytes_eq bs ks ≡ true → bytes_eq cs ks ≡ false
apart bs cs ks n y = nat_list_eq_equiv.symm cs ks ∙ sym (nat_list_eq_equiv.congr bs ks cs y) ∙ n

apart_in_order : (bs cs ks : List ℕ) → bytes_eq bs cs ≡ false → is_eq (slice_cmp nat_cmp bs ks) ≡ true → is_eq (slice_cmp nat_cmp cs ks) ≡ false
apart_in_order bs cs ks n y = is_eq-slice_cmp cs ks ∙ apart bs cs ks n (sym (is_eq-slice_cmp bs ks) ∙ y)

other_entries : {K X : Type 0} (eq : K → K → Bool) (test : K → Bool) (old new : List (K × X)) → KeepsOthers eq test old new
    → (other : K → Bool) → IsKeyTest eq other → AreApart test other → lookup other new ≡ lookup other old
unfolding KeepsOthers
other_entries eq test old new h = h

-- g is w at bs, and f at other bytes
by_bytes : {W : Type 0} (f g : List ℕ → W) (bs : List ℕ) (w : W) → g bs ≡ w → ((cs : List ℕ) → bytes_eq bs cs ≡ false → g cs ≡ f cs)
    → (cs : List ℕ) → g cs ≡ cond (bytes_eq bs cs) w (f cs)
by_bytes f g bs w here other cs =
    ⊎_elim
    (λ y. subst (λ l. g l ≡ w) (same_bytes bs cs y) here ∙ sym (cond-true (bytes_eq bs cs) w (f cs) y))
    (λ n. other cs n ∙ sym (cond-false (bytes_eq bs cs) w (f cs) n))
    (cases_Bool (bytes_eq bs cs))

-- what a map has at cs after a change at bs
pub held_updates : {X : Type 0} (bs : List ℕ) (m n : BTreeMap (Vec ℕ Global) X) (w : Option X)
    → UpdatesBy (λ x y. slice_cmp nat_cmp x.items y.items) (λ k. slice_cmp nat_cmp bs k.items) m n w
    → (cs : List ℕ) → value_at n cs ≡ cond (bytes_eq bs cs) w (value_at m cs)
held_updates bs m n w h =
    by_bytes (value_at m) (value_at n) bs w h.1
    (λ cs e. other_entries _ _ _ _ h.3 _ (λ x y. (eq_by_cmp_equiv nat_list_cmp_total).congr cs x.items y.items) (λ k. apart_in_order bs cs k.items e))

-- what a map has after a change at the key of a text
pub held_noted : {X : Type 0} (key : Vec ℕ Global) (bs : List ℕ) (m n : BTreeMap (Vec ℕ Global) X) (w : X) → key.items ≡ bs
    → UpdatesBy (λ x y. slice_cmp nat_cmp x.items y.items) (λ k. slice_cmp nat_cmp key.items k.items) m n (Some w)
    → (cs : List ℕ) → value_at n cs ≡ cond (bytes_eq bs cs) (Some w) (value_at m cs)
held_noted key bs m n w same h cs =
    held_updates key.items m n (Some w) h cs ∙ ap (λ (b : List ℕ). cond (bytes_eq b cs) (Some w) (value_at m cs)) same

-- a place is noted at a text where it is noted in what the map has there
pub place_noted : {X : Type 0} (places : Option X → List ℕ) (text : List ℕ) (place : ℕ) (old new : BTreeMap (Vec ℕ Global) X) (after : X)
    → ((other : List ℕ) → value_at new other ≡ cond (bytes_eq text other) (Some after) (value_at old other))
    → places (Some after) ≡ places (value_at old text) ++ place ∷ []
    → NotesPlace text place (λ other. places (value_at old other)) (λ other. places (value_at new other))
place_noted {X} places text place old new after held more other =
    let at = λ (b : Bool). cond b (Some after) (value_at old other) in
    elim (cases_Bool (bytes_eq text other)) [
      | inl y ↦ rw y (ap places (held other ∙ ap at y) ∙ more ∙ ap (λ (l : List ℕ). places (value_at old l) ++ place ∷ []) (same_bytes text other y))
      | inr n ↦ rw n (ap places (held other ∙ ap at n))
    ]
