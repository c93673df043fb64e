-- Sets of pairs of texts, and the parts of a text that they have.
use Rattle.std.proofs.Common.{◌≡◌, ℕ, ◌+◌, ◌-◌, Bool, true, false, not, eqb, cond, List, [], take, drop, length, Some, None, refl, sym, ap, ◌∙◌, position, Ordering}
use Rattle.std.specs.Prelude.{◌&&◌, ◌||◌}
use Rattle.std.specs.Borrow.{Bor}
use Rattle.std.specs.List.{list_any}
use Rattle.std.specs.Ordering.{is_eq, nat_cmp, ordering_then}
use Rattle.std.specs.declared.cmp.Ordering.TheVariants.{Less}
use Rattle.std.specs.Cmp.Lexicographic.{slice_cmp}
use Rattle.std.specs.BTreeSet.{UpdatesBy}
use Rattle.std.specs.Str.{bytes_eq}
use Rattle.std.proofs.Math.Bool.{or-false}
use Rattle.std.proofs.lemmas.List.{take_rest}
use Rattle.std.proofs.lemmas.Map.Text.{is_eq-slice_cmp}
use Rattle.ags_rows.specs.Parts.{parts_at}
use Rattle.ags_links.proofs.Lemmas.{parts_cut, part_left}
use Rattle.ags_check.specs.CodeLists.{PairSet, has_pair, is_pair, lacks_part}

then_equal : (a b : Ordering) → is_eq (ordering_then a b) ≡ (is_eq a && is_eq b)
then_equal Less b = refl
then_equal a b = refl

abbrev pub pair_cmp : Bor (List ℕ) × Bor (List ℕ) → Bor (List ℕ) × Bor (List ℕ) → Ordering
pair_cmp x y = ordering_then (slice_cmp nat_cmp x.0.now y.0.now) (slice_cmp nat_cmp x.1.now y.1.now)

added_or : (t b : Bool) → cond t true b ≡ (b || t)
added_or true true = refl
added_or false true = refl
added_or t b = refl

-- a pair more
pub pair_added : (heading text : Bor (List ℕ)) (old new : PairSet) → UpdatesBy pair_cmp (pair_cmp (heading, text)) old new true
    → (h t : List ℕ) → has_pair new h t ≡ (has_pair old h t || is_pair h t (heading.now, text.now))
pair_added heading text old new updates h t =
    let q : Bor (List ℕ) × Bor (List ℕ) = (record { ref_ptr = (0, 0); now = h }, record { ref_ptr = (0, 0); now = t }) in
    let test : is_eq (pair_cmp (heading, text) q) ≡ is_pair h t (heading.now, text.now) =
    then_equal (slice_cmp nat_cmp heading.now h) (slice_cmp nat_cmp text.now t)
    ∙ ap (λ (b : Bool). b && is_eq (slice_cmp nat_cmp text.now t)) (is_eq-slice_cmp heading.now h)
    ∙ ap (λ (b : Bool). bytes_eq heading.now h && b) (is_eq-slice_cmp text.now t) in
    updates.0 q ∙ ap (λ (b : Bool). cond b true (has_pair old h t)) test ∙ added_or (is_pair h t (heading.now, text.now)) (has_pair old h t)

-- ---- the parts of a text

pub part_lacks : (held : PairSet) (s : ℕ) (heading rest : List ℕ) (k : ℕ) → position (λ b. eqb b s) rest ≡ Some k → has_pair held heading (take k rest) ≡ false → lacks_part held s heading rest ≡ true
part_lacks held s heading rest k e t =
    let lacks : List ℕ → Bool = λ part. not (has_pair held heading part) in
    ap (list_any lacks) (parts_cut s rest k e) ∙ ap (λ (b : Bool). not b || list_any lacks (parts_at s (drop (k + 1) rest))) t

pub part_had : (held : PairSet) (s : ℕ) (heading rest : List ℕ) (k : ℕ) → position (λ b. eqb b s) rest ≡ Some k → has_pair held heading (take k rest) ≡ true
    → lacks_part held s heading (take (length rest - (k + 1)) (drop (k + 1) rest)) ≡ lacks_part held s heading rest
part_had held s heading rest k e t =
    let lacks : List ℕ → Bool = λ part. not (has_pair held heading part) in
    ap (lacks_part held s heading) (take_rest rest (k + 1))
    ∙ sym (ap (list_any lacks) (parts_cut s rest k e) ∙ ap (λ (b : Bool). not b || list_any lacks (parts_at s (drop (k + 1) rest))) t)

pub part_last : (held : PairSet) (s : ℕ) (heading rest : List ℕ) → position (λ b. eqb b s) rest ≡ None → not (has_pair held heading rest) ≡ lacks_part held s heading rest
part_last held s heading rest e =
    sym (or-false (not (has_pair held heading rest))) ∙ ap (list_any (λ part. not (has_pair held heading part))) (part_left s [] rest (parts_at s rest) e refl)
