use Rattle.std.proofs.Common.{◌≡◌, ℕ, ◌+◌, ◌<◌, ◌≤◌, Bool, false, List, [], ◌∷◌, ◌++◌, length, get_or, take, map, sym, ap, ◌∙◌, append_assoc}
use Rattle.std.proofs.lemmas.List.{map_more, take_all}
use Rattle.std.specs.Bool.{◌==◌}
use Rattle.ags_cli.specs.Report.{shown_byte, shown_subject}
use Rattle.ags_cli.proofs.report.push_subject.Goals as goal

-- one byte more is shown
one_shown : (xs start before after : List ℕ) (i byte : ℕ) → i < length xs → before ≡ start ++ map shown_byte (take i xs) → byte ≡ shown_byte (get_or xs i 0)
    → after ≡ before ++ byte ∷ [] → after ≡ start ++ map shown_byte (take (i + 1) xs)
one_shown xs start before after i byte within so_far shown joined =
    joined ∙ ap (λ (l : List ℕ). l ++ byte ∷ []) so_far ∙ append_assoc start (map shown_byte (take i xs)) (byte ∷ [])
    ∙ ap (λ (b : ℕ). start ++ (map shown_byte (take i xs) ++ b ∷ [])) shown ∙ ap (λ (l : List ℕ). start ++ l) (sym (map_more shown_byte xs i 0 within))

-- all bytes of a subject that has some are shown
all_shown : (xs start text : List ℕ) (i : ℕ) (empty : Bool) → empty ≡ (length xs == 0) → empty ≡ false → length xs ≤ i
    → text ≡ start ++ map shown_byte (take i xs) → text ≡ start ++ shown_subject xs
all_shown [] start text i empty is some long so_far = cc
all_shown (x ∷ xs) start text i empty is some long so_far = so_far ∙ ap (λ (l : List ℕ). start ++ map shown_byte l) (take_all i (x ∷ xs) long)

pub loop-byte-preserved : goal.loop-byte-preserved
loop-byte-preserved c =
    one_shown c.args.subject.now _ _ _ c.loop-byte.byte-index _ c.loop-byte-test.true c.loop-byte.invariant c.shown_byte.ensures c.in_ok-push-2.ensures.items

pub returns : goal.returns
returns c = all_shown c.args.subject.now _ _ _ _ c.is_empty.ensures c.if-is_empty.false c.loop-byte-test.false c.loop-byte.invariant
