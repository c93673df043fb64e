-- The bytes of a buffer after a read into its rest, and of a reader over several reads.
use Rattle.std.proofs.Common.{◌≡◌, ℕ, ◌+◌, ◌-◌, ◌<◌, ◌≤◌, List, [], ◌++◌, length, take, drop, Option, Some, None, refl, sym, ap, ◌∙◌, arith, append_assoc}
use Rattle.std.proofs.lemmas.List.{take-append-le, length-take-le, length-drop}
use Rattle.std.proofs.Math.Seq.{take-append-add}
use Rattle.std.specs.Io.KnownBytes.{Consumes, IsAtEnd}
use borrow.Rule.Slice.PartMut.{put_mid, post_of, same_len_mid, mid_of}
use Rattle.reg_http.specs.Fills.{FillsMore}

-- the front grows by what was written after it
pub take-put_mid-more : (xs ys : List ℕ) (a k n : ℕ) → a ≤ length xs → n ≤ length ys
    → take (a + n) (put_mid a k xs ys) ≡ take a xs ++ take n ys
take-put_mid-more xs ys a k n inside few =
    let front = length-take-le a xs inside in
    let after = ys ++ post_of a k xs in
    ap (λ j. take (j + n) (take a xs ++ after)) (sym front) ∙ take-append-add (take a xs) after n
    ∙ ap (λ t. take a xs ++ t) (take-append-le n ys (post_of a k xs) few)

-- what a read into the rest of the buffer did
pub Adds-put_mid : (old new : Option (List ℕ)) (xs ys : List ℕ) (a n : ℕ) → a ≤ length xs
    → length ys ≡ length (mid_of a (length xs - a) xs) → n ≤ length ys → Consumes old new (take n ys)
    → (n ≡ 0 → 0 < length ys → IsAtEnd new) → FillsMore old new xs (put_mid a (length xs - a) xs ys) a n
Adds-put_mid old new xs ys a n inside same few taken end =
    let whole = same_len_mid a (length xs - a) xs ys same in
    let rest : length (drop a xs) ≡ length xs - a = length-drop a xs in
    let long : length ys ≡ length xs - a = same ∙ length-take-le (length xs - a) (drop a xs) (omega arith) in record {
      more = take n ys;
      grown = take-put_mid-more xs ys a (length xs - a) n inside few;
      count = length-take-le n ys few;
      fits = omega arith;
      taken = taken;
      at_end = λ none room. end none (omega arith);
    }

-- two reads, one after the other
pub Consumes-then : (u v w : Option (List ℕ)) (a b : List ℕ) → Consumes u v a → Consumes v w b → Consumes u w (a ++ b)
Consumes-then None v w a b x y = tt
Consumes-then (Some xs) None w a b x y = absurd x
Consumes-then (Some xs) (Some ys) None a b x y = y
Consumes-then (Some xs) (Some ys) (Some zs) a b x y = x ∙ ap (λ (t : List ℕ). a ++ t) y ∙ sym (append_assoc a b zs)

-- no bytes
pub Consumes-none : (u : Option (List ℕ)) → Consumes u u []
Consumes-none None = tt
Consumes-none (Some xs) = refl

-- the reads so far, and one more
pub Consumes-Adds : (u v w : Option (List ℕ)) (before after : List ℕ) (filled n : ℕ) → Consumes u v (take filled before)
    → FillsMore v w before after filled n → Consumes u w (take (filled + n) after)
Consumes-Adds u v w before after filled n taken adds =
    rw adds.grown (Consumes-then u v w (take filled before) adds.more taken adds.taken)
