-- What is taken from a reader by one call after another.
use Rattle.std.proofs.Common.{◌≡◌, ℕ, ◌+◌, ◌≤◌, ◌<◌, ◌++◌, ◌||◌, Bool, true, false, [], List, length, Option, None, Some, Result, Err, Vec, IfSome, inl, inr, take, refl, sym, ap, subst, ◌∙◌, arith, append-nil, append_assoc, length-append}
use Rattle.std.specs.Io.KnownBytes.{Appends, Consumes, IsAtEnd, Keeps}
use Rattle.std.proofs.lemmas.Grind.{common_steps}
use Rattle.std.specs.Global.{Global}
use Rattle.ags_cli.specs.declared.error.Fault.{Fault}
use Rattle.ags_cli.specs.Faults.{is_stream, is_stream_fault}
use Rattle.ags_cli.specs.Reading.{Appended, IsOfReading, ReadsFile, TakesAtMost}

-- nothing was taken
pub takes_none : (known : Option (List ℕ)) → Consumes known known []
takes_none None = tt
takes_none (Some all) = refl

-- nothing was appended
pub appends_none : (known : Option (List ℕ)) → Appends known known []
appends_none None = tt
appends_none (Some all) = sym (append-nil all)

-- some bytes, and then some more
pub takes_both : (a b c : Option (List ℕ)) (first more : List ℕ) → Consumes a b first → Consumes b c more → Consumes a c (first ++ more)
takes_both None b c first more one two = tt
takes_both (Some all) (Some rest) (Some end) first more one two = one ∙ ap (λ xs. first ++ xs) two ∙ sym (append_assoc first more end)
takes_both (Some all) None c first more one two = absurd one
takes_both (Some all) (Some rest) None first more one two = absurd two

-- the same, as far as their number matters
pub takes_within : (most room : ℕ) (a b c : Option (List ℕ)) (first : List ℕ) → Consumes a b first → TakesAtMost room b c
    → length first + room ≤ most → TakesAtMost most a c
takes_within most room a b c first one two few = record {
  taken = first ++ two.taken;
  few = let e : length (first ++ two.taken) ≡ length first + length two.taken = length-append first two.taken in omega (arith, e, two.few, few);
  first = takes_both a b c first two.taken one two.first;
}

-- the first piece, when nothing was read
pub takes_start : (known : Option (List ℕ)) (bytes : List ℕ) → bytes ≡ [] → Consumes known known bytes
takes_start known bytes none = subst (λ xs. Consumes known known xs) (sym none) (takes_none known)

-- what was read, and one piece more
pub takes_piece : (a b c : Option (List ℕ)) (count : ℕ) (bytes after : List ℕ) → Consumes a b bytes → Appended count b c bytes after → Consumes a c after
takes_piece a b c count bytes after one two = subst (λ xs. Consumes a c xs) (sym two.joined) (takes_both a b c bytes two.more one two.taken)

-- all that was there, and nothing is left
pub takes_all : (known left : Option (List ℕ)) (bytes : List ℕ) → Consumes known left bytes → IsAtEnd left → IfSome known (λ all. bytes ≡ all)
takes_all None left bytes one end = tt
takes_all (Some all) None bytes one end = absurd one
takes_all (Some all) (Some rest) bytes one end = sym (append-nil bytes) ∙ ap (λ xs. bytes ++ xs) (sym end) ∙ sym one

-- what was taken is no longer than what was there
pub takes_part : (most : ℕ) (known left : Option (List ℕ)) (bytes : List ℕ) → Consumes known left bytes → most < length bytes → IfSome known (λ all. most < length all)
takes_part most None left bytes one long = tt
takes_part most (Some all) None bytes one long = absurd one
takes_part most (Some all) (Some rest) bytes one long =
    let e : length all ≡ length bytes + length rest = ap length one ∙ length-append bytes rest in omega (arith, e, long)

-- how long the list is with one piece more
pub length-appended : (count : ℕ) (old new : Option (List ℕ)) (before after : List ℕ) → Appended count old new before after
    → length after ≡ length before + count
length-appended count old new before after one =
    ap length one.joined ∙ length-append before one.more ∙ ap (λ n. length before + n) one.counted

-- nothing was taken, which is no more than any number
pub takes_nothing : (most : ℕ) (known : Option (List ℕ)) → TakesAtMost most known known
takes_nothing most known = record { taken = []; few = omega arith; first = takes_none known }

-- what was read, where it is not too long
pub takes_few : (most : ℕ) (known left : Option (List ℕ)) (bytes : List ℕ) → Consumes known left bytes → length bytes ≤ most → TakesAtMost most known left
takes_few most known left bytes one few = record { taken = bytes; few = few; first = one }

-- whether a call has failed: as before the loop, and then by one call
pub notes_call : (old mid new said : Bool) → new ≡ (mid || said) → mid ≡ old → new ≡ (old || said)
notes_call old mid new said one kept = one ∙ ap (λ m. m || said) kept

-- and no call failed
pub notes_none : (old new : Bool) → new ≡ old → new ≡ (old || false)
notes_none true new kept = kept
notes_none false new kept = kept

-- and the one call did not fail
pub notes_kept : (old mid new : Bool) → new ≡ (mid || false) → mid ≡ old → new ≡ old
notes_kept old true new one kept = one ∙ kept
notes_kept old false new one kept = one ∙ kept

-- what one read took of the room that it had
pub takes_read : (room count : ℕ) (old new : Option (List ℕ)) (buf : List ℕ) → Consumes old new (take count buf) → count ≤ room → TakesAtMost room old new
takes_read room count old new buf one few = record { taken = take count buf; few = grind (arith, common_steps); first = one }

-- a read that failed took nothing
pub takes_failed : (room : ℕ) (old new : Option (List ℕ)) → Keeps old new → TakesAtMost room old new
takes_failed room None new kept = record { taken = []; few = omega arith; first = tt }
takes_failed room (Some all) None kept = absurd kept
takes_failed room (Some all) (Some rest) kept = record { taken = []; few = omega arith; first = sym kept }

-- what one read gave comes after what was there
pub appends_read : (count : ℕ) (old new : Option (List ℕ)) (buf before after : List ℕ) → Consumes old new (take count buf) → (count ≡ 0 → IsAtEnd new)
    → count ≤ length buf → after ≡ before ++ take count buf → Appended count old new before after
appends_read count old new buf before after one end few joined = record {
  more = take count buf;
  joined = joined;
  counted = grind (arith, common_steps);
  taken = one;
  at_end = end;
}

-- a fault of a read leaves open what the file is
pub reads_fault : (known : Option (List ℕ)) (result : Result (Vec ℕ Global) Fault) (said fault : Fault) → result ≡ Err said → said ≡ fault → IsOfReading fault
    → IfSome known (λ all. ReadsFile all result)
reads_fault None result said fault is same one = tt
reads_fault (Some all) result said fault is same (inl e) = subst (λ r. ReadsFile all r) (sym (is ∙ ap (λ f. Err f) (same ∙ e))) tt
reads_fault (Some all) result said fault is same (inr e) = subst (λ r. ReadsFile all r) (sym (is ∙ ap (λ f. Err f) (same ∙ e))) tt

-- whether a call has failed: as before the loop, and then by one that ended with this fault
pub notes_fault : (old mid new : Bool) (result : Result (Vec ℕ Global) Fault) (said fault : Fault) → result ≡ Err said → said ≡ fault
    → new ≡ (mid || is_stream fault) → mid ≡ old → new ≡ (old || is_stream_fault result)
notes_fault old mid new result said fault is same one kept =
    subst (λ r. new ≡ (old || is_stream_fault r)) (sym (is ∙ ap (λ f. Err f) same)) (notes_call old mid new (is_stream fault) one kept)
