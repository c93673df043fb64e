-- What is printed of an answer.
use Rattle.std.proofs.Common.{◌+◌, ◌<◌, ◌≤◌, length, take, get_or, sym, subst, ◌≡◌, ◌++◌, [], ◌∷◌, ℕ, List, Result, Ok, Err, IfOk, Vec, ap, ◌∙◌}
use Rattle.std.specs.Global.{Global}
use Rattle.reg_policy.specs.Days.{Writes}
use Rattle.reg_desk.specs.declared.answer.Listed.{Listed}
use Rattle.std.proofs.lemmas.List.{take_more, take_all}
use Rattle.reg_cli.specs.Printing.{IsListedLine, ListsAs, dated_line, empty, next}

-- a line with the text of its embargo day
pub listed_with : {E : Type 0} (listed : Listed) (day given : List ℕ) (r : Result (Vec ℕ Global) E) → Writes day listed.embargo → given ≡ day
    → IfOk r (λ line. line.items ≡ dated_line listed given) → IfOk r (λ line. IsListedLine listed line.items)
listed_with listed day given (Ok line) writes same is = (day, writes, is ∙ ap (λ t. dated_line listed t) same)
listed_with listed day given (Err e) writes same is = tt

-- no line, where nothing is printed
pub lists_none : (listing : List Listed) (text : List ℕ) → text ≡ [] → ListsAs (take 0 listing) text
lists_none [] text none = rw none empty
lists_none (listed ∷ listing) text none = rw none empty

-- one deposit of a listing more
pub lists_next : (listing : List Listed) (old new line : List ℕ) (i : ℕ) (listed : Listed) → i < length listing → listed ≡ get_or listing i listed → new ≡ old ++ line
    → IsListedLine listed line → ListsAs (take i listing) old → ListsAs (take (i + 1) listing) new
lists_next listing old new line i listed inside is grown this all =
    let more : take (i + 1) listing ≡ take i listing ++ listed ∷ [] = take_more listing i listed inside ∙ ap (λ (l : Listed). take i listing ++ l ∷ []) (sym is) in
    rw (more, grown) (next (take i listing) old listed line all this)

-- all of them
pub lists_all : (listing : List Listed) (text : List ℕ) (i : ℕ) → length listing ≤ i → ListsAs (take i listing) text → ListsAs listing text
lists_all listing text i past all = subst (λ t. ListsAs t text) (take_all i listing past) all
