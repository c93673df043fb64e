-- The body, from what came with the head and what was read.
use Rattle.std.proofs.Common.{◌≡◌, ℕ, ◌<◌, ◌≤◌, inl, inr, List, [], ◌++◌, length, take, Option, Some, None, sym, ap, ◌∙◌, arith, append_assoc, length-append, Ok, Err}
use Rattle.std.proofs.lemmas.List.{take-append-le, append-nil, length-take, length-take-le, nil_from_length, take_all}
use Rattle.std.proofs.Math.Seq.{take-append_seam}
use Rattle.std.specs.Prelude.{IfSome, Vec}
use Rattle.std.specs.declared.alloc.Global.{Global}
use Rattle.std.specs.Io.KnownBytes.{Consumes, IsAtEnd}
use Rattle.reg_http.specs.Views.{ReadsBody}
use Rattle.reg_http.specs.declared.error.BodyFault.TheVariants as fault
use Rattle.reg_http.proofs.FillLemmas.{Consumes-then}
use Rattle.std.proofs.lemmas.Bool.{cases_lt}

-- the front of the body is what came early and what was read since
pub record HasRead (old new : Option (List ℕ)) (early : List ℕ) (n : ℕ) (front : List ℕ) : Type 0 where
  pub more : List ℕ
  pub front_is : front ≡ take n early ++ more
  pub taken : Consumes old new more

-- the whole of a body
pub body_whole : (n : ℕ) (early more ys : List ℕ) → length (take n early ++ more) ≡ n
    → (n ≤ length (early ++ (more ++ ys))) × (take n early ++ more ≡ take n (early ++ (more ++ ys)))
body_whole n early more ys long = elim (cases_lt (length early) n) [
  | inl over ↦
      let all : take n early ≡ early = take_all n early (omega arith) in
      let sum : length (early ++ more) ≡ n = ap (λ t. length (t ++ more)) (sym all) ∙ long in
      let regroup : early ++ (more ++ ys) ≡ (early ++ more) ++ ys = sym (append_assoc early more ys) in (
        omega (arith, ap length regroup, length-append (early ++ more) ys),
        ap (λ t. t ++ more) all ∙ sym (take-append_seam (early ++ more) ys) ∙ ap (λ k. take k ((early ++ more) ++ ys)) sum ∙ ap (take n) (sym regroup),
      )
  | inr fits ↦
      let none : more ≡ [] = nil_from_length more (omega (arith, length-append (take n early) more, length-take-le n early fits)) in (
        omega (arith, length-append early (more ++ ys)),
        ap (λ t. take n early ++ t) none ∙ append-nil (take n early) ∙ sym (take-append-le n early (more ++ ys) fits),
      )
]

-- a front as long as the body is the body
pub ReadsBody-all : (old new : Option (List ℕ)) (early : List ℕ) (n : ℕ) (body : Vec ℕ Global) → HasRead old new early n body.items → length body.items ≡ n
    → IfSome old (λ left. ReadsBody (early ++ left) n (Ok body))
ReadsBody-all None new early n body read long = tt
ReadsBody-all (Some xs) None early n body read long = absurd read.taken
ReadsBody-all (Some xs) (Some ys) early n body read long =
    let whole = body_whole n early read.more ys (sym (ap length read.front_is) ∙ long) in
    rw read.taken (whole.0, read.front_is ∙ whole.1)

-- a body whose bytes ended early: no byte came, and the reader is at its end
pub ReadsBody-short : (u v w : Option (List ℕ)) (early body bytes : List ℕ) (n : ℕ) → HasRead u v early n body → Consumes v w bytes → length bytes ≡ 0
    → length body < n → IsAtEnd w → IfSome u (λ left. ReadsBody (early ++ left) n (Err fault.Short))
ReadsBody-short None v w early body bytes n read last none under end = tt
ReadsBody-short (Some xs) None w early body bytes n read last none under end = absurd read.taken
ReadsBody-short (Some xs) (Some ys) None early body bytes n read last none under end = absurd last
ReadsBody-short (Some xs) (Some ys) (Some zs) early body bytes n read last none under end =
    let front = ap length read.front_is ∙ length-append (take n early) read.more in
    let left = ap length read.taken ∙ length-append read.more ys in
    let rest = ap length last ∙ length-append bytes zs in
    omega (arith, length-take n early, length-append early xs, front, left, rest, none, ap length end)

-- the front of the body, and the bytes of one read more
pub HasRead-more : (u v w : Option (List ℕ)) (early before after bytes : List ℕ) (n : ℕ) → HasRead u v early n before → Consumes v w bytes → after ≡ before ++ bytes → HasRead u w early n after
HasRead-more u v w early before after bytes n read taken grown = record {
  more = read.more ++ bytes;
  front_is = grown ∙ ap (λ t. t ++ bytes) read.front_is ∙ append_assoc (take n early) read.more bytes;
  taken = Consumes-then u v w read.more bytes read.taken taken;
}
