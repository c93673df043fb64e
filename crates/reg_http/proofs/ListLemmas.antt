-- Several connections, one more each time.
use Rattle.std.proofs.Common.{◌≡◌, ℕ, ℤ, zero, suc, ◌+◌, ◌<◌, ◌≤◌, List, [], ◌∷◌, ◌++◌, length, take, drop, get_or, set, Option, Result, refl, ap, ◌∙◌, arith, subst}
use Rattle.std.proofs.lemmas.List.{take_all, take_more, take_more_set, drop_more, drop-set-lt, length-drop, length-set}
use Rattle.reg_policy.specs.declared.callers.Credential.{Credential}
use Rattle.reg_http.specs.Connections.{AreFresh, ServesAll, ServesConnection}
use Rattle.reg_desk.specs.Asked.{Asked}
use Rattle.reg_http.specs.Tallies.{IsFresh}
use Rattle.reg_http.specs.declared.tally.Tally.{Tally}
use Rattle.reg_desk.specs.declared.answer.Answer.{Answer}
use Rattle.reg_http.specs.declared.connection.Served.{Served}
use Rattle.reg_http.specs.declared.error.IoFault.{IoFault}

module _ {R W : Type 0} where
  -- each of fresh ones is fresh
  fresh_item : (cs : List (Tally R × Tally W)) (i : ℕ) (d : Tally R × Tally W) → AreFresh cs → i < length cs → IsFresh (get_or cs i d).0 × IsFresh (get_or cs i d).1
  fresh_item [] i d fresh inside = absurd (omega arith)
  fresh_item (c ∷ cs) zero d fresh inside = fresh.0
  fresh_item (c ∷ cs) (suc i) d fresh inside = fresh_item cs i d fresh.1 (omega arith)

  -- what is still to come is fresh
  pub fresh_at : (cs now : List (Tally R × Tally W)) (i : ℕ) (c : Tally R × Tally W) → AreFresh cs → drop i now ≡ drop i cs → i < length now → c ≡ get_or now i c
      → IsFresh c.0 × IsFresh c.1
  fresh_at cs now i c fresh rest inside is =
      let long : i < length cs = omega (arith, length-drop i now, length-drop i cs, ap length rest) in
      let one = drop_more now i c inside in
      let other = drop_more cs i c long in
      let same : get_or cs i c ≡ c = cc in
      subst (λ (x : Tally R × Tally W). IsFresh x.0 × IsFresh x.1) same (fresh_item cs i c fresh long)

module _ {D R W : Type 0} (answers : D → Asked → Answer → D → Type 0) (remaining : R → Option (List ℕ)) (contents : W → Option (List ℕ))
    (callers : List Credential) (day : ℤ) where
  -- one connection more
  serve_more : (os ns : List (Tally R × Tally W)) (rs : List (Result Served IoFault)) (o n : Tally R × Tally W) (r : Result Served IoFault) (d m e : D)
      → ServesAll answers remaining contents callers day os rs ns d m → ServesConnection answers remaining contents callers day o n m e r
      → ServesAll answers remaining contents callers day (os ++ o ∷ []) (rs ++ r ∷ []) (ns ++ n ∷ []) d e
  serve_more [] [] [] o n r d m e all one = (e, subst (λ x. ServesConnection answers remaining contents callers day o n x e r) all one, refl)
  serve_more [] (x ∷ ns) [] o n r d m e all one = absurd all
  serve_more (z ∷ os) [] [] o n r d m e all one = absurd all
  serve_more (z ∷ os) (x ∷ ns) (y ∷ rs) o n r d m e (between, first, more) one =
      (between, first, serve_more os ns rs o n r between m e more one)
  serve_more os ns rs o n r d m e all one = absurd all

  -- the connections so far are served, and the others are as they were
  pub record SoFar (cs now : List (Tally R × Tally W)) (rs : List (Result Served IoFault)) (i : ℕ) (d e : D) : Type 0 where
    pub served : ServesAll answers remaining contents callers day (take i cs) rs (take i now) d e
    pub rest : drop i now ≡ drop i cs
    pub same_length : length now ≡ length cs

  -- one connection more is served
  pub SoFar-next : (cs now : List (Tally R × Tally W)) (rs more : List (Result Served IoFault)) (i : ℕ) (d m e : D) (o n : Tally R × Tally W) (r : Result Served IoFault)
      → SoFar cs now rs i d m → i < length now → o ≡ get_or now i o → more ≡ rs ++ r ∷ [] → ServesConnection answers remaining contents callers day o n m e r
      → SoFar cs (set now i n) more (i + 1) d e
  SoFar-next cs now rs more i d m e o n r so inside is grown one =
      let long : i < length cs = omega (arith, so.same_length) in
      let now_has = drop_more now i o inside in
      let was = drop_more cs i o long in
      let item : get_or cs i o ≡ o = cc (so.rest) in
      let later : drop (i + 1) now ≡ drop (i + 1) cs = cc (so.rest) in
      let first : take (i + 1) cs ≡ take i cs ++ o ∷ [] = take_more cs i o long ∙ ap (λ x. take i cs ++ x ∷ []) item in
      let last : take (i + 1) (set now i n) ≡ take i now ++ n ∷ [] = take_more_set now i n inside in
      record {
        served = rw (first, last, grown) (serve_more (take i cs) (take i now) rs o n r d m e so.served one);
        rest = drop-set-lt (i + 1) now i n (omega arith) ∙ later;
        same_length = simp length-set so.same_length;
      }

  -- all of them are
  pub SoFar-end : (cs now : List (Tally R × Tally W)) (rs : List (Result Served IoFault)) (i : ℕ) (d e : D) → SoFar cs now rs i d e → length now ≤ i
      → ServesAll answers remaining contents callers day cs rs now d e
  SoFar-end cs now rs i d e so past =
      rw (take_all i cs (omega (arith, so.same_length)), take_all i now past) at so.served
