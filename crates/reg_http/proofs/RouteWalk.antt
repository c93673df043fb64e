-- What the routes of the table take from a path is text.
use Rattle.std.proofs.Common.{◌≡◌, ℕ, zero, suc, ◌+◌, ◌-◌, ◌<◌, ◌≤◌, List, [], ◌∷◌, ◌++◌, length, drop, take, get_or, Some, None, Bool, true, false, cond, refl, sym, ap, ◌∙◌, arith, ⊎_elim, subst, codes, inl, inr, ◌⊎◌, Ok}
use Rattle.std.specs.Prelude.{◌&&◌, nat_lt, ltb, leb, nat_eq}
use Rattle.std.specs.List.{ends_with}
use Rattle.std.specs.Str.{IsUtf8, IsCharBoundary}
use Rattle.std.proofs.lemmas.Bool.{cases_Bool, cases_eq, ne_eqb, and_parts, ltb-true, leb-true, lt-ltb}
use Rattle.std.proofs.lemmas.List.{drop_all, get_or-drop, get_or-append-add, length-append, length-drop}
use Rattle.std.proofs.lemmas.Str.{IsUtf8-between, IsUtf8-nil, IsCharBoundary-before_ascii, IsCharBoundary-after_ascii, IsCharBoundary-end}
use Rattle.matchit.specs.Rows.{RowsOf, param_token}
use Rattle.matchit.specs.Router.{RouteOf}
use Rattle.matchit.specs.Seek.{step, seek, has_slash, segment, cuts, better, longest_suffix, after_param, slash}
use Rattle.matchit.specs.Params.{walk, wild_from, wild_stop, part_of, after_token, AllText}
use Rattle.matchit.specs.declared.params.Params.{Params}
use Rattle.matchit.proofs.LongestLemmas.{better-again, better-yes, better-no}
use Rattle.reg_http.specs.Routes.{check_route, deposit_route, deposits_route, page_in, param, route_of, table, taken, taken_by}
use Rattle.reg_http.specs.declared.request.route.Page.{Page}
use Rattle.reg_http.proofs.SeekLemmas.{all_bytes, with_token, with_tokens, seek_none, seek_drop, seek_end, seek_plain, begins, seek_wild, seek_last, seek_here, param_hit, param_miss}

abbrev Rows : Type 0
Rows = RowsOf (RouteOf Page)

-- what the routes have after the slash that ends the project, and from that slash on
abbrev after_project : Rows
after_project = (codes "check", check_route) ∷ (codes "deposits/" ++ param_token ∷ [], deposit_route) ∷ (codes "deposits", deposits_route) ∷ []

abbrev below : Rows
below = with_token slash after_project

abbrev front_bytes : List ℕ
front_bytes = codes "/v1/projects/"

-- the table by its common front
table_is : table ≡ with_tokens front_bytes (with_token param_token below)
table_is = refl

-- nothing is not something
none-some : {T : Type 0} (r : RouteOf Page) → None ≡ Some r → T
none-some r e = cc

abbrev one_slash : List ℕ
one_slash = slash ∷ []

-- the longest end of a project is its slash
longest_is : (seg : List ℕ) → longest_suffix seg below ≡ better seg [] one_slash
longest_is seg = better-again seg (better seg [] one_slash) one_slash ∙ better-again seg [] one_slash

-- dropping past the first
drop_past : (n b : ℕ) (p : List ℕ) → 1 ≤ n → drop n (b ∷ p) ≡ drop (n - 1) p
drop_past zero b p some = absurd (omega arith)
drop_past (suc n) b p some = ap (λ k. drop k p) (omega arith)

-- where the project ends
pub project_step : (p : List ℕ) (r : RouteOf Page) → after_param below p ≡ Some r
    → (1 < length (segment p)) × (seek 0 below (drop (length (segment p) - 1) p) ≡ Some r)
project_step [] r e = none-some r e
project_step (b ∷ p) r e = ⊎_elim hit miss (cases_Bool (ltb 0 1 && cuts (segment (b ∷ p)) one_slash))
  where
    hit : (ltb 0 1 && cuts (segment (b ∷ p)) one_slash) ≡ true → (1 < length (segment (b ∷ p))) × (seek 0 below (drop (length (segment (b ∷ p)) - 1) (b ∷ p)) ≡ Some r)
    hit sure =
        let seg : List ℕ = segment (b ∷ p) in
        let is : longest_suffix seg below ≡ one_slash = longest_is seg ∙ better-yes seg [] one_slash sure in
        let both = and_parts (ltb 1 (length seg)) (ends_with nat_eq seg one_slash) (and_parts (ltb 0 1) (cuts seg one_slash) sure).1 in
        let long : 1 < length seg = ltb-true 1 (length seg) both.0 in
        let P : ℕ × Rows → Type 0 = λ x. seek (x.0 - 1) x.1 p ≡ Some r in
        let some : seek (length seg - 1 - 1) below p ≡ Some r = subst P (param_hit below (b ∷ p) one_slash is refl) e in
        (long, ap (λ t. seek 0 below t) (drop_past (length seg - 1) b p (omega arith)) ∙ sym (seek_drop (length seg - 1 - 1) below p) ∙ some)

    nowhere : (v : Bool) → seek ((cond {A = ℕ × Rows} v (0, []) (length (b ∷ p), below)).0 - 1) (cond {A = ℕ × Rows} v (0, []) (length (b ∷ p), below)).1 p ≡ Some r → ⊥
    nowhere true some = none-some r (sym (seek_none (0 - 1) p) ∙ some)
    nowhere false some =
        let end : drop (length (b ∷ p) - 1) p ≡ [] = drop_all (length (b ∷ p) - 1) p (omega arith) in
        none-some r (sym (seek_end below) ∙ ap (λ t. seek 0 below t) (sym end) ∙ sym (seek_drop (length (b ∷ p) - 1) below p) ∙ some)

    miss : (ltb 0 1 && cuts (segment (b ∷ p)) one_slash) ≡ false → (1 < length (segment (b ∷ p))) × (seek 0 below (drop (length (segment (b ∷ p)) - 1) (b ∷ p)) ≡ Some r)
    miss not_there =
        let is : longest_suffix (segment (b ∷ p)) below ≡ [] = longest_is (segment (b ∷ p)) ∙ better-no (segment (b ∷ p)) [] one_slash not_there in
        let P : ℕ × Rows → Type 0 = λ x. seek (x.0 - 1) x.1 p ≡ Some r in
        absurd (nowhere (has_slash (b ∷ p)) (subst P (param_miss below (b ∷ p) is) e))

-- the routes, and what comes after the project's slash
abbrev Ends : List ℕ → RouteOf Page → Type 0
Ends q r = (r ≡ check_route) ⊎ ((r ≡ deposits_route) ⊎ ((r ≡ deposit_route) × (rest : List ℕ) × (q ≡ codes "deposits/" ++ rest)))

abbrev AreBytes : List ℕ → Type 0
AreBytes p = (k : ℕ) → get_or p k 0 < 256

-- what comes after bytes is bytes
bytes_after : (w q : List ℕ) → AreBytes (w ++ q) → AreBytes q
bytes_after w q bytes k = omega (arith, get_or-append-add w q k 0, bytes (length w + k))

abbrev last_rows : Rows
last_rows = (slash ∷ param_token ∷ [], deposit_route) ∷ ([], deposits_route) ∷ []

-- after `deposits`
last_ends : (q : List ℕ) (r : RouteOf Page) → AreBytes q → seek 0 last_rows q ≡ Some r → (r ≡ deposits_route) ⊎ ((r ≡ deposit_route) × (rest : List ℕ) × (q ≡ slash ∷ rest))
last_ends [] r bytes e =
    let is : Some deposits_route ≡ Some r = sym (seek_end last_rows) ∙ e in
    inl (cc)
last_ends (y ∷ p) r bytes e = ⊎_elim
    (λ same.
    let here : seek 0 (with_token param_token (([], deposit_route) ∷ [])) p ≡ Some r =
    ap (λ z. seek 0 (step z last_rows) p) same ∙ sym (seek_plain last_rows y p refl refl) ∙ e in
    let small : get_or p 0 0 < 256 = bytes 1 in
    let is : r ≡ deposit_route = seek_last deposit_route r p (seek_wild (([], deposit_route) ∷ []) p r small here) in
    inr (is, p, ap (λ z. z ∷ p) (sym same)))
    (λ other.
    let none : step y last_rows ≡ [] = rw (ne_eqb slash y other) refl in
    none-some r (sym (seek_none 0 p) ∙ ap (λ s. seek 0 s p) (sym none) ∙ sym (seek_plain last_rows y p refl refl) ∙ e))
    (cases_eq slash y)

-- after the project
ends_of : (q : List ℕ) (r : RouteOf Page) → AreBytes q → seek 0 after_project q ≡ Some r → Ends q r
ends_of [] r bytes e = none-some r (sym (seek_end after_project) ∙ e)
ends_of (y ∷ p) r bytes e = ⊎_elim check_here other_than_check (cases_eq 99 y)
  where
    stepped : seek 0 (step y after_project) p ≡ Some r
    stepped = sym (seek_plain after_project y p refl refl) ∙ e

    check_here : 99 ≡ y → Ends (y ∷ p) r
    check_here same =
        let here : seek 0 (with_tokens (codes "heck") (([], check_route) ∷ [])) p ≡ Some r = ap (λ z. seek 0 (step z after_project) p) same ∙ stepped in
        let more = begins (codes "heck") (([], check_route) ∷ []) p r refl here in
        inl (seek_here check_route r more.0 more.2)

    deposits_here : 100 ≡ y → Ends (y ∷ p) r
    deposits_here same =
        let here : seek 0 (with_tokens (codes "eposits") last_rows) p ≡ Some r = ap (λ z. seek 0 (step z after_project) p) same ∙ stepped in
        let more = begins (codes "eposits") last_rows p r refl here in
        let next : AreBytes p = bytes_after (y ∷ []) p bytes in
        let bytes_of : AreBytes more.0 = bytes_after (codes "eposits") more.0 (subst AreBytes more.1 next) in
        ⊎_elim (λ is. inr (inl is))
        (λ found. inr (inr (found.0, found.1, ap (λ z. z ∷ p) (sym same) ∙ ap (λ t. 100 ∷ t) (more.1 ∙ ap (λ t. codes "eposits" ++ t) found.2))))
        (last_ends more.0 r bytes_of more.2)

    other_than_check : (99 ≡ y → ⊥) → Ends (y ∷ p) r
    other_than_check no_check = ⊎_elim deposits_here
        (λ no_deposits.
        let none : step y after_project ≡ [] = rw (ne_eqb 99 y no_check, ne_eqb 100 y no_deposits) refl in
        none-some r (sym (seek_none 0 p) ∙ ap (λ s. seek 0 s p) (sym none) ∙ stepped))
        (cases_eq 100 y)

-- a part of a text between two places where it may be cut
part_text : (path : List ℕ) (a b : ℕ) → IsUtf8 path → IsCharBoundary path a → IsCharBoundary path b → IsUtf8 (part_of path a b)
part_text path a b text from to = go (leb a b && leb b (length path)) refl
  where
    go : (v : Bool) → (leb a b && leb b (length path)) ≡ v → IsUtf8 (cond v (take (b - a) (drop a path)) [])
    go true both = IsUtf8-between path a b text (leb-true a b (and_parts (leb a b) (leb b (length path)) both).0) from to
    go false out = IsUtf8-nil

-- the place of the next parameter, past bytes
wild_bytes : (w rest : List ℕ) (len token at : ℕ) → all_bytes w ≡ true → at + length w ≤ len
    → wild_from (w ++ rest) len token at ≡ wild_from rest len (token + length w) (at + length w)
wild_bytes [] rest len token at small fits =
    let a : token + 0 ≡ token = omega arith in
    let b : at + 0 ≡ at = omega arith in
    rw (a, b) refl
wild_bytes (x ∷ w) rest len token at small fits =
    let both = and_parts (nat_lt x 256) (all_bytes w) small in
    let lt : ltb at len ≡ true = lt-ltb at len (omega arith) in
    let a : token + 1 + length w ≡ token + length (x ∷ w) = omega arith in
    let b : at + 1 + length w ≡ at + length (x ∷ w) = omega arith in
    let more = wild_bytes w rest len (token + 1) (at + 1) both.1 (omega arith) in
    rw (both.0, lt) (more ∙ ap (λ t. wild_from rest len t (at + 1 + length w)) a ∙ ap (λ t. wild_from rest len (token + length (x ∷ w)) t) b)

-- where a path may be cut: before and after its project, and before its number
record Cuts (path : List ℕ) : Type 0 where
  text : IsUtf8 path
  long : 13 ≤ length path
  from : IsCharBoundary path 13
  to : IsCharBoundary path (13 + length (segment (drop 13 path)) - 1)

abbrev project_end : List ℕ → ℕ
project_end path = 13 + length (segment (drop 13 path)) - 1

-- the names of the parameters are text
project_text : IsUtf8 (codes "project")
unfolding lib.Utf8.encode
project_text = (codes "project", (refl, refl))

number_text : IsUtf8 (codes "number")
unfolding lib.Utf8.encode
number_text = (codes "number", (refl, refl))

-- the parts of a path to be checked are text
check_text : (path : List ℕ) → Cuts path → AllText (taken check_route path)
check_text path cut =
    let at : wild_from check_route.pattern (length path) 0 0 ≡ (13, 13) = wild_bytes front_bytes (param_token ∷ codes "/check") (length path) 0 0 refl cut.long in
    let P : ℕ × ℕ → Type 0 = λ w. IsUtf8 (part_of path w.1 (wild_stop check_route.pattern w.0 path w.1)) in
    (project_text, subst P (sym at) (part_text path 13 (project_end path) cut.text cut.from cut.to), tt)

-- those of a path of deposits
deposits_text : (path : List ℕ) → Cuts path → AllText (taken deposits_route path)
deposits_text path cut =
    let at : wild_from deposits_route.pattern (length path) 0 0 ≡ (13, 13) = wild_bytes front_bytes (param_token ∷ codes "/deposits") (length path) 0 0 refl cut.long in
    let P : ℕ × ℕ → Type 0 = λ w. IsUtf8 (part_of path w.1 (wild_stop deposits_route.pattern w.0 path w.1)) in
    (project_text, subst P (sym at) (part_text path 13 (project_end path) cut.text cut.from cut.to), tt)

-- those of a path of one deposit
deposit_text : (path : List ℕ) → Cuts path → project_end path + 10 ≤ length path → IsCharBoundary path (project_end path + 10) → AllText (taken deposit_route path)
deposit_text path cut fits boundary =
    let at : wild_from deposit_route.pattern (length path) 0 0 ≡ (13, 13) = wild_bytes front_bytes (param_token ∷ codes "/deposits/" ++ param_token ∷ []) (length path) 0 0 refl cut.long in
    let on : wild_from (codes "/deposits/" ++ param_token ∷ []) (length path) 14 (project_end path) ≡ (24, project_end path + 10) =
    wild_bytes (codes "/deposits/") (param_token ∷ []) (length path) 14 (project_end path) refl fits in
    let Q : ℕ × ℕ → Type 0 = λ w. IsUtf8 (part_of path w.1 (wild_stop deposit_route.pattern w.0 path w.1)) in
    let R : ℕ × ℕ → Type 0 = λ w. IsUtf8 (part_of path w.1 (wild_stop deposit_route.pattern w.0 path w.1)) × AllText (walk deposit_route.pattern deposit_route.text path ((33, 39) ∷ []) (after_token w.0) (wild_stop deposit_route.pattern w.0 path w.1)) in
    let number : IsUtf8 (part_of path (project_end path + 10) (length path)) = part_text path (project_end path + 10) (length path) cut.text boundary (IsCharBoundary-end path) in
    let second : AllText (walk deposit_route.pattern deposit_route.text path ((33, 39) ∷ []) 14 (project_end path)) = (number_text, subst Q (sym on) number, tt) in
    let both : R (13, 13) = (part_text path 13 (project_end path) cut.text cut.from cut.to, second) in
    let all = subst R (sym at) both in
    (project_text, all.0, all.1)

-- all that the route of a path takes from it is text
pub parts_are_text : (path : List ℕ) (r : RouteOf Page) → IsUtf8 path → AreBytes path → route_of path ≡ Some r → AllText (taken r path)
parts_are_text path r text bytes e =
    let front = begins front_bytes (with_token param_token below) path r refl e in
    let q : List ℕ = front.0 in
    let rest : AreBytes q = bytes_after front_bytes q (subst AreBytes front.1 bytes) in
    let project = project_step q r (seek_wild below q r (rest 0) front.2) in
    let n : ℕ = length (segment q) - 1 in
    let past_project = begins one_slash after_project (drop n q) r refl project.1 in
    let is_q : drop 13 path ≡ q = ap (drop 13) front.1 in
    let sum : length path ≡ 13 + length q = ap length front.1 ∙ length-append front_bytes q in
    let end : project_end path ≡ 13 + n = ap (λ t. 13 + length (segment t) - 1) is_q ∙ omega (arith, project.0) in
    let left : length (drop n q) ≡ length q - n = length-drop n q in
    let some : length (drop n q) ≡ suc (length past_project.0) = ap length past_project.1 in
    let before : get_or path 12 0 ≡ slash = ap (λ t. get_or t 12 0) front.1 in
    let at_end : get_or path (13 + n) 0 ≡ slash =
    ap (λ t. get_or t (13 + n) 0) front.1 ∙ get_or-append-add front_bytes q n 0 ∙ sym (get_or-drop-at n q) ∙ ap (λ t. get_or t 0 0) past_project.1 in
    let cut : Cuts path = record {
      text = text;
      long = omega arith;
      from = IsCharBoundary-after_ascii path 12 text (omega arith) (omega arith);
      to = subst (IsCharBoundary path) (sym end) (IsCharBoundary-before_ascii path (13 + n) (omega arith) (omega arith));
    } in
    ⊎_elim
    (λ is. subst (λ s. AllText (taken s path)) (sym is) (check_text path cut))
    (⊎_elim
    (λ is. subst (λ s. AllText (taken s path)) (sym is) (deposits_text path cut))
    (λ found.
    let rest_is : drop n q ≡ slash ∷ (codes "deposits/" ++ found.1) = past_project.1 ∙ ap (λ t. slash ∷ t) found.2 in
    let count = ap length rest_is in
    let more = length-append (codes "deposits/") found.1 in
    let fits : project_end path + 10 ≤ length path = omega arith in
    let at_slash : get_or path (13 + (n + 9)) 0 ≡ slash =
    ap (λ t. get_or t (13 + (n + 9)) 0) front.1 ∙ get_or-append-add front_bytes q (n + 9) 0 ∙ sym (get_or-drop n q 9 0) ∙ ap (λ t. get_or t 9 0) rest_is in
    let next : 13 + (n + 9) + 1 ≡ project_end path + 10 = omega arith in
    let boundary = subst (IsCharBoundary path) next (IsCharBoundary-after_ascii path (13 + (n + 9)) text (omega arith) (omega arith)) in
    subst (λ s. AllText (taken s path)) (sym found.0) (deposit_text path cut fits boundary)))
    (ends_of past_project.0 r (bytes_after one_slash past_project.0 (subst AreBytes past_project.1 (λ k. omega (arith, get_or-drop n q k 0, rest (n + k))))) past_project.2)
  where
    get_or-drop-at : (m : ℕ) (l : List ℕ) → get_or (drop m l) 0 0 ≡ get_or l m 0
    get_or-drop-at m l = get_or-drop m l 0 0 ∙ ap (λ k. get_or l k 0) (omega arith)

-- the same of the parameters of the match
pub params_are_text : (path : List ℕ) (params : Params) (page : Page) → IsUtf8 path → AreBytes path
    → params.path.now ≡ path
    → route_of path
    ≡ Some (record { pattern = params.pattern.now; text = params.text.now; names = params.names.now; value = page })
    → AllText (taken_by params)
params_are_text path params page text bytes same found = rw same (parts_are_text path _ text bytes found)

-- a route that was found, with its parts
pub found_is : (path : List ℕ) (r : RouteOf Page) (project number : List ℕ) → route_of path ≡ Some r
    → project ≡ param (codes "project") r path → number ≡ param (codes "number") r path
    → page_in path ≡ Ok (record { page = r.value; project = project; number = number })
found_is path r project number found first_is second_is = rw (found, first_is, second_is) refl
