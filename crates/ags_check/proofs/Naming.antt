-- Going over a list of names, and what is noted of each.
use Rattle.std.proofs.Common.{◌≡◌, ℕ, ◌+◌, ◌<◌, ◌≤◌, Bool, true, false, not, Option, Some, None, List, length, get_or, map, refl, sym, ap, subst, ◌∙◌, arith}
use Rattle.std.specs.Prelude.{is_some}
use Rattle.std.specs.Borrow.{Bor}
use Rattle.std.proofs.lemmas.Bool.{true≢false}
use Rattle.std.proofs.lemmas.List.{length-map}
use Rattle.ags_rows.specs.declared.code.Code.{Code}
use Rattle.ags_rows.specs.declared.finding.Finding.{Finding}
use Rattle.ags_rows.specs.declared.rows.Group.{Group}
use Rattle.ags_rows.specs.Collecting.{At, Adds, Notes, AmongBefore}
use Rattle.ags_rows.proofs.Lemmas.{at_from_read, at_map, adds_same, among_more, among_all}
use Rattle.ags_check.specs.Placing.{AtNames, AtHeading}

abbrev pub texts : List (Bor (List ℕ)) → List (List ℕ)
texts names = map (λ name. name.now) names

-- what is noted of the name at a place
abbrev pub NotesName : ℕ → Code → (ℕ → List ℕ → Type 0) → ℕ → List ℕ → Finding → Type 0
NotesName line code Breaks place name found = Notes line code name (Breaks place name) found

pub name_at : (names : List (Bor (List ℕ))) (i : ℕ) (d : Bor (List ℕ)) → i < length names → At (texts names) i (get_or names i d).now
name_at names i d lt = at_map (λ (k : Bor (List ℕ)). k.now) names i (get_or names i d) (at_from_read names i _ d lt refl)

-- one name more
pub names_more : (names : List (Bor (List ℕ))) (line : ℕ) (code : Code) (Breaks : ℕ → List ℕ → Type 0) (i : ℕ) (d : Bor (List ℕ)) (old mid new : List Finding)
    → i < length names → Adds (AmongBefore (texts names) (NotesName line code Breaks) i) old mid
    → Adds (NotesName line code Breaks i (get_or names i d).now) mid new → Adds (AmongBefore (texts names) (NotesName line code Breaks) (i + 1)) old new
names_more names line code Breaks i d old mid new lt before here =
    among_more (texts names) (NotesName line code Breaks) i (get_or names i d).now old mid new (name_at names i d lt) before here

-- all names
pub names_all : (names : List (Bor (List ℕ))) (line : ℕ) (code : Code) (Breaks : ℕ → List ℕ → Type 0) (i : ℕ) (old new : List Finding)
    → length names ≤ i → Adds (AmongBefore (texts names) (NotesName line code Breaks) i) old new → Adds (AtNames line code (texts names) Breaks) old new
names_all names line code Breaks i old new le x =
    among_all (texts names) (NotesName line code Breaks) i old new (omega (arith, length-map names (λ (k : Bor (List ℕ)). k.now))) x

-- a test whether there is a place
pub is_none_true : (place : Option ℕ) (b : Bool) → is_some place ≡ not b → b ≡ true → place ≡ None
is_none_true None b e t = refl
is_none_true (Some p) b e t = absurd (true≢false (e ∙ ap not t))

pub is_none_from : (place : Option ℕ) (b : Bool) → is_some place ≡ not b → place ≡ None → b ≡ true
is_none_from place true e n = refl
is_none_from place false e n = absurd (true≢false (sym e ∙ ap is_some n))

-- ---- from the names of a list to the HEADING row

-- what is noted of the names is the rule of the HEADING row
pub at_heading : (names : List (List ℕ)) (group : Group) (code : Code) (Breaks : ℕ → List ℕ → Type 0) (Rule : List ℕ → Type 0) (old new : List Finding)
    → ((place : ℕ) (name : List ℕ) → At names place name → Breaks place name → Rule name)
    → ((name : List ℕ) → Rule name → (place : ℕ) × At names place name × Breaks place name)
    → Adds (AtNames group.heading_line code names Breaks) old new → Adds (AtHeading code Rule group) old new
at_heading names group code Breaks Rule old new to from x =
    adds_same old new
    (λ f h.
    let e : f.subject ≡ h.1 = h.3.3 in
    (to h.0 f.subject (subst (At names h.0) (sym e) h.2) (subst (Breaks h.0) (sym e) h.3.0), h.3.1, h.3.2))
    (λ f h. let k = from f.subject h.0 in (k.0, f.subject, k.1, (k.2, h.1, h.2, refl)))
    x
