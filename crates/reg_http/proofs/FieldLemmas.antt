-- The values of a name, one field at a time.
use Rattle.std.proofs.Common.{◌≡◌, ℕ, ◌+◌, ◌<◌, Bool, true, false, List, [], ◌∷◌, ◌++◌, length, take, map, get_or, refl, sym, ap, ◌∙◌, add-one, subst}
use Rattle.std.proofs.lemmas.List.{map-append, append-nil}
use Rattle.std.proofs.lemmas.List.Elements.{filter-append}
use Rattle.std.proofs.Math.Seq.{take-suc}
use Rattle.std.specs.Prelude.{filter}
use Rattle.std.specs.Str.{str_eq_ignore_ascii_case}
use Rattle.httparse.specs.Spans.{header_bytes, span_bytes}
use Rattle.httparse.specs.declared.spans.HeaderSpan.{HeaderSpan}
use Rattle.reg_http.specs.declared.request.fields.Values.{Values}
use Rattle.reg_http.specs.Fields.{AreValues, values_of}

-- the values of two lists of fields
values-append : (name : List ℕ) (xs ys : List (List ℕ × List ℕ)) → values_of name (xs ++ ys) ≡ values_of name xs ++ values_of name ys
values-append name xs ys =
    let test : List ℕ × List ℕ → Bool = λ (n, v). str_eq_ignore_ascii_case n name in
    let value : List ℕ × List ℕ → List ℕ = λ (n, v). v in
    ap (map value) (filter-append test xs ys) ∙ map-append value (filter test xs) (filter test ys)

-- one field more
values-next : (buf name : List ℕ) (headers : List HeaderSpan) (i : ℕ) (d : HeaderSpan) → i < length headers
    → values_of name (map (header_bytes buf) (take (i + 1) headers))
    ≡ values_of name (map (header_bytes buf) (take i headers)) ++ values_of name (header_bytes buf (get_or headers i d) ∷ [])
values-next buf name headers i d inside =
    ap (λ j. values_of name (map (header_bytes buf) (take j headers))) (add-one i)
    ∙ ap (λ t. values_of name (map (header_bytes buf) t)) (take-suc headers i d inside)
    ∙ ap (values_of name) (map-append (header_bytes buf) (take i headers) (get_or headers i d ∷ []))
    ∙ values-append name (map (header_bytes buf) (take i headers)) (header_bytes buf (get_or headers i d) ∷ [])

-- a field of the name
pub AreValues-same : (buf name n v : List ℕ) (headers : List HeaderSpan) (i : ℕ) (d : HeaderSpan) (found : Values) → i < length headers
    → n ≡ span_bytes buf (get_or headers i d).name → v ≡ span_bytes buf (get_or headers i d).value
    → str_eq_ignore_ascii_case n name ≡ true
    → AreValues (values_of name (map (header_bytes buf) (take i headers)) ++ v ∷ []) found
    → AreValues (values_of name (map (header_bytes buf) (take (i + 1) headers))) found
AreValues-same buf name n v headers i d found inside named valued same are =
    let last : values_of name (header_bytes buf (get_or headers i d) ∷ []) ≡ v ∷ [] = rw (← named, ← valued, same) refl in
    subst (λ (t : List (List ℕ)). AreValues t found)
    (sym (values-next buf name headers i d inside ∙ ap (λ t. values_of name (map (header_bytes buf) (take i headers)) ++ t) last)) are

-- a field of another name
pub AreValues-other : (buf name n : List ℕ) (headers : List HeaderSpan) (i : ℕ) (d : HeaderSpan) (found : Values) → i < length headers
    → n ≡ span_bytes buf (get_or headers i d).name → str_eq_ignore_ascii_case n name ≡ false
    → AreValues (values_of name (map (header_bytes buf) (take i headers))) found
    → AreValues (values_of name (map (header_bytes buf) (take (i + 1) headers))) found
AreValues-other buf name n headers i d found inside named other are =
    let last : values_of name (header_bytes buf (get_or headers i d) ∷ []) ≡ [] = rw (← named, other) refl in
    subst (λ (t : List (List ℕ)). AreValues t found)
    (sym (values-next buf name headers i d inside ∙ ap (λ t. values_of name (map (header_bytes buf) (take i headers)) ++ t) last ∙ append-nil _)) are
