-- No two lists of texts have one key text.
use Rattle.std.proofs.Common.{◌≡◌, ℕ, List, [], ◌∷◌, ◌++◌, flat_map, length, length-append, arith, refl, sym, ap, ◌∙◌, append_assoc}
use Rattle.std.proofs.lemmas.Bool.Decides.{nat_tests}
use Rattle.ags_links.specs.KeyTexts.{byte_text, ended_text, key_text}

-- a byte of a text is no end
ends_not : (b : ℕ) (x y : List ℕ) → 0 ∷ x ≡ byte_text b ++ y → ⊥
ends_not b x y e = grind (arith, nat_tests)

bytes_same : (a b : ℕ) (x y : List ℕ) → byte_text a ++ x ≡ byte_text b ++ y → (a ≡ b) × (x ≡ y)
bytes_same a b x y e = (grind (arith, nat_tests), grind (arith, nat_tests))

-- texts, each with its end and more
ended_same : (s t x y : List ℕ) → flat_map byte_text s ++ 0 ∷ x ≡ flat_map byte_text t ++ 0 ∷ y → (s ≡ t) × (x ≡ y)
ended_same [] [] x y e = (refl, cc)
ended_same [] (b ∷ t) x y e = absurd (ends_not b x (flat_map byte_text t ++ 0 ∷ y) (e ∙ append_assoc (byte_text b) (flat_map byte_text t) (0 ∷ y)))
ended_same (a ∷ s) [] x y e = absurd (ends_not a y (flat_map byte_text s ++ 0 ∷ x) (sym e ∙ append_assoc (byte_text a) (flat_map byte_text s) (0 ∷ x)))
ended_same (a ∷ s) (b ∷ t) x y e =
    let h = bytes_same a b (flat_map byte_text s ++ 0 ∷ x) (flat_map byte_text t ++ 0 ∷ y)
    (sym (append_assoc (byte_text a) (flat_map byte_text s) (0 ∷ x)) ∙ e ∙ append_assoc (byte_text b) (flat_map byte_text t) (0 ∷ y)) in
    let rest = ended_same s t x y h.1 in
    (ap (λ n. n ∷ s) h.0 ∙ ap (λ l. b ∷ l) rest.0, rest.1)

no_text : (t x : List ℕ) → [] ≡ ended_text t ++ x → ⊥
no_text t x e = omega (arith, simp length-append at (ap length e))

pub key_text_same : (ss ts : List (List ℕ)) → key_text ss ≡ key_text ts → ss ≡ ts
key_text_same [] [] e = refl
key_text_same [] (t ∷ ts) e = absurd (no_text t (key_text ts) e)
key_text_same (s ∷ ss) [] e = absurd (no_text s (key_text ss) (sym e))
key_text_same (s ∷ ss) (t ∷ ts) e =
    let h = ended_same s t (key_text ss) (key_text ts) (sym (append_assoc (flat_map byte_text s) (0 ∷ []) (key_text ss)) ∙ e ∙ append_assoc (flat_map byte_text t) (0 ∷ []) (key_text ts)) in
    ap (λ l. l ∷ ss) h.0 ∙ ap (λ l. t ∷ l) (key_text_same ss ts h.1)
