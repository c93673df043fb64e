-- The rows that record links name, part after part.
use Rattle.std.proofs.Common.{◌≡◌, ℕ, ◌+◌, ◌<◌, ◌≤◌, Bool, true, false, not, eqb, List, [], ◌∷◌, ◌++◌, length, get_or, take, refl, sym, subst, inl, inr, ◌⊎◌, ◌↔◌, Contains, IsTrue, Bor}
use Rattle.std.specs.List.Sorted.{IsStrictlyIncreasing}
use Rattle.std.proofs.lemmas.Bool.{true≢false}
use Rattle.std.proofs.lemmas.List.{take_all}
use Rattle.std.proofs.lemmas.List.Elements.{Contains-get_or, Contains-push, Contains-push_cases, Contains-append_left, Contains-append_right, Contains-append_cases}
use Rattle.ags_links.specs.Adding.{AddsRows}
use Rattle.ags_rows.specs.Collecting.{At}
use Rattle.ags_links.specs.DataRows.{DataFile, DataRow, ListsRows}
use Rattle.ags_links.specs.Indexing.{rows_in, IsNamedBy, IsNamedAmong, IsLinkedAt}
use Rattle.ags_links.specs.RecordLinks.{separators_of, IsPartOf, IsBroken}
use Rattle.ags_links.specs.Steps.{IsLinkedPart, Linked}
use Rattle.ags_links.proofs.Kept.{texts, texts_next}
use Rattle.ags_links.proofs.Members.{contains_map, no_items, some_items}
use Rattle.ags_links.proofs.RowLemmas.{one_at}
use Rattle.ags_rows.proofs.Lemmas.{none_is}

-- ---- what is added

pub adds_listed : (old new rows : List ℕ) (IsOne : ℕ → Type 0) → new ≡ old ++ rows → ListsRows rows IsOne → AddsRows old new IsOne
adds_listed old new rows IsOne e lists = record {
  only = λ n h. elim (Contains-append_cases old rows n (subst (λ l. Contains l n) e h)) [ inl was ↦ inl was | inr is ↦ inr ((lists.exact n).0 is) ];
  kept = λ n h. subst (λ l. Contains l n) (sym e) (Contains-append_left old rows n h);
  all = λ n h. subst (λ l. Contains l n) (sym e) (Contains-append_right old rows n ((lists.exact n).1 h));
}

pub adds_then : (first second third : List ℕ) (IsOne IsNext IsBoth : ℕ → Type 0) → AddsRows first second IsOne → AddsRows second third IsNext
    → ((n : ℕ) → IsOne n → IsBoth n) → ((n : ℕ) → IsNext n → IsBoth n) → ((n : ℕ) → IsBoth n → IsOne n ⊎ IsNext n) → AddsRows first third IsBoth
adds_then first second third IsOne IsNext IsBoth one next left right split = record {
  only = λ n h. elim (next.only n h) [
    | inl was ↦ elim (one.only n was) [ inl older ↦ inl older | inr is ↦ inr (left n is) ]
    | inr is ↦ inr (right n is)
  ];
  kept = λ n h. next.kept n (one.kept n h);
  all = λ n h. elim (split n h) [ inl is ↦ next.kept n (one.all n is) | inr is ↦ next.all n is ];
}

pub adds_same : (old new : List ℕ) (IsOne IsAlso : ℕ → Type 0) → AddsRows old new IsOne → ((n : ℕ) → IsOne n → IsAlso n) → ((n : ℕ) → IsAlso n → IsOne n) → AddsRows old new IsAlso
adds_same old new IsOne IsAlso adds to from = record {
  only = λ n h. elim (adds.only n h) [ inl was ↦ inl was | inr is ↦ inr (to n is) ];
  kept = adds.kept;
  all = λ n h. adds.all n (from n h);
}

pub adds_none : (old : List ℕ) (IsOne : ℕ → Type 0) → ((n : ℕ) → IsOne n → ⊥) → AddsRows old old IsOne
adds_none old IsOne none = record { only = λ n h. inl h; kept = λ n h. h; all = λ n h. absurd (none n h) }

-- ---- parts

pub among_next : (file : DataFile) (old found new rows : List ℕ) (parts : List (List ℕ)) (part : List ℕ) → AddsRows old found (IsNamedAmong file parts) → ListsRows rows (IsNamedBy file part) → new ≡ found ++ rows
    → AddsRows old new (IsNamedAmong file (parts ++ part ∷ []))
among_next file old found new rows parts part so_far lists e =
    adds_then old found new (IsNamedAmong file parts) (IsNamedBy file part) (IsNamedAmong file (parts ++ part ∷ [])) so_far (adds_listed found new rows (IsNamedBy file part) e lists)
    (λ n h. (h.0, Contains-append_left parts (part ∷ []) h.0 h.1, h.2))
    (λ n h. (part, Contains-push parts part, h))
    (λ n h. elim (Contains-push_cases parts part h.0 h.1) [
      | inl was ↦ inl (h.0, was, h.2)
      | inr is ↦ inr (subst (λ p. IsNamedBy file p n) (sym is) h.2)
    ])

-- each of the parts names a row
abbrev pub EachNames : DataFile → List (List ℕ) → Type 0
EachNames file parts = (part : List ℕ) → Contains parts part → (n : ℕ) × IsNamedBy file part n

some_listed : (rows : List ℕ) (IsOne : ℕ → Type 0) → ListsRows rows IsOne → (t : Bool) → t ≡ eqb (length rows) 0 → t ≡ false → (n : ℕ) × IsOne n
some_listed rows IsOne lists t e is = (get_or rows 0 0, (lists.exact (get_or rows 0 0)).0 (Contains-get_or rows 0 0 (some_items rows t e is)))

none_listed : (rows : List ℕ) (IsOne : ℕ → Type 0) → ListsRows rows IsOne → (t : Bool) → t ≡ eqb (length rows) 0 → t ≡ true → (n : ℕ) → IsOne n → ⊥
none_listed rows IsOne lists t e is n h = none_is n (subst (λ l. Contains l n) (no_items rows t e is) ((lists.exact n).1 h))

pub has_listed : (rows : List ℕ) (IsOne : ℕ → Type 0) → ListsRows rows IsOne → (t : Bool) → t ≡ eqb (length rows) 0 → IsTrue (not t) ↔ ((n : ℕ) × IsOne n)
has_listed rows IsOne lists true e = (λ h. absurd (true≢false (sym h)), λ h. absurd (none_listed rows IsOne lists true e refl h.0 h.1))
has_listed rows IsOne lists false e = (λ h. some_listed rows IsOne lists false e refl, λ h. refl)

pub each_next : (file : DataFile) (parts : List (List ℕ)) (part : List ℕ) (rows : List ℕ) → EachNames file parts → ListsRows rows (IsNamedBy file part) → (t : Bool) → t ≡ eqb (length rows) 0 → t ≡ false → EachNames file (parts ++ part ∷ [])
each_next file parts part rows so_far lists t e is other h = elim (Contains-push_cases parts part other h) [
  | inl was ↦ so_far other was
  | inr same ↦ subst (λ p. (n : ℕ) × IsNamedBy file p n) same (some_listed rows (IsNamedBy file part) lists t e is)
]

-- what the parts of a row's record links name is what the row links to
pub linked_rows : (file : DataFile) (n : ℕ) (r : DataRow) (parts : List (List ℕ)) (old new : List ℕ) → At (rows_in file) n r
    → ((part : List ℕ) → Contains parts part ↔ IsLinkedPart (separators_of file.contents) r part) → AddsRows old new (IsNamedAmong file parts) → AddsRows old new (IsLinkedAt file n)
linked_rows file n r parts old new row same adds = adds_same old new (IsNamedAmong file parts) (IsLinkedAt file n) adds
    (λ m h. let link = (same h.0).0 h.1 in (r, h.2.0, row, h.2.1, (link.0, link.1, (h.0, link.2, h.2.2))))
    (λ m h.
    let is = one_at (rows_in file) n h.0 r h.2 row in
    let linked : Linked file.entries (separators_of file.contents) r h.1 = subst (λ q. Linked file.entries (separators_of file.contents) q h.1) is h.4 in
    (linked.2.0, (same linked.2.0).1 (linked.0, linked.1, linked.2.1), (h.1, h.3, linked.2.2)))

-- each number once
pub once_lists : (old new once : List ℕ) (IsOne : ℕ → Type 0) → old ≡ [] → AddsRows old new IsOne → ((n : ℕ) → Contains once n ↔ Contains new n) → IsStrictlyIncreasing once → ListsRows once IsOne
once_lists old new once IsOne empty adds same rises = record {
  rising = rises;
  exact = λ n. (
    λ h. elim (adds.only n ((same n).0 h)) [ inl was ↦ absurd (none_is n (subst (λ l. Contains l n) empty was)) | inr is ↦ is ],
    λ h. (same n).1 (adds.all n h),
  );
}

-- the rows that some part of an entry names, each once
pub link_lists : (file : DataFile) (r : DataRow) (heading : List ℕ) (parts : List (List ℕ)) (found once : List ℕ) → ((part : List ℕ) → Contains parts part ↔ IsPartOf (separators_of file.contents) r heading part)
    → AddsRows [] found (IsNamedAmong file parts) → ((n : ℕ) → Contains once n ↔ Contains found n) → IsStrictlyIncreasing once
    → ListsRows once (λ m. (part : List ℕ) × IsPartOf (separators_of file.contents) r heading part × IsNamedBy file part m)
link_lists file r heading parts found once cut adds same rises =
    let IsOne = λ (m : ℕ). (part : List ℕ) × IsPartOf (separators_of file.contents) r heading part × IsNamedBy file part m in
    once_lists [] found once IsOne refl
    (adds_same [] found (IsNamedAmong file parts) IsOne adds
    (λ m h. (h.0, (cut h.0).0 h.1, h.2))
    (λ m h. (h.0, (cut h.0).1 h.1, h.2)))
    same rises

-- ---- going over the parts of a cell

-- the parts of what is in the row under a heading
abbrev pub ArePartsOf : DataFile → DataRow → List ℕ → List (Bor (List ℕ)) → Type 0
ArePartsOf file r heading parts = (part : List ℕ) → Contains (texts parts) part ↔ IsPartOf (separators_of file.contents) r heading part

-- a part more names a row
pub part_names : (file : DataFile) (parts : List (Bor (List ℕ))) (i : ℕ) (rows : List ℕ) (d : Bor (List ℕ)) → i < length parts → EachNames file (texts (take i parts)) → ListsRows rows (IsNamedBy file (get_or parts i d).now)
    → (t : Bool) → t ≡ eqb (length rows) 0 → t ≡ false → EachNames file (texts (take (i + 1) parts))
part_names file parts i rows d lt so_far lists t e is =
    subst (EachNames file) (sym (texts_next parts i d lt)) (each_next file (texts (take i parts)) (get_or parts i d).now rows so_far lists t e is)

-- a part names no row
pub part_broken : (file : DataFile) (r : DataRow) (heading : List ℕ) (parts : List (Bor (List ℕ))) (i : ℕ) (rows : List ℕ) (d : Bor (List ℕ)) → ArePartsOf file r heading parts → i < length parts
    → ListsRows rows (IsNamedBy file (get_or parts i d).now) → (t : Bool) → t ≡ eqb (length rows) 0 → t ≡ true → IsBroken file.entries (separators_of file.contents) (rows_in file) r heading
part_broken file r heading parts i rows d are lt lists t e is =
    let part = get_or parts i d in (
      part.now,
      (are part.now).0 (contains_map (λ (p : Bor (List ℕ)). p.now) parts part (Contains-get_or parts i d lt)),
      none_listed rows (IsNamedBy file part.now) lists t e is,
    )

-- no part is left
pub parts_named : (file : DataFile) (r : DataRow) (heading : List ℕ) (parts : List (Bor (List ℕ))) (i : ℕ) → ArePartsOf file r heading parts → length parts ≤ i → EachNames file (texts (take i parts))
    → (part : List ℕ) → IsPartOf (separators_of file.contents) r heading part → (n : ℕ) × IsNamedBy file part n
parts_named file r heading parts i are past each part is = subst (λ ps. EachNames file (texts ps)) (take_all i parts past) each part ((are part).1 is)
