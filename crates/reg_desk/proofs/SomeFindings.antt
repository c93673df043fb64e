-- There is a list of findings of each body under each dictionary: it is not so that there is none.
use Rattle.std.proofs.Common.{◌≡◌, ℕ, zero, suc, ◌+◌, ◌<◌, ◌≤◌, true, eqb, Option, Some, None, ◌⊎◌, List, [], ◌∷◌, ◌++◌, length, take, map, refl, sym, ap, subst, ◌∙◌, inl, inr, arith}
use Rattle.std.specs.Prelude.{Contains, position}
use Rattle.std.specs.declared.cmp.Ordering.{Ordering}
use Rattle.std.specs.declared.cmp.Ordering.TheVariants.{Less, Equal, Greater}
use Rattle.std.specs.List.{AllByRecursion}
use Rattle.std.specs.List.Sorted.{IsStrictlySortedBy}
use Rattle.std.proofs.lemmas.List.Elements.{Contains-append_left, Contains-append_right, Contains-append_cases}
use Rattle.std.specs.Ordering.{ordering_reverse}
use Rattle.ags_rows.specs.declared.code.Code.{Code}
use Rattle.ags_rows.specs.declared.code.Code.TheVariants.{Rule2, Rule7, Rule10a, Rule10b, Rule11c, Rule19b}
use Rattle.ags_rows.specs.declared.finding.Finding.{Finding}
use Rattle.ags_rows.specs.declared.rows.Group.{Group}
use Rattle.ags_rows.specs.declared.rows.Row.{Row}
use Rattle.ags_rows.specs.Contents.{Contents, group_contents, contents_of}
use Rattle.ags_rows.specs.FindingOrder.{finding_cmp, finding_total}
use Rattle.ags_rows.specs.Collecting.{At, Adds, finding_at, Notes, Among, OneOf}
use Rattle.ags_rows.specs.Findings.{AreExactly, FirstFound, FileParts, ArePartsOf, phases}
use Rattle.ags_rows.specs.Lines.{TextLine, after_byte_order_mark}
use Rattle.ags_rows.specs.Parsing.{IsFirstLine}
use Rattle.ags_rows.specs.Rows.{RowsFrom}
use Rattle.ags_rows.specs.Stands.{line_rules, row_rules, shape_rules, name_rules, heading_rules, group_rules, StandsInLines, StandsInGroups}
use Rattle.ags_rows.proofs.Lemmas.{contains_at, at_contained, at_later, at_earlier, none_is, is_one, one_is, adds_none, adds_both, adds_same, adds_found, adds_clear, one_none, one_more, listed_all, none_listed, some_groups, byte_found, byte_none, line_none, line_lf, line_crlf, line_falls, lines_from_cut, AreCut, finding_exact}
use Rattle.ags_dict.specs.Entries.{Entries, extended, order_of, keys_of, required_of, has_group}
use Rattle.ags_check.specs.Findings.{Findings, dictionary_phases}
use Rattle.ags_check.specs.Header.{StandsInDictionary, file_rules, group_header_rules, heading_row_rules, tran_and_proj_rules, unknown_code}
use Rattle.ags_check.specs.RowRules.{headed_row, unit_and_type_rules, row_entry_rules, data_row_rules, entry_rules_of, StandsInEntries, IsBrokenLink}
use Rattle.ags_links.specs.DataRows.{entry_of, rows_before}
use Rattle.ags_check.specs.Header.{IsMisplaced, IsMisnamed}
use Rattle.ags_check.specs.Placing.{InSome}
use Rattle.reg_desk.specs.Laws.{ThereIs}

-- ---- a fact holds, or it does not

pub either : (A : Type 0) → ((A ⊎ (A → ⊥)) → ⊥) → ⊥
either A none = none (inr (λ a. none (inl a)))

-- ---- findings of a rule

-- the findings can be listed
abbrev Listed : (Finding → Type 0) → Type 0
Listed Stands = ThereIs (λ more. Adds Stands [] more)

note : {line : ℕ} {code : Code} {subject : List ℕ} {Fact : Type 0} → Listed (Notes line code subject Fact)
note {line} {code} {subject} {Fact} none = either Fact (λ x. elim x [
  | inl fact ↦ none (finding_at line code subject ∷ []) (adds_found fact refl)
  | inr never ↦ none [] (adds_clear never refl)
])

-- what is listed by itself is listed after others
adds_after : {Stands : Finding → Type 0} (front more : List Finding) → Adds Stands [] more → Adds Stands front (front ++ more)
adds_after front more x = record { more = x.more; joined = ap (λ (l : List Finding). front ++ l) x.joined; only = x.only; all = x.all }

abbrev AllListed : List (Finding → Type 0) → Type 0
AllListed [] = Unit {0}
AllListed (Stands ∷ rules) = Listed Stands × AllListed rules

listed_rules : (rules : List (Finding → Type 0)) → AllListed rules → Listed (OneOf rules)
listed_rules [] all none = none [] (one_none [])
listed_rules (Stands ∷ rules) all none = all.0 (λ a x. listed_rules rules all.1 (λ b y. none (a ++ b) (one_more Stands rules [] a (a ++ b) x (adds_after a b y))))

nowhere : {X A : Type 0} (place : ℕ) (x : X) → At [] place x → A
nowhere place x at = absurd (omega (arith, at.0))

listed_among : {X : Type 0} (xs : List X) (Stands : ℕ → X → Finding → Type 0) → ((place : ℕ) (x : X) → Listed (Stands place x)) → Listed (Among xs Stands)
listed_among [] Stands each none = none [] (adds_none [] (λ f h. nowhere h.0 h.1 h.2))
listed_among {X} (x ∷ xs) Stands each none =
    each 0 x (λ a first. listed_among xs (λ place. Stands (suc place)) (λ place. each (suc place)) (λ b rest.
    none (a ++ b) (adds_both [] a (a ++ b) first (adds_after a b rest) (λ f h. (0, x, (omega arith, refl), h)) (λ f h. (suc h.0, h.1, at_later x xs h.0 h.1 h.2, h.3)) cases)))
  where
    cases : (f : Finding) → Among (x ∷ xs) Stands f → Stands 0 x f ⊎ Among xs (λ place. Stands (suc place)) f
    cases f (zero, y, at, h) = inl (subst (λ (z : X). Stands 0 z f) (sym at.1) h)
    cases f (suc place, y, at, h) = inr (place, y, at_earlier x xs place y at, h)

-- of a subject that is one of these names
listed_names : (line : ℕ) (code : Code) (names : List (List ℕ)) (Breaks : List ℕ → Type 0) → ((name : List ℕ) → Breaks name → Contains names name) → Listed (λ f. Breaks f.subject × (f.line ≡ line) × (f.code ≡ code))
listed_names line code names Breaks within none =
    listed_among names (λ place name. Notes line code name (Breaks name)) (λ place name. note) (λ more x.
    none more (adds_same [] more (λ f h. (subst Breaks (sym h.3.3) h.3.0, h.3.1, h.3.2)) (λ f h. (let at = within f.subject h.0 in (at.0, f.subject, at_contained names f.subject at, (h.0, h.1, h.2, refl)))) x))

listed_where : (Fact : Type 0) (Stands : Finding → Type 0) → Listed Stands → Listed (λ f. Fact × Stands f)
listed_where Fact Stands rest none = either Fact (λ x. elim x [
  | inl fact ↦ rest (λ more x. none more (adds_same [] more (λ f h. (fact, h)) (λ f h. h.1) x))
  | inr never ↦ none [] (adds_none [] (λ f h. never h.0))
])

-- ---- findings of a phase

listed_lines : (lines : List TextLine) → Listed (StandsInLines lines)
listed_lines lines = listed_among lines _ (λ place line. listed_rules (line_rules (place + 1) line) (note, (note, (note, (note, (note, tt))))))

listed_groups : (groups : List Group) → Listed (StandsInGroups groups)
listed_groups groups =
    let names = map (λ (g : Group). g.name) groups in
    listed_among groups _ (λ place group. listed_rules (group_rules names place group) (
      listed_rules (shape_rules group) (note, (note, (note, (note, (listed_among group.rows _ (λ at row. note), tt))))),
      (
        listed_rules (name_rules names place group) (note, (note, tt)),
        (listed_among group.headings _ (λ at heading. listed_rules (heading_rules group at heading) (note, (note, tt))), tt),
      ),
    ))

-- in the one list and not in the other
abbrev IsInAlone : List (List ℕ) → List (List ℕ) → List ℕ → Type 0
IsInAlone these those name = Contains these name × (Contains those name → ⊥)

listed_heading_row : (given entries : Entries) (unknown : Code) (group : Group) → Listed (OneOf (heading_row_rules given entries unknown group))
listed_heading_row given entries unknown group = listed_rules (heading_row_rules given entries unknown group) (
  listed_names group.heading_line Rule7 group.headings (IsMisplaced (order_of entries group.name) group.headings) (λ name h. contains_at group.headings h.0 name h.3),
  (
    listed_names group.heading_line unknown group.headings (IsInAlone group.headings (order_of entries group.name)) (λ name h. h.0),
    (
      listed_names group.heading_line Rule10a (keys_of entries group.name) (IsInAlone (keys_of entries group.name) group.headings) (λ name h. h.0),
      (
        listed_names group.heading_line Rule10b (required_of entries group.name) (IsInAlone (required_of entries group.name) group.headings) (λ name h. h.0),
        (listed_names group.heading_line Rule19b group.headings (IsMisnamed given entries (group_contents group)) (λ name h. h.0), tt),
      ),
    ),
  ),
)

listed_headers : (given entries : Entries) (groups : List Group) → Listed (StandsInDictionary given entries groups)
listed_headers given entries groups =
    let file = contents_of groups in
    let unknown = unknown_code file in
    listed_rules (InSome groups (group_header_rules given entries file unknown) ∷ file_rules file) (
      listed_among groups _ (λ place group. listed_rules (group_header_rules given entries file unknown group) (
        note,
        (
          note,
          (
            listed_where (has_group entries group.name ≡ true) (OneOf (heading_row_rules given entries unknown group)) (listed_heading_row given entries unknown group),
            (listed_among group.rows _ (λ at row. listed_rules (tran_and_proj_rules group at row) (note, (note, (note, (note, tt))))), tt),
          ),
        ),
      )),
      (note, (note, (note, (note, tt)))),
    )

listed_row : (entries : Entries) (file : List Contents) (group : Group) (number : ℕ) (row : Row) → Listed (OneOf (data_row_rules entries file group number row))
listed_row entries file group number row =
    let stands = headed_row group row in
    listed_rules (data_row_rules entries file group number row) (
      listed_among group.headings _ (λ at heading. listed_rules (row_entry_rules file group row heading) (note, (note, (note, (note, tt))))),
      (
        note,
        (
          listed_among (required_of entries group.name) _ (λ at heading. listed_rules (Notes row.line Rule10b heading (entry_of stands heading ≡ []) ∷ []) (note, tt)),
          (
            note,
            (listed_among group.headings _ (λ at heading. listed_rules (Notes row.line Rule11c heading (IsBrokenLink entries file stands heading) ∷ []) (note, tt)), (note, tt)),
          ),
        ),
      ),
    )

listed_entries : (entries : Entries) (groups : List Group) → Listed (StandsInEntries entries groups)
listed_entries entries groups =
    let file = contents_of groups in
    listed_among groups _ (λ place group. listed_rules (entry_rules_of entries file (rows_before file place) group) (
      listed_among group.headings _ (λ at heading. listed_rules (unit_and_type_rules file group heading) (note, (note, tt))),
      (listed_among group.rows _ (λ at row. listed_row entries file group (rows_before file place + at) row), tt),
    ))

-- ---- in their order

-- a list in order with one finding more, where it has not that one
record IsWith (f : Finding) (xs out : List Finding) : Type 0 where
  order : IsStrictlySortedBy finding_cmp out
  above : (x : Finding) → AllByRecursion (λ y. finding_cmp x y ≡ Less) xs → finding_cmp x f ≡ Less → AllByRecursion (λ y. finding_cmp x y ≡ Less) out
  only : (g : Finding) → Contains out g → (f ≡ g) ⊎ Contains xs g
  here : Contains out f
  keeps : (g : Finding) → Contains xs g → Contains out g

all_above : (f x : Finding) (ys : List Finding) → finding_cmp f x ≡ Less → AllByRecursion (λ y. finding_cmp x y ≡ Less) ys → AllByRecursion (λ y. finding_cmp f y ≡ Less) ys
all_above f x [] e all = tt
all_above f x (y ∷ ys) e all = (finding_total.trans f x y e all.0, all_above f x ys e all.1)

placed : (f : Finding) (xs : List Finding) → IsStrictlySortedBy finding_cmp xs → (out : List Finding) × IsWith f xs out
unfolding IsStrictlySortedBy
placed f [] sorted = (f ∷ [], record { order = (tt, tt); above = λ x all e. (e, tt); only = λ g h. inl (one_is f g h); here = is_one f; keeps = λ g h. absurd (none_is g h) })
placed f (x ∷ xs) sorted = by (finding_cmp f x) refl (placed f xs sorted.1)
  where
    by : (r : Ordering) → finding_cmp f x ≡ r → (out : List Finding) × IsWith f xs out → (out : List Finding) × IsWith f (x ∷ xs) out
    by Less e rest = (
      f ∷ x ∷ xs,
      record {
        order = ((e, all_above f x xs e sorted.0), sorted);
        above = λ y all less. (less, all);
        only = λ g h. elim (Contains-append_cases (f ∷ []) (x ∷ xs) g h) [ inl k ↦ inl (one_is f g k) | inr k ↦ inr k ];
        here = Contains-append_left (f ∷ []) (x ∷ xs) f (is_one f);
        keeps = λ g h. Contains-append_right (f ∷ []) (x ∷ xs) g h;
      },
    )
    by Equal e rest = (
      x ∷ xs,
      record {
        order = sorted;
        above = λ y all less. all;
        only = λ g h. inr h;
        here = subst (Contains (x ∷ xs)) (sym (finding_exact f x e)) (Contains-append_left (x ∷ []) xs x (is_one x));
        keeps = λ g h. h;
      },
    )
    by Greater e rest = (
      x ∷ rest.0,
      record {
        order = (rest.1.above x sorted.0 (finding_total.antisymm x f ∙ ap ordering_reverse e), rest.1.order);
        above = λ y all less. (all.0, rest.1.above y all.1 less);
        only = λ g h. elim (Contains-append_cases (x ∷ []) rest.0 g h) [
          | inl k ↦ inr (Contains-append_left (x ∷ []) xs g k)
          | inr k ↦ elim (rest.1.only g k) [ inl same ↦ inl same | inr old ↦ inr (Contains-append_right (x ∷ []) xs g old) ]
        ];
        here = Contains-append_right (x ∷ []) rest.0 f rest.1.here;
        keeps = λ g h. elim (Contains-append_cases (x ∷ []) xs g h) [
          | inl k ↦ Contains-append_left (x ∷ []) rest.0 g k
          | inr k ↦ Contains-append_right (x ∷ []) rest.0 g (rest.1.keeps g k)
        ];
      },
    )

in_order : (xs : List Finding) → (out : List Finding) × AreExactly (Contains xs) out
unfolding IsStrictlySortedBy
in_order [] = ([], record { in_order = tt; only = λ f h. h; all = λ f h. h })
in_order (x ∷ xs) =
    let rest = in_order xs in
    let with = placed x rest.0 rest.1.in_order in (
      with.0,
      record {
        in_order = with.1.order;
        only = λ f h. elim (with.1.only f h) [
          | inl same ↦ subst (Contains (x ∷ xs)) same (Contains-append_left (x ∷ []) xs x (is_one x))
          | inr old ↦ Contains-append_right (x ∷ []) xs f (rest.1.only f old)
        ];
        all = λ f h. elim (Contains-append_cases (x ∷ []) xs f h) [
          | inl k ↦ subst (Contains with.0) (one_is x f k) with.1.here
          | inr k ↦ with.1.keeps f (rest.1.all f k)
        ];
      },
    )

first_found : (rules : List (Finding → Type 0)) → AllListed rules → ThereIs (FirstFound rules)
first_found [] all none = none [] refl
first_found (Stands ∷ later) all none =
    all.0 (λ more x. let found = in_order more in by found.0 (listed_all more found.0 x found.1) (first_found later all.1))
  where
    by : (found : List Finding) → AreExactly Stands found → ThereIs (FirstFound later) → ⊥
    by [] lists rest = rest (λ l h. none l (inr (none_listed [] lists refl, h)))
    by (f ∷ found) lists rest = none (f ∷ found) (inl (lists, λ e. cc))

-- ---- the parts of a file

first_line : (text : List ℕ) → 0 < length text → ((line : TextLine) (rest : List ℕ) → IsFirstLine text line rest → ⊥) → ⊥
first_line text some none = by (position (λ b. eqb b 10) text) refl
  where
    by : (o : Option ℕ) → position (λ b. eqb b 10) text ≡ o → ⊥
    by None e = none _ [] (line_none text (byte_none 10 text e) some)
    by (Some i) e =
        let at = byte_found 10 text i e in
        either ((content : List ℕ) × (take i text ≡ content ++ 13 ∷ [])) (λ x. elim x [
          | inl h ↦ none _ _ (line_crlf text h.0 i at h.1)
          | inr never ↦ none _ _ (line_lf text i at (λ front e. never (front, e)))
        ])

cut : (n : ℕ) (text : List ℕ) → length text ≤ n → ThereIs (AreCut text)
cut n [] le none = none [] refl
cut zero (b ∷ text) le none = absurd (omega (arith, le))
cut (suc n) (b ∷ text) le none = first_line (b ∷ text) (omega arith) (λ line rest first.
    cut n rest (omega (arith, le, line_falls (b ∷ text) rest line first)) (λ lines h. none (line ∷ lines) (rest, first, h)))

-- a line that spells a row adds one, and a line that spells none adds none
rows : (number : ℕ) (lines : List TextLine) → ThereIs (RowsFrom number lines)
rows number [] none = none [] refl
rows number (line ∷ lines) none =
    rows (number + 1) lines (λ more h.
    none more (inr (λ row is. none (record { line = number; descriptor = row.descriptor; items = row.items } ∷ more) (inl (record { line = number; descriptor = row.descriptor; items = row.items }, more, refl, refl, is, h)), h)))

pub some_findings : (given : Entries) (bytes : List ℕ) → ThereIs (Findings given bytes)
some_findings given bytes none =
    let text = after_byte_order_mark bytes in
    cut (length text) text (omega arith) (λ lines are. rows 1 lines (λ found h.
    let groups = some_groups found in
    let file : FileParts = record { lines = lines; rows = found; groups = groups.0 } in
    let parts : ArePartsOf bytes file = record { lines = lines_from_cut text lines are; rows = h; groups = groups.1 } in
    let entries = extended given (contents_of groups.0) in
    first_found (phases file ++ dictionary_phases given entries groups.0) (
      listed_lines lines,
      (
        listed_rules (Notes 0 Rule2 [] (found ≡ []) ∷ Among found (λ place row. OneOf (row_rules found place row)) ∷ []) (
          note,
          (
            listed_among found _ (λ place row. listed_rules (row_rules found place row) (note, (note, tt))),
            tt,
          ),
        ),
        (
          listed_groups groups.0,
          (listed_headers given entries groups.0, (listed_entries entries groups.0, tt)),
        ),
      ),
    )
    (λ l first. none l (file, parts, first))))
