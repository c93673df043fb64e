-- The parent rows of each row, listed one look-up at a time.
use Rattle.std.proofs.Common.{◌≡◌, ℕ, ◌+◌, ◌-◌, ◌<◌, List, [], ◌∷◌, ◌++◌, length, get_or, set, take, drop, map, refl, sym, ap, subst, ◌∙◌, arith, inl, inr, All, Contains, Vec}
use Rattle.std.specs.declared.alloc.Global.{Global}
use Rattle.std.proofs.lemmas.Bool.{cases_eq}
use Rattle.std.proofs.lemmas.List.{get_or-set_same, get_or-set_other, length-map, length-set, length-take-le, take_more, take-map, drop-map}
use Rattle.std.proofs.lemmas.List.Elements.{Contains-append_left, Contains-push, Contains-push_cases}
use Rattle.ags_rows.specs.declared.rows.Group.{Group}
use Rattle.ags_rows.specs.Contents.{field_at}
use Rattle.ags_dict.specs.Entries.{Entries}
use Rattle.ags_links.specs.declared.lookup.Span.{Span}
use Rattle.ags_links.specs.declared.parents.LinkPlaces.{LinkPlaces}
use Rattle.ags_links.specs.declared.parents.ParentLists.{ParentLists}
use Rattle.ags_links.specs.declared.parents.ParentLinks.{ParentLinks}
use Rattle.ags_links.specs.declared.placed.PlacedRow.{PlacedRow}
use Rattle.ags_rows.specs.Collecting.{At}
use Rattle.ags_links.specs.KeyTexts.{key_text}
use Rattle.ags_links.specs.Lookups.{Lookup, rows_between, IsSpanOf}
use Rattle.ags_links.specs.ParentRows.{AreListed, AreParentLists, AreSpansOf, HasUsers, IsAskedOf, IsLinkText, IsLookupAt, IsParentList, IsParentSpan, part_of, text_at}
use Rattle.ags_links.specs.Placing.{IsPlaced, row_of}
use Rattle.ags_links.proofs.Answering.{parents_listed}
use Rattle.ags_links.proofs.Heading.{entries_at}
use Rattle.ags_links.proofs.Kept.{kept_more, kept_next, kept_none, placed_at}
use Rattle.ags_links.proofs.RowLemmas.{at_cases, one_at, some_at}
use Rattle.ags_links.proofs.Sharing.{AreParents}
use Rattle.ags_rows.proofs.Lemmas.{at_map}

-- the rows of a span are those between its ends
part_between : (lookup : Lookup) (list : List ℕ) (span : Span) → list ≡ map (λ (p : List ℕ × ℕ). p.1) lookup → part_of list span ≡ rows_between lookup span.first span.end
part_between lookup list span is =
    ap (λ l. part_of l span) is
    ∙ ap (take (span.end - span.first)) (drop-map (λ (p : List ℕ × ℕ). p.1) span.first lookup)
    ∙ take-map (λ (p : List ℕ × ℕ). p.1) (span.end - span.first) (drop span.first lookup)

-- ---- the spans of the rows that use a look-up

module _ (rows : List PlacedRow) (of_groups : List LinkPlaces) (lookup : Lookup) where
  -- that of one more row
  pub spans_next : (users : List ℕ) (i n : ℕ) (old spans : List Span) (text : List ℕ) (span : Span) → i < length users → get_or users i 0 ≡ n → AreSpansOf rows of_groups lookup (take i users) old spans → IsLinkText rows of_groups n text
      → n < length spans → IsSpanOf lookup text span → AreSpansOf rows of_groups lookup (take (i + 1) users) old (set spans n span)
  spans_next users i n old spans text span lt is so_far is_text below here = subst (λ us. AreSpansOf rows of_groups lookup us old (set spans n span)) (sym (take_more users i 0 lt ∙ ap (λ m. take i users ++ m ∷ []) is)) (record {
    size = length-set spans n span ∙ so_far.size;
    noted = noted;
    kept = λ m d none. get_or-set_other spans n m span d (λ e. none (subst (Contains (take i users ++ n ∷ [])) (sym e) (Contains-push (take i users) n))) ∙ so_far.kept m d (λ h. none (Contains-append_left (take i users) (n ∷ []) m h));
  }) where
    noted : (m : ℕ) (other : PlacedRow) (ks : LinkPlaces) (s : Span) → Contains (take i users ++ n ∷ []) m → At rows m other → At of_groups other.place ks → At (set spans n span) m s → IsSpanOf lookup (text_at ks.places.items other) s
    noted m other ks s h at_other at_ks at_s = elim (cases_eq m n) [
      | inl e ↦
          let span_is : span ≡ s = sym (ap (λ j. get_or (set spans n span) j s) e ∙ get_or-set_same spans n span s below) ∙ at_s.1 in
          subst (IsSpanOf lookup (text_at ks.places.items other)) span_is (subst (λ t. IsSpanOf lookup t span) (is_text other ks (subst (λ j. At rows j other) e at_other) at_ks) here)
      | inr apart ↦
          let was : Contains (take i users) m = elim (Contains-push_cases (take i users) n m h) [ inl earlier ↦ earlier | inr last ↦ absurd (apart (sym last)) ] in
          so_far.noted m other ks s was at_other at_ks (omega (arith, at_s.0, length-set spans n span), sym (get_or-set_other spans n m span s apart) ∙ at_s.1)
    ]

-- ---- the rows of the look-ups, one look-up at a time

module _ (rows : List PlacedRow) (of_groups : List LinkPlaces) where
  -- the list has the rows of the look-up
  abbrev pub HasRows : ℕ → Lookup → Vec ℕ Global → Type 0
  HasRows place lookup list = list.items ≡ map (λ (p : List ℕ × ℕ). p.1) lookup

  -- none yet
  pub none_listed : (lists : List (Vec ℕ Global)) (spans : List Span) → lists ≡ [] → length spans ≡ length rows → AreListed rows of_groups [] lists spans
  none_listed lists spans none size = record {
    lookups = [];
    looked = kept_none (IsLookupAt rows of_groups) [] refl;
    alone = kept_none HasRows lists none;
    spanned = record {
      each_has = size;
      each = λ n row span at_row at_span links lookup at_links at_lookup. absurd (omega (arith, at_lookup.0));
    };
  }

  -- those of one more
  pub listed_next : (links : List ParentLinks) (i : ℕ) (lists : List (Vec ℕ Global)) (old new : List Span) (users : List ℕ) (of_group : ParentLinks) (lookup : Lookup) (list : Vec ℕ Global) → i < length links → of_group ≡ get_or links i of_group
      → AreListed rows of_groups (take i links) lists old → IsLookupAt rows of_groups i of_group lookup → HasRows i lookup list → HasUsers rows of_groups i users → AreSpansOf rows of_groups lookup users old new
      → AreListed rows of_groups (take (i + 1) links) (lists ++ list ∷ []) new
  listed_next links i lists old new users of_group lookup list lt is so_far looks has uses are = record {
    lookups = so_far.lookups ++ lookup ∷ [];
    looked = kept_next (IsLookupAt rows of_groups) links i so_far.lookups of_group lookup lt is so_far.looked looks;
    alone = kept_more HasRows so_far.lookups lists lookup list so_far.alone has;
    spanned = record { each_has = are.size ∙ so_far.spanned.each_has; each = spanned };
  } where
    count : length so_far.lookups ≡ i
    count = so_far.looked.each_has ∙ length-take-le i links (omega arith)

    spanned : (n : ℕ) (row : PlacedRow) (span : Span) → At rows n row → At new n span → IsParentSpan of_groups (so_far.lookups ++ lookup ∷ []) row span
    spanned n row span at_row at_span ks other at_ks at_other = elim (at_cases so_far.lookups lookup ks.lookup other at_other) [
      | inl was ↦
          let apart : Contains users n → ⊥ = λ h.
          let user = (uses n).0 h in
          let row_is : user.0 ≡ row = one_at rows n user.0 row user.2.stands at_row in
          let links_are : user.1 ≡ ks = one_at of_groups row.place user.1 ks (subst (λ (r : PlacedRow). At of_groups r.place user.1) row_is user.2.grouped) at_ks in
          omega (arith, was.0, count, user.2.uses, ap (λ (k : LinkPlaces). k.lookup) links_are) in
          so_far.spanned.each n row span at_row (omega (arith, at_span.0, are.size), sym (are.kept n span apart) ∙ at_span.1) ks other at_ks was
      | inr last ↦
          subst (λ l. IsSpanOf l (text_at ks.places.items row) span) last.1
          (are.noted n row ks span ((uses n).1 (row, ks, record { stands = at_row; grouped = at_ks; uses = last.0 ∙ count })) at_row at_ks at_span)
    ]

-- ---- all groups

pub lists_made : (groups : List Group) (entries : Entries) (rows : List PlacedRow) (links : List ParentLinks) (kept : ParentLists) (spans : List Span) → All (IsPlaced groups) rows → (listed : AreListed rows kept.of_groups.items links kept.lists.items spans) → AreParents entries rows groups kept.of_groups.items listed.lookups
    → AreParentLists entries rows kept spans
lists_made groups entries rows links kept spans placed listed parented = record {
  each_has = listed.spanned.each_has;
  each = made;
} where
  made : (n : ℕ) (row : PlacedRow) (span : Span) → At rows n row → At spans n span → IsParentList entries (map row_of rows) kept n row span
  made n row span at_row at_span =
      let at_group = placed_at groups rows n row placed at_row in
      let places = some_at kept.of_groups.items row.place (omega (arith, at_group.0, parented.each_has)) in
      let index = parented.each row.place row.group.now places.0 at_group places.1 in
      let list = some_at kept.lists.items places.0.lookup (omega (arith, index.stands.0, listed.alone.each_has)) in
      let is : list.0.items ≡ map (λ (p : List ℕ × ℕ). p.1) index.lookup = listed.alone.each places.0.lookup index.lookup list.0 index.stands list.1 in
      let spans_it = listed.spanned.each n row span at_row at_span places.0 index.lookup places.1 index.stands in
      let text = text_at places.0.places.items row in
      record {
        links = places.0;
        list = list.0;
        grouped = places.1;
        stands = list.1;
        inside = (spans_it.0.0, omega (arith, spans_it.0.1, ap length is, length-map index.lookup (λ (p : List ℕ × ℕ). p.1)));
        lists = parents_listed entries (map row_of rows) n (row_of row) index.names index.lookup (IsAskedOf rows kept.of_groups.items places.0.lookup) text (part_of list.0.items span) (at_map row_of rows n row at_row) index.headings index.finds
            (n, row, places.0, record { stands = at_row; grouped = places.1; uses = refl }, refl)
            (part_between index.lookup list.0.items span is ∙ spans_it.1)
            (ap (λ ps. key_text (map (field_at (row_of row).fields) ps)) index.places ∙ ap key_text (entries_at (row_of row) index.names));
      }
