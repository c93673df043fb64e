-- What an index keeps, said of the file that contracts see.
use Rattle.std.proofs.Common.{◌≡◌, ℕ, All, get_or, ◌<◌, List, length, map, sym, ap, subst, ◌∙◌}
use Rattle.std.proofs.lemmas.List.{length-map}
use Rattle.ags_rows.specs.declared.rows.Group.{Group}
use Rattle.ags_rows.specs.Contents.{contents_of}
use Rattle.ags_dict.specs.Entries.{Entries}
use Rattle.ags_links.specs.declared.families.Family.{Family}
use Rattle.ags_links.specs.declared.parents.ParentLists.{ParentLists}
use Rattle.ags_links.specs.declared.lookup.Span.{Span}
use Rattle.ags_links.specs.Lookups.{Lookup, Finds}
use Rattle.ags_links.specs.declared.placed.PlacedRow.{PlacedRow}
use Rattle.ags_links.specs.declared.separators.Separators.{Separators}
use Rattle.ags_rows.specs.Collecting.{At}
use Rattle.ags_links.specs.DataRows.{DataFile, DataRow}
use Rattle.ags_links.specs.Families.{AreKept, HasText, HasKeyText, HasFileSet, AreFamilies}
use Rattle.ags_links.specs.Keys.{AreFirstsOfKeys}
use Rattle.ags_links.specs.ParentRows.{IsParentList}
use Rattle.ags_links.specs.Indexing.{Indexes, rows_in}
use Rattle.ags_links.specs.Placing.{IsPlaced, row_of}
use Rattle.ags_links.specs.RecordLinks.{separators_of}
use Rattle.ags_links.proofs.Kept.{placed_at}

module _ (groups : List Group) (entries : Entries) (rows : List PlacedRow) (kept : List Family) (parents : ParentLists) (spans : List Span) (firsts : List ℕ) (by_key by_file_set : Lookup) (separators : Separators) (f : DataFile)
    (index : Indexes groups entries rows kept parents spans firsts by_key by_file_set separators) (e : record { contents = contents_of groups; entries = entries } ≡ f) where
  pub inside_keyed : Finds by_key (HasText (rows_in f) (HasKeyText f.entries))
  inside_keyed = subst (λ (g : DataFile). Finds by_key (HasText (rows_in g) (HasKeyText g.entries))) e (subst (λ rs. Finds by_key (HasText rs (HasKeyText entries))) index.numbered index.keyed)

  pub inside_filed : Finds by_file_set (HasText (rows_in f) HasFileSet)
  inside_filed = subst (λ (g : DataFile). Finds by_file_set (HasText (rows_in g) HasFileSet)) e (subst (λ rs. Finds by_file_set (HasText rs HasFileSet)) index.numbered index.filed)

  pub inside_families : AreFamilies f.entries groups kept
  inside_families = subst (λ (g : DataFile). AreFamilies g.entries groups kept) e index.families

  pub inside_parents : AreKept rows spans (IsParentList f.entries (rows_in f) parents)
  inside_parents = subst (λ (g : DataFile). AreKept rows spans (IsParentList g.entries (rows_in g) parents)) e (subst (λ rs. AreKept rows spans (IsParentList entries rs parents)) index.numbered index.parented)

  pub inside_separators : separators ≡ separators_of f.contents
  inside_separators = subst (λ (g : DataFile). separators ≡ separators_of g.contents) e index.separated

  pub inside_rows : map row_of rows ≡ rows_in f
  inside_rows = subst (λ (g : DataFile). map row_of rows ≡ rows_in g) e index.numbered

  pub inside_firsts : AreFirstsOfKeys (rows_in f) f.entries firsts
  inside_firsts = subst (λ (g : DataFile). AreFirstsOfKeys (rows_in g) g.entries firsts) e (subst (λ rs. AreFirstsOfKeys rs entries firsts) index.numbered index.first)

pub rows_below : (rows : List PlacedRow) (found : List DataRow) (n : ℕ) → map row_of rows ≡ found → n < length found → n < length rows
rows_below rows found n e lt = subst (λ count. n < count) (sym (ap length e) ∙ length-map rows row_of) lt

-- the group of a row is at the row's place
pub group_at : (groups : List Group) (rows : List PlacedRow) (found : List DataRow) (n : ℕ) (x : PlacedRow) → map row_of rows ≡ found → n < length found → All (IsPlaced groups) rows → x ≡ get_or rows n x → At groups x.place x.group.now
group_at groups rows found n x e lt placed is = placed_at groups rows n x placed (rows_below rows found n e lt, sym is)
