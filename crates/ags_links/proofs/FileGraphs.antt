-- A file's graph has its steps, and so its walks; and no step starts at a definition row.
use Rattle.std.proofs.Common.{◌≡◌, ℕ, Bool, true, false, None, Some, List, sym, ap, ◌∙◌, arith, inl, inr}
use Rattle.std.specs.Prelude.{◌||◌, codes}
use Rattle.std.specs.Str.{bytes_eq}
use Rattle.std.proofs.lemmas.Bool.{true≢false, cond-true}
use Rattle.std.proofs.lemmas.Option.{none-some}
use Rattle.ags_text.specs.Names.{is_definition}
use Rattle.ags_dict.specs.Entries.{Entries, has_no_parent, parent_of}
use Rattle.ags_links.specs.declared.separators.Separators.{Separators}
use Rattle.ags_links.specs.DataRows.{DataRow}
use Rattle.ags_links.specs.Laws.{DefinitionsHaveNoStep, GraphsWalkAsFiles}
use Rattle.ags_links.specs.RecordLinks.{separators_of}
use Rattle.ags_links.specs.Steps.{Step, StepAt}
use Rattle.ags_links.specs.Walks.{HasStep, IsMarked}
use Rattle.ags_links.proofs.RowLemmas.{one_at}
use Rattle.ags_links.proofs.WalkLemmas.{reaches_same, shown_same, reached_same}

pub graphs_walk_as_files : GraphsWalkAsFiles
graphs_walk_as_files file graph is =
    let same = is.steps.exact in
    record {
      steps = same;
      reaches = reaches_same (HasStep graph.steps) (StepAt file) same;
      shown = λ permitted. shown_same (HasStep graph.steps) (StepAt file) same (IsMarked permitted);
      reached = λ from. reached_same (HasStep graph.steps) (StepAt file) same (IsMarked from);
    }

-- ---- definition rows

-- what is TRAN, ABBR, UNIT, TYPE or DICT is one of the groups that have no parent
one_of_more : (proj tran abbr dict unit type file : Bool) → (tran || (abbr || (unit || (type || (dict || false))))) ≡ true → (proj || (tran || (abbr || (dict || (unit || (type || (file || false))))))) ≡ true
one_of_more p t a d u y f e = grind arith

no_parent : (name : List ℕ) → is_definition name ≡ true → has_no_parent name ≡ true
no_parent name d =
    one_of_more (bytes_eq name (codes "PROJ")) (bytes_eq name (codes "TRAN")) (bytes_eq name (codes "ABBR")) (bytes_eq name (codes "DICT")) (bytes_eq name (codes "UNIT"))
    (bytes_eq name (codes "TYPE")) (bytes_eq name (codes "FILE")) d

-- a definition group has no parent group
pub definition_orphan : (entries : Entries) (name parent : List ℕ) → is_definition name ≡ true → parent_of entries name ≡ Some parent → ⊥
definition_orphan entries name parent d is = none-some parent (sym (cond-true (has_no_parent name) None _ (no_parent name d)) ∙ is)

no_step_from : (entries : Entries) (separators : Separators) (r s : DataRow) → is_definition r.group ≡ true → Step entries separators r s → ⊥
no_step_from entries separators r s d (inl is) = definition_orphan entries r.group s.group d is.0
no_step_from entries separators r s d (inr (inl link)) = true≢false (sym d ∙ link.0)
no_step_from entries separators r s d (inr (inr row)) = true≢false (sym d ∙ row.0)

pub definitions_have_no_step : DefinitionsHaveNoStep
definitions_have_no_step file n m row at d step =
    let same = one_at _ n row step.0 at step.2 in
    no_step_from file.entries (separators_of file.contents) step.0 step.1 (ap (λ (x : DataRow). is_definition x.group) (sym same) ∙ d) step.4
