-- A file that is written is read as what was written, and what is read can be written.
use Rattle.std.proofs.Common.{ℕ, List, [], ◌∷◌, flat_map, refl, sym, ap, subst, ◌∙◌, inl, inr}
use Rattle.ags_rows.specs.declared.rows.Group.{Group}
use Rattle.ags_rows.specs.declared.finding.Finding.{Finding}
use Rattle.ags_rows.specs.Groups.{rows_of}
use Rattle.ags_rows.specs.Stands.{StandsInLines, StandsInOrder, StandsInGroups}
use Rattle.ags_rows.specs.Findings.{FileParts, ArePartsOf, FirstFound, phases, FileGroups}
use Rattle.ags_rows.specs.Parsing.{later_phases}
use Rattle.ags_rows.specs.Contents.{Contents, contents_of}
use Rattle.ags_rows.specs.Writing.{written_lines, written_file, IsWellFormed}
use Rattle.ags_rows.specs.Laws.{WrittenFileIsRead}
use Rattle.ags_rows.proofs.Once.{one_grouping}
use Rattle.ags_rows.proofs.Written.{groups_from, groups_plain, lines_clear, rows_clear, lines_are, rows_written, contents_written}
use Rattle.ags_rows.proofs.WellFormed.{clear_first, read_plain}
use Rattle.ags_rows.proofs.Formed.{formed_clear, clear_formed}

abbrev file_of : List Contents → FileParts
file_of gs = record { lines = written_lines gs; rows = flat_map rows_of (groups_from 1 gs); groups = groups_from 1 gs }

file_is : (gs : List Contents) → IsWellFormed gs → ArePartsOf (written_file gs) (file_of gs)
file_is gs h = record { lines = lines_are gs (groups_plain gs h); rows = rows_written 1 gs (groups_plain gs h); groups = inl refl }

groups_clear : (gs : List Contents) → IsWellFormed gs → (f : Finding) → StandsInGroups (groups_from 1 gs) f → ⊥
groups_clear gs h = formed_clear (groups_from 1 gs) (subst IsWellFormed (sym (contents_written 1 gs)) h)

no_findings : (gs : List Contents) → IsWellFormed gs → FirstFound (phases (file_of gs)) []
no_findings gs h = inr (lines_clear gs (groups_plain gs h), inr (rows_clear gs h.some, inr (groups_clear gs h, refl)))

groups_are : (gs : List Contents) → IsWellFormed gs → FileGroups (written_file gs) (groups_from 1 gs)
groups_are gs h = (file_of gs, file_is gs h, no_findings gs h, refl, refl)

file_formed : (bytes : List ℕ) (groups : List Group) → FileGroups bytes groups → IsWellFormed (contents_of groups)
file_formed bytes groups h =
    let plain = read_plain bytes groups h in
    let order = (clear_first (StandsInLines h.0.lines) (later_phases h.0.rows h.0.groups) h.2).1 in
    let third = (clear_first (StandsInOrder h.0.rows) (StandsInGroups h.0.groups ∷ []) order).1 in
    let clear = (clear_first (StandsInGroups h.0.groups) [] third).0 in
    clear_formed groups plain.0 plain.1 (subst (λ (g : List Group). (f : Finding) → StandsInGroups g f → ⊥) h.4 clear)

pub file_is_read : WrittenFileIsRead
file_is_read = (
  λ gs h. (
    (file_of gs, file_is gs h, no_findings gs h),
    (groups_from 1 gs, groups_are gs h),
    λ groups is. ap (λ (l : List Group). contents_of l) (one_grouping (written_file gs) groups (groups_from 1 gs) is (groups_are gs h)) ∙ contents_written 1 gs,
  ),
  file_formed,
)
