-- Two clean files of the same bytes under the same entries are one.
use Rattle.std.proofs.Common.{◌≡◌, ℕ, List, sym, ap, subst, ◌∙◌}
use Rattle.ags_rows.specs.declared.rows.Group.{Group}
use Rattle.ags_rows.specs.Contents.{contents_of}
use Rattle.ags_rows.specs.Findings.{FileGroups}
use Rattle.ags_rows.proofs.Lemmas.{one_grouping}
use Rattle.ags_dict.specs.Entries.{Entries, extended}
use Rattle.ags_links.specs.Steps.{IsGraphOf}
use Rattle.ags_links.proofs.Lemmas.{one_graph}
use Rattle.ags_check.specs.Findings.{CheckedFile, file_of}
use Rattle.ags_check.specs.Laws.{OneCleanFile}
use Rattle.ags_check.proofs.Whole.{clean_entries}

-- two are one if each of their parts is
pub one_checked : (a b : CheckedFile) → a.given ≡ b.given → a.bytes ≡ b.bytes → a.groups ≡ b.groups → a.entries ≡ b.entries → a.graph ≡ b.graph → a ≡ b
one_checked a b p q r s t = λ i. record { given = p i; bytes = q i; groups = r i; entries = s i; graph = t i }

pub one_clean_file : OneCleanFile
one_clean_file a b x y given bytes =
    let groups = one_grouping a.bytes a.groups b.groups x.groups (subst (λ (all : List ℕ). FileGroups all b.groups) (sym bytes) y.groups) in
    let entries : a.entries ≡ b.entries = clean_entries a x ∙ ap (λ (g : Entries). extended g (contents_of a.groups)) given ∙ ap (λ (g : List Group). extended b.given (contents_of g)) groups ∙ sym (clean_entries b y) in
    let there : IsGraphOf (file_of a) b.graph = rw (groups, entries) y.graph in
    one_checked a b given bytes groups entries (one_graph (file_of a) a.graph b.graph x.graph there)
