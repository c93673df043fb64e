-- MINI is the file that is written of its table.
use Rattle.std.proofs.Common.{◌≡◌, ℕ, List, [], refl, sym, subst}
use Rattle.ags_rows.specs.declared.rows.Group.{Group}
use Rattle.ags_rows.specs.declared.built_in.TheConstants.{MINI}
use Rattle.ags_rows.specs.Contents.{contents_of}
use Rattle.ags_rows.specs.Findings.{RowFindings, FileGroups}
use Rattle.ags_rows.specs.Writing.{IsWellFormed, written_file}
use Rattle.ags_rows.specs.Mini.{mini_contents}
use Rattle.ags_rows.specs.Laws.{IsReadBack}
use Rattle.ags_rows.proofs.RoundTrip.{file_is_read}
use Rattle.ags_rows.proofs.ByTest.{formed_by_test}

-- both are computed
pub mini_formed : IsWellFormed mini_contents
mini_formed = formed_by_test mini_contents refl

pub mini_written : MINI.now ≡ written_file mini_contents
mini_written = refl

read_back : IsReadBack mini_contents
read_back = file_is_read.0 mini_contents mini_formed

pub mini_clear : RowFindings MINI.now []
mini_clear = subst (λ (bytes : List ℕ). RowFindings bytes []) (sym mini_written) read_back.0

pub mini_groups : (groups : List Group) × FileGroups MINI.now groups × (contents_of groups ≡ mini_contents)
mini_groups =
    let groups = read_back.1.0 in
    (groups, subst (λ (bytes : List ℕ). FileGroups bytes groups) (sym mini_written) read_back.1.1, read_back.2 groups read_back.1.1)
