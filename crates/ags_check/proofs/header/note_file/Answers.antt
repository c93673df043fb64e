use Rattle.std.proofs.Common.{List, ap, ◌∙◌}
use Rattle.std.proofs.lemmas.Result.{on_ok_weaker}
use Rattle.ags_rows.specs.Contents.{contents_of}
use Rattle.ags_rows.proofs.Lemmas.{one_more}
use Rattle.ags_check.specs.Header.{unknown_code, file_rules}
use Rattle.ags_check.proofs.header.note_file.Goals as goal

pub returns : goal.returns
returns c =
    let file = contents_of c.args.file.now in
    let code = c.unknown_code-code.ensures ∙ ap (λ (l : List _). unknown_code (contents_of l)) c.groups.ensures in
    let first = rw code at c.in_ok-note_all_header_rows.ensures in
    on_ok_weaker c.note_absent_groups.result (λ last. one_more _ (file_rules file) _ _ _ first last) c.note_absent_groups.ensures
