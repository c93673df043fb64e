use Rattle.std.proofs.Common.{ap, ◌∙◌}
use Rattle.std.proofs.lemmas.Result.{IfOk-weaker}
use Rattle.ags_rows.specs.Contents.{contents_of}
use Rattle.ags_dict.specs.Entries.{Entries, extended}
use Rattle.ags_dict.proofs.dictionary.Dictionary.extend.Goals as goal

pub returns : goal.returns
returns c =
    IfOk-weaker c.take_contents.result _ _
    (λ taken same. same ∙ ap (λ (e : Entries). extended e (contents_of c.groups.result.now)) c.in_ok-again.ensures ∙ ap (λ groups. extended c.args.self.now (contents_of groups)) c.groups.ensures) c.take_contents.ensures
