use Rattle.std.proofs.Common.{not, false, option_copied, sym, ap, ◌∙◌}
use Rattle.std.specs.Option.{option_map_or}
use Rattle.std.specs.Str.{bytes_eq}
use Rattle.ags_dict.specs.Index.{of_group}
use Rattle.ags_dict.proofs.headings.indexed.IndexedHeadings.is_of_other.Goals as goal

pub returns-in-Some : goal.returns-in-Some
returns-in-Some c =
    let group = c.args.group.now in
    c.ne.ensures ∙ ap (λ text. not (bytes_eq text group)) c.as_slice.ensures
    ∙ ap (λ entry. option_map_or (λ e. not (of_group group e)) entry false) (sym (ap option_copied c.in-Some.is) ∙ c.at.ensures)
